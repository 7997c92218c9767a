use Rattle.std.proofs.Common.{drop, arith}
use Rattle.kfs_types.specs.Views.{name_row_of}
use Rattle.kfs_model.proofs.PlanLaws.{name_row_field}
use Rattle.kfs_entry.proofs.CodecLemmas.Found.{is_found, is_none}
use Rattle.kfs_entry.proofs.codec.name_row.NameRowBorrowedNameReadRow.read.Goals as goal

pub returns-clause-found : goal.returns-clause-found
returns-clause-found c =
    is_found name_row_of name_row_field c.args.source.now c.args.at c.read_row.result (λ i. omega (arith, c.type_inv.source i)) c.read_row.ensures.value c.read_row.ensures.within

pub returns-clause-none : goal.returns-clause-none
returns-clause-none c = is_none name_row_of name_row_field c.args.source.now (drop c.args.at c.args.source.now) c.read_row.result c.read_row.ensures.value
