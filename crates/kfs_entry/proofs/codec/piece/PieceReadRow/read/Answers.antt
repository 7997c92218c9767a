use Rattle.std.proofs.Common.{drop, arith}
use Rattle.kfs_types.specs.Views.{piece_of}
use Rattle.kfs_model.proofs.PlanLaws.{piece_field}
use Rattle.kfs_entry.proofs.CodecLemmas.Found.{is_found, is_none}
use Rattle.kfs_entry.proofs.codec.piece.PieceReadRow.read.Goals as goal

pub returns-clause-found : goal.returns-clause-found
returns-clause-found c =
    is_found piece_of piece_field c.args.source.now c.args.at c.read_piece.result (λ i. omega (arith, c.type_inv.source i)) c.read_piece.ensures.value c.read_piece.ensures.within

pub returns-clause-none : goal.returns-clause-none
returns-clause-none c = is_none piece_of piece_field c.args.source.now (drop c.args.at c.args.source.now) c.read_piece.result c.read_piece.ensures.value
