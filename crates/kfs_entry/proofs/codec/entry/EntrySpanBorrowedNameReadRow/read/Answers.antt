use Rattle.std.proofs.Common.{◌≤◌, length, drop, arith}
use Rattle.kfs_types.specs.Views.{entry_of, IsWithin}
use Rattle.kfs_model.proofs.EntryLaws.{entry_field}
use Rattle.kfs_entry.proofs.CodecLemmas.Found.{is_found, is_none, IfSome-both, IfSome-weaker}
use Rattle.kfs_entry.proofs.codec.entry.EntrySpanBorrowedNameReadRow.read.Goals as goal

pub returns-clause-found : goal.returns-clause-found
returns-clause-found c =
    let source = c.args.source.now in
    let within = c.read_entry.ensures.within in
    let inside = IfSome-weaker (λ x. IsWithin (length source) x.0 × (x.1 ≤ length source)) (λ x. x.1 ≤ length source) (λ x h. h.1) c.read_entry.result within in
    let found = is_found (entry_of source) (entry_field c.args.version) source c.args.at c.read_entry.result (λ i. omega (arith, c.type_inv.source i)) c.read_entry.ensures.value inside in
    IfSome-both _ _ _ (λ x w f. ((w.0, f.0), f.1)) c.read_entry.result within found

pub returns-clause-none : goal.returns-clause-none
returns-clause-none c = is_none (entry_of c.args.source.now) (entry_field c.args.version) c.args.source.now (drop c.args.at c.args.source.now) c.read_entry.result c.read_entry.ensures.value
