use Rattle.std.proofs.Common.{◌≤◌, length, drop, arith}
use Rattle.kfs_model.proofs.DeviceLemmas.ImageFields.{extent_field}
use Rattle.kfs_entry.proofs.CodecLemmas.Found.{is_found, is_none, IfSome-both, IfSome-weaker}
use Rattle.kfs_image.specs.Codec.Extents.{extent_in, IsInSource}
use Rattle.kfs_image.proofs.codec.extent.SpannedExtentReadRow.read.Goals as goal

pub returns-clause-found : goal.returns-clause-found
returns-clause-found c =
    let source = c.args.source.now in
    let within = c.read_row.ensures.within in
    let inside = IfSome-weaker (λ x. IsInSource (length source) x.0 × (x.1 ≤ length source)) (λ x. x.1 ≤ length source) (λ x h. h.1) c.read_row.result within in
    let found = is_found (extent_in source) extent_field source c.args.at c.read_row.result (λ i. omega (arith, c.type_inv.source i)) c.read_row.ensures.value inside in
    IfSome-both _ _ _ (λ x w f. ((w.0, f.0), f.1)) c.read_row.result within found

pub returns-clause-none : goal.returns-clause-none
returns-clause-none c = is_none (extent_in c.args.source.now) extent_field c.args.source.now (drop c.args.at c.args.source.now) c.read_row.result c.read_row.ensures.value
