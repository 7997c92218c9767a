use Rattle.std.proofs.Common.{◌*◌, length, drop, ap, ◌∙◌, arith}
use Rattle.std.proofs.Math.ListN.{get_or}
use Rattle.kfs_model.specs.Limits.{block_size}
use Rattle.kfs_model.specs.Device.ShownTree.{shown_tree}
use Rattle.kfs_desk.specs.Fill.Bytes.{entries_of, pieces_of}
use Rattle.kfs_desk.proofs.FillLemmas.BlockBytes.{block_is}
use Rattle.kfs_desk.proofs.fill.bytes.patched_bytes.Goals as goal

pub returns : goal.returns
returns g c =
    block_is (shown_tree c.args.image.now) (entries_of c.args.log.now) (pieces_of c.args.log.now) c.args.number c.args.block block_size (c.from-start.result * 4096) c.in_ok-bytes.bytes.len
    c.as_mut_slice.result.now c.put_pieces.new.bytes (drop (length c.put_pieces.new.bytes) c.in_ok-bytes.bytes.items)
    (omega (arith, c.from-start.ensures))
    (omega (arith, c.as_mut_slice.ensures.len, c.in_ok-bytes.ensures.len))
    (omega (arith, c.as_mut_slice.ensures.len, c.in_ok-bytes.ensures.len, c.put_pieces.auto.bytes))
    (omega (arith, c.in_ok-bytes.ensures.len))
    (λ k below. ap (λ bytes. get_or bytes k 0) c.as_mut_slice.ensures.value ∙ c.in_ok-bytes.ensures.bytes k (omega (arith, below, c.in_ok-bytes.ensures.len, c.in_ok-bytes.bytes.ok.0)))
    c.put_pieces.ensures
