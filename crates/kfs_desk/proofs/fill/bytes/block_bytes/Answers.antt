use Rattle.std.proofs.Common.{◌*◌, ◌∙◌, arith}
use Rattle.kfs_model.specs.Limits.{block_size}
use Rattle.kfs_model.specs.Device.ShownTree.{shown_tree}
use Rattle.kfs_desk.specs.Fill.Bytes.{entries_of, pieces_of}
use Rattle.kfs_desk.proofs.FillLemmas.BlockBytes.{covered_is}
use Rattle.kfs_desk.proofs.fill.bytes.block_bytes.Goals as goal

pub returns-in_ok-bytes-in-Some : goal.returns-in_ok-bytes-in-Some
returns-in_ok-bytes-in-Some g c =
    c.in_ok-bytes-in-Some.ensures
    ∙ covered_is (shown_tree c.args.image.now) (entries_of c.args.log.now) (pieces_of c.args.log.now) c.args.number c.args.block block_size (c.from-start.result * 4096) c.in-Some.whole.now
    (omega (arith, c.from-start.ensures)) c.in-Some.ensures.whole c.in-Some.ensures.put
