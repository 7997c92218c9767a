use Rattle.std.proofs.Common.{arith}
use Rattle.kfs_types.specs.Views.{piece_of}
use Rattle.kfs_desk.specs.Fill.Bytes.{entries_of}
use Rattle.kfs_desk.proofs.FillLemmas.PutPieces.{put_part}
use Rattle.kfs_desk.proofs.fill.bytes.put_piece.Goals as goal

pub returns : goal.returns
returns g c =
    put_part (entries_of c.args.log.now) (piece_of c.args.piece.now) c.args.number c.args.start c.args.bytes.now c.put_source.new.bytes
    c.saturating_sub-first.result c.saturating_sub-distance.result c.min-count.result _
    (omega arith) c.saturating_sub-first.ensures c.saturating_sub-distance.ensures (omega arith) (omega arith) (omega arith) (omega arith) c.put_source.ensures
