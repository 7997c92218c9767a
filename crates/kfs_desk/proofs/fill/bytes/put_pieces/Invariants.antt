use Rattle.kfs_desk.specs.Fill.Bytes.{entries_of}
use Rattle.kfs_desk.proofs.FillLemmas.PutPieces.{ArePutBehind}
use Rattle.kfs_desk.proofs.fill.bytes.put_pieces.Given as goal

abbrev pub invariant-loop-piece : goal.invariant-loop-piece
invariant-loop-piece g l = ArePutBehind (entries_of l.log) l.log.pieces.now l.piece-iterator.iter.rest.now l.number l.start l.initial.bytes l.bytes
