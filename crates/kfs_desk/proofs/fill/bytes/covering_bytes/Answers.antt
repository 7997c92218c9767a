use Rattle.std.proofs.Common.{sym, arith}
use Rattle.std.proofs.lemmas.Bool.{ltb-true}
use Rattle.kfs_desk.specs.Fill.Bytes.{entries_of}
use Rattle.kfs_desk.proofs.FillLemmas.PutPieces.{put_where_found}
use Rattle.kfs_desk.proofs.fill.bytes.covering_bytes.Goals as goal

pub returns-clause-put : goal.returns-clause-put
returns-clause-put g c =
    let piece = c.in_ok-piece.piece.now in
    put_where_found (entries_of c.args.log.now) c.args.log.now.pieces.now piece c.args.number c.args.start _ c.block_of.result
    (ltb-true _ _ (sym c.in_ok-piece.ensures.item.0)) c.in_ok-piece.ensures.item.1
    (c.covers_block.ensures.number c.if-not-covers_block.false) (c.covers_block.ensures.begins c.if-not-covers_block.false) (omega arith) (c.covers_block.ensures.ends c.if-not-covers_block.false)
    c.block_of.ensures.whole c.block_of.ensures.given
