use Rattle.std.proofs.Common.{◌∙◌}
use Rattle.std.proofs.lemmas.List.{nil_from_length}
use Rattle.kfs_desk.specs.Fill.Bytes.{entries_of}
use Rattle.kfs_desk.proofs.FillLemmas.PutPieces.{none_behind, last_behind, all_behind}
use Rattle.kfs_desk.proofs.fill.bytes.put_pieces.Goals as goal

pub loop-piece-init : goal.loop-piece-init
loop-piece-init g c =
    none_behind (entries_of c.args.log.now) c.args.log.now.pieces.now c.args.number c.args.start c.args.bytes.now c.into_iter-piece-iterator.result.iter.rest.now
    ((λ i. (c.into_iter-piece-iterator.ensures.into_iter_gives i).iter.rest.now) ∙ (λ i. (c.rev-piece-items.ensures.source i).rest.now) ∙ c.iter.ensures.rest)

pub loop-piece-preserved : goal.loop-piece-preserved
loop-piece-preserved g c =
    last_behind (entries_of c.args.log.now) c.args.log.now.pieces.now c.args.number c.args.start c.args.bytes.now c.loop-piece.piece-iterator.iter.rest.now c.next.new.self.iter.rest.now
    c.in-Some.piece.now c.loop-piece.bytes c.put_piece.new.bytes c.in-Some.ensures.steps c.loop-piece.auto.bytes c.put_piece.ensures c.loop-piece.invariant

pub returns : goal.returns
returns g c =
    let left = c.loop-piece.piece-iterator.iter.rest.now in
    all_behind (entries_of c.args.log.now) c.args.log.now.pieces.now c.args.number c.args.start c.args.bytes.now left c.loop-piece.bytes
    (nil_from_length left c.in-None.ensures.steps.0) c.loop-piece.invariant
