use Rattle.std.proofs.Common.{◌++◌, map, refl, sym, ap, ◌∙◌}
use Rattle.std.proofs.lemmas.List.{nil_from_length}
use Rattle.std.specs.Vec.Iter.{into_iter_items}
use Rattle.kfs_image.specs.Blocks.Fill.{new_part, row_part}
use Rattle.kfs_image.proofs.BlocksLemmas.FilledBlocks.{next_row, no_row_left}
use Rattle.kfs_image.proofs.blocks.fill.moved.Goals as goal

pub loop-row-init : goal.loop-row-init
loop-row-init g c = record {
  ready = tt;
  finite = tt;
  alike = ap (λ blocks. map new_part blocks ++ map row_part (into_iter_items c.into_iter-row-iterator.result)) c.in_ok-written.ensures.items ∙ ap (map row_part) c.into_iter-row-iterator.ensures.into_iter_gives.0;
}

pub loop-row-preserved : goal.loop-row-preserved
loop-row-preserved g c = record {
  ready = tt;
  finite = tt;
  alike = next_row c.in-Some.row _ c.loop-row.written.items c.push.new.self.items (into_iter_items c.loop-row.row-iterator) (into_iter_items c.next.new.self) _ c.in-Some.ensures.steps.0 c.in_ok-push.ensures.items refl c.loop-row.invariant.alike;
}

pub returns : goal.returns
returns g c =
    no_row_left c.loop-row.written.items (into_iter_items c.loop-row.row-iterator) _ (nil_from_length (into_iter_items c.loop-row.row-iterator) (sym c.loop-row.row-iterator.rest.ok.0 ∙ c.in-None.ensures.steps.0))
    c.loop-row.invariant.alike
