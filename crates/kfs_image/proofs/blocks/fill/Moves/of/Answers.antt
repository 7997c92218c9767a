use Rattle.std.proofs.Common.{refl, sym, ◌∙◌, arith}
use Rattle.kfs_model.specs.Table.{numbers, pairs, get}
use Rattle.kfs_maps.specs.Chunks.Tables.{table}
use Rattle.kfs_maps.proofs.ChunksLemmas.Tables.{get-table}
use Rattle.kfs_image.proofs.BlocksLemmas.EditedPlaces.{left_step, left_end}
use Rattle.kfs_image.proofs.blocks.fill.Moves.of.Goals as goal

pub loop-edit-preserved : goal.loop-edit-preserved
loop-edit-preserved g c =
    let placement = table (pairs numbers numbers) c.args.placement.now in
    let was = c.copied-was.ensures ∙ c.get_near.ensures ∙ sym (get-table (pairs numbers numbers) c.args.placement.now c.edit-item.result.key) in
    record {
      given = left_step (λ e. get placement e.key) (λ e. e.value) c.args.edits.now c.loop-edit.edit-index c.edit-item.result c.copied-was.result c.edit-item.result.value c.loop-edit.given.items c.push_left.new.places.items _
          c.loop-edit-test.true c.edit-item.is was refl c.in_ok-push_left.ensures c.loop-edit.invariant.given;
      taken = left_step (λ e. e.value) (λ e. get placement e.key) c.args.edits.now c.loop-edit.edit-index c.edit-item.result c.edit-item.result.value c.copied-was.result c.loop-edit.taken.items c.push_left-in-loop-edit.new.places.items _
          c.loop-edit-test.true c.edit-item.is refl was c.in_ok-push_left-2.ensures c.loop-edit.invariant.taken;
    }

pub returns-clause-given : goal.returns-clause-given
returns-clause-given g c =
    left_end (λ e. get (table (pairs numbers numbers) c.args.placement.now) e.key) (λ e. e.value) c.args.edits.now c.loop-edit.edit-index c.loop-edit.given.items _ (omega (arith, c.loop-edit-test.false)) c.loop-edit.invariant.given

pub returns-clause-taken : goal.returns-clause-taken
returns-clause-taken g c =
    left_end (λ e. e.value) (λ e. get (table (pairs numbers numbers) c.args.placement.now) e.key) c.args.edits.now c.loop-edit.edit-index c.loop-edit.taken.items _ (omega (arith, c.loop-edit-test.false)) c.loop-edit.invariant.taken
