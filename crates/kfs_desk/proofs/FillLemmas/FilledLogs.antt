-- Rows of the written blocks at the least free places, and the runs of those made zero, are the fill of a log.
use Rattle.std.proofs.Common.{◌≡◌, ℕ, ◌≤◌, min, true, List, length, take, map, sym, ap, subst, ◌∙◌, arith, length-take}
use Rattle.std.proofs.lemmas.List.{map-id, take_all}
use Rattle.std.proofs.lemmas.Simd.{map-map}
use Rattle.kfs_model.specs.Judgement.{State, free_places}
use Rattle.kfs_model.specs.Machine.{are_chosen}
use Rattle.kfs_model.specs.Placement.{Place, Placement, TierSizes, in_first_tier, written_blocks}
use Rattle.kfs_types.specs.declared.plan.NodeRow.{NodeRow}
use Rattle.kfs_model.specs.Device.ShownTree.{DeviceImage, shown_tree}
use Rattle.kfs_image.specs.Tier.Unused.{unused_places}
use Rattle.kfs_image.specs.declared.blocks.fill.BlockRow.{BlockRow}
use Rattle.kfs_image_nodes.specs.Change.{reheaded}
use Rattle.kfs_image.specs.declared.net.Fill.{Fill}
use Rattle.kfs_desk.specs.declared.fill.bytes.LogBytes.{LogBytes}
use Rattle.kfs_desk.specs.Fill.Bytes.{entries_of, pieces_of}
use Rattle.kfs_desk.specs.Fill.Fill.{AreRowsOf}
use Rattle.kfs_desk.specs.Fill.FillOf.{AreMadeZero, AreWritten, IsFillOf, places_of}
use Rattle.kfs_desk.specs.History.Least.{AreLeast}
use Rattle.kfs_desk.proofs.HistoryLemmas.LeastPlaces.{least_chosen}

free_are : (s : State) (sizes : TierSizes) (placement : Placement) → s.sizes ≡ sizes → s.placement ≡ placement → free_places s ≡ unused_places sizes placement 0
unfolding free_places
free_are s sizes placement same_sizes same_placement = λ i. unused_places (same_sizes i) (same_placement i) 0

module _ {A : Type 0} (image : DeviceImage) (log : LogBytes A) (nodes : List NodeRow) (blocks : List (ℕ × ℕ)) (places : List ℕ) (fill : Fill A) where
  -- with the places of the rows
  places_are : map (λ (r : BlockRow A). r.place) fill.rows.items ≡ map in_first_tier places → places_of fill.rows.items ≡ places
  places_are laid = sym (map-map (λ (p : Place). p.place) (λ (r : BlockRow A). r.place) fill.rows.items) ∙ ap (map (λ (p : Place). p.place)) laid ∙ map-map (λ (p : Place). p.place) in_first_tier places ∙ map-id places

  pub is_fill : AreWritten (reheaded image.heads nodes) (pieces_of log) blocks → AreMadeZero (reheaded image.heads nodes) (pieces_of log) fill.zero.items
      → places ≡ take (length blocks) (unused_places image.sizes image.placement 0)
      → AreRowsOf (shown_tree image) (entries_of log) (pieces_of log) (take (length places) blocks) places fill.rows.items → IsFillOf image log nodes fill
  is_fill written cleared least rows s after marked_after tree placement sizes alike heads right room =
      let all : blocks ≡ written_blocks marked_after = written marked_after (alike ∙ sym heads) right in
      let free = unused_places image.sizes image.placement 0 in
      let few : length places ≡ min (length blocks) (length free) = ap length least ∙ length-take (length blocks) free in
      let enough : length blocks ≤ length free = subst (λ bs. length bs ≤ length free) (sym all) room in
      let many : length places ≡ length blocks = omega (arith, few, enough) in
      let front : take (length places) blocks ≡ written_blocks marked_after = take_all (length places) blocks (omega (arith, many)) ∙ all in
      let own = places_are rows.laid in
      let frees : free_places s ≡ free = free_are s image.sizes image.placement sizes placement in
      let at_front : places ≡ take (length (written_blocks marked_after)) (free_places s) = least ∙ ap (λ n. take n free) (ap length all) ∙ ap (take (length (written_blocks marked_after))) (sym frees) in
      let as_many : places ≡ take (length places) (free_places s) = at_front ∙ ap (λ n. take n (free_places s)) (sym (many ∙ ap length all)) in
      let room_enough : length (written_blocks marked_after) ≤ length (free_places s) = subst (λ fs. length (written_blocks marked_after) ≤ length fs) (sym frees) room in
      record {
        chosen = subst (λ ps. are_chosen s (written_blocks marked_after) ps ≡ true) (sym (own ∙ at_front)) (least_chosen s (written_blocks marked_after) room_enough);
        least = subst (AreLeast s) (sym own) as_many;
        rows = subst (λ t. AreRowsOf t (entries_of log) (pieces_of log) (written_blocks marked_after) (places_of fill.rows.items) fill.rows.items) (sym tree)
            (subst (λ bs. AreRowsOf (shown_tree image) (entries_of log) (pieces_of log) bs (places_of fill.rows.items) fill.rows.items) front
            (subst (λ ps. AreRowsOf (shown_tree image) (entries_of log) (pieces_of log) (take (length places) blocks) ps fill.rows.items) (sym own) rows));
        cleared = cleared after marked_after (sym heads) (alike ∙ sym heads) right;
      }
