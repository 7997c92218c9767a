use Rattle.std.proofs.Common.{◌≡◌, ◌∙◌, ◌<◌, ◌≤◌, ◌-◌, ℕ, ◌+◌, true, false, length, get_or, ap, sym, arith}
use Rattle.std.proofs.lemmas.List.{get_or_default}
use Rattle.std.specs.Range.Bound.{bound_map}
use Rattle.kfs_maps.specs.Chunks.Starts.{reaches}
use Rattle.kfs_maps.proofs.ChunksLemmas.FirstHere.{first_here}
use Rattle.kfs_maps.proofs.ChunksLemmas.Sorted.{order_by}
use Rattle.kfs_maps.proofs.chunks.run.place_near.Goals as goal
use Rattle.kfs_maps.proofs.chunks.run.place_near.Goals.{else-near-runs-via-then-near-runs+else-not-reaches, else-near-runs-via-else-near-runs, else-near-gt0-via-then-near-gt0+else-reaches, else-near-gt0-via-else-near-gt0}

pub returns : goal.returns
returns g c =
    let cmp = g.K.Ord.cmp in
    let start = bound_map g.Q.Sought.key c.args.start.now in
    let cs = c.args.runs.now in
    let near = c.min-near.result in
    let least : near ≤ length cs = omega (arith, c.min-near.ensures) in
    let entries = g.R.Run.entries in
    let order = order_by g.K.Key.order cmp g.met.K.Key.compared in
    let here = elim c.else-near-runs.branch as (λ _. near < length cs → (d : _) → reaches cmp start (entries (get_or cs near d).value) ≡ true) [
      | else-near-runs-via-then-near-runs+else-not-reaches w ↦ λ within d.
          let one = w.index-runs-near.result in
          ap (λ run. reaches cmp start (entries run.value)) (get_or_default cs near d one within ∙ sym w.index-runs-near.is) ∙ ap (λ held. reaches cmp start (entries held)) (sym w.deref.ensures) ∙ sym w.reaches.ensures ∙ w.if-not-reaches.false
      | else-near-runs-via-else-near-runs w ↦ λ within d. absurd (omega (arith, within, w.if-near-runs.false))
    ] in
    let past = elim c.else-near-gt0.branch as (λ _. (j : ℕ) → j + 1 ≡ near → (d : _) → reaches cmp start (entries (get_or cs j d).value) ≡ false) [
      | else-near-gt0-via-then-near-gt0+else-reaches w ↦ λ j next d.
          let one = w.index-runs-near-then-near-gt0.result in
          ap (λ k. reaches cmp start (entries (get_or cs k d).value)) {x = j} {y = near - 1} (omega (arith, next))
          ∙ ap (λ run. reaches cmp start (entries run.value)) (get_or_default cs (near - 1) d one (omega (arith, next, least)) ∙ sym w.index-runs-near-then-near-gt0.is) ∙ ap (λ held. reaches cmp start (entries held)) (sym w.deref-then-near-gt0.ensures) ∙ sym w.reaches-then-near-gt0.ensures ∙ w.if-reaches.false
      | else-near-gt0-via-else-near-gt0 w ↦ λ j next d. absurd (omega (arith, next, w.if-near-gt0.false))
    ] in
    sym (first_here order entries start cs near c.requires.sorted c.requires.filled least here past)
