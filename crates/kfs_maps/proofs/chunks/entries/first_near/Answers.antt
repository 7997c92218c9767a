use Rattle.std.proofs.Common.{◌≡◌, ◌∙◌, ◌<◌, ◌≤◌, ◌-◌, ℕ, ◌+◌, true, false, length, get_or, ap, sym, arith}
use Rattle.std.proofs.lemmas.List.{get_or_default}
use Rattle.std.specs.declared.ops.Bound.TheVariants.{Included}
use Rattle.kfs_maps.specs.Chunks.Starts.{is_from}
use Rattle.kfs_maps.proofs.ChunksLemmas.FirstHere.{first_entry_here}
use Rattle.kfs_maps.proofs.ChunksLemmas.Sorted.{order_by}
use Rattle.kfs_maps.proofs.chunks.entries.first_near.Goals as goal
use Rattle.kfs_maps.proofs.chunks.entries.first_near.Goals.{else-near-pairs-via-then-near-pairs+else-not-is_from, else-near-pairs-via-else-near-pairs, else-near-gt0-via-then-near-gt0+else-is_from, else-near-gt0-via-else-near-gt0}

pub returns : goal.returns
returns g c =
    let cmp = g.K.Ord.cmp in
    let q = (g.Q.Sought.key c.args.key) in
    let es = c.args.pairs.now in
    let near = c.min-near.result in
    let least : near ≤ length es = omega (arith, c.min-near.ensures) in
    let order = order_by g.K.Key.order cmp g.met.K.Key.compared in
    let here = elim c.else-near-pairs.branch as (λ _. near < length es → (d : _) → is_from cmp (Included q) (get_or es near d).0 ≡ true) [
      | else-near-pairs-via-then-near-pairs+else-not-is_from w ↦ λ within d.
          ap (λ e. is_from cmp (Included q) e.0) (get_or_default es near d w.index-pairs-near.result within) ∙ sym w.is_from.ensures ∙ w.if-not-is_from.false
      | else-near-pairs-via-else-near-pairs w ↦ λ within d. absurd (omega (arith, within, w.if-near-pairs.false))
    ] in
    let past = elim c.else-near-gt0.branch as (λ _. (j : ℕ) → j + 1 ≡ near → (d : _) → is_from cmp (Included q) (get_or es j d).0 ≡ false) [
      | else-near-gt0-via-then-near-gt0+else-is_from w ↦ λ j next d.
          ap (λ k. is_from cmp (Included q) (get_or es k d).0) {x = j} {y = near - 1} (omega (arith, next))
          ∙ ap (λ e. is_from cmp (Included q) e.0) (get_or_default es (near - 1) d w.index-pairs-near-then-near-gt0.result (omega (arith, next, least)))
          ∙ sym w.is_from-then-near-gt0.ensures ∙ w.if-is_from.false
      | else-near-gt0-via-else-near-gt0 w ↦ λ j next d. absurd (omega (arith, next, w.if-near-gt0.false))
    ] in
    sym (first_entry_here order (Included q) es near c.requires.sorted least here past)
