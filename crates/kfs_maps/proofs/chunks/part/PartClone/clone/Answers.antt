use Rattle.std.proofs.Common.{◌∙◌, ◌≤◌, sym, subst, T}
use Rattle.std.specs.FinMap.Entries.{is_sorted}
use Rattle.kfs_maps.specs.Chunks.Joined.{IsSized}
use Rattle.kfs_maps.proofs.ChunksLemmas.Parts.{copied_joined, copied_each, copied_length}
use Rattle.kfs_maps.proofs.chunks.part.PartClone.clone.Goals as goal

pub invariant_of-result : goal.invariant_of-result
invariant_of-result g c =
    let xs = c.self.inside.chunks.items in
    let ys = c.in_ok-clone.field-0.items in
    let same = c.in_ok-clone.ensures.cases.0 in
    let long = copied_length _ (λ a b same. same) xs ys same in (
      subst (λ es. T (is_sorted g.K.Ord.cmp es)) (sym (copied_joined _ (λ a b same. same) xs ys same)) c.self.invariant.0,
      copied_each _ (λ a b same. same) IsSized xs ys same c.self.invariant.1,
      subst (λ n. 1 ≤ n) (sym long) c.self.invariant.2,
      subst (λ n. n ≤ 64) (sym long) c.self.invariant.3,
    )

pub returns : goal.returns
returns g c = record { cases = copied_joined _ (λ a b same. same) c.self.inside.chunks.items c.in_ok-clone.field-0.items c.in_ok-clone.ensures.cases.0 ∙ (λ i. (c.self.view_is i).pairs) }
