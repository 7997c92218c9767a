use Rattle.std.proofs.Common.{◌∙◌, sym, subst, T}
use Rattle.std.specs.FinMap.Entries.{is_sorted}
use Rattle.kfs_maps.specs.Chunks.Joined.{IsNotEmpty}
use Rattle.kfs_maps.proofs.ChunksLemmas.Parts.{copied_joined, copied_each}
use Rattle.kfs_maps.proofs.chunks.chunks.ChunksClone.clone.Goals as goal

pub invariant_of-result : goal.invariant_of-result
invariant_of-result g c =
    let xs = c.self.inside.parts.items in
    let ys = c.in_ok-clone.field-0.items in
    let same = c.in_ok-clone.ensures.cases.0 in
    (subst (λ es. T (is_sorted g.K.Ord.cmp es)) (sym (copied_joined _ (λ a b same. same) xs ys same)) c.self.invariant.0, copied_each _ (λ a b same. same) IsNotEmpty xs ys same c.self.invariant.1)

pub returns : goal.returns
returns g c = record { cases = copied_joined _ (λ a b same. same) c.self.inside.parts.items c.in_ok-clone.field-0.items c.in_ok-clone.ensures.cases.0 ∙ c.self.view_is }
