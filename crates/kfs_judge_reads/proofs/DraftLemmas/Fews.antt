-- Maps of which a single entry stands apart.
use Rattle.std.specs.Prelude.{◌≡◌, cond, List, [], ◌∷◌, map, None, Some}
use Rattle.std.specs.declared.cmp.Ordering.{Ordering}
use Rattle.std.specs.List.Sorted.{IsStrictlySortedBy}
use Rattle.std.specs.Cmp.{IsTotalOrder, eq_by_cmp_equiv}
use Rattle.std.specs.BTreeMap.{BTreeMap}
use Rattle.std.proofs.Common.{ap, sym, subst, ◌∙◌}
use Rattle.kfs_judge_reads.specs.declared.draft.few.Few.{Few}
use Rattle.kfs_judge_reads.specs.Draft.Few.{alone_or, at_key, entries_of}

-- an entry that is alone is in order
pub sorted_alone : {K X : Type 0} (cmp : K → K → Ordering) (entries : List (K × X)) (e : K × X) → entries ≡ e ∷ [] → IsStrictlySortedBy cmp (map (λ e. e.0) entries)
unfolding IsStrictlySortedBy
sorted_alone cmp entries e is = subst (λ es. IsStrictlySortedBy cmp (map (λ e. e.0) es)) (sym is) (tt, tt)

-- and it is found
pub found_alone : {K X : Type 0} (cmp : K → K → Ordering) (total : IsTotalOrder cmp) (entries : List (K × X)) (key : K) (value : X) → entries ≡ (key, value) ∷ [] → at_key cmp entries key ≡ Some value
found_alone cmp total entries key value is = ap (λ es. at_key cmp es key) is ∙ ap (λ b. cond b (Some value) None) ((eq_by_cmp_equiv total).refl key)

-- where none stands alone, the entries are those of the tree
pub tree_is : {K X A : Type 0} (few lent : Few K X A) (tree : BTreeMap K X) → few.only ≡ None → lent ≡ few → tree ≡ lent.tree → tree.entries ≡ entries_of few
tree_is few lent tree none is lies = ap (λ (t : BTreeMap _ _). t.entries) lies ∙ ap (λ (f : Few _ _ _). f.tree.entries) is ∙ ap (λ only. alone_or only few.tree.entries) (sym none)
