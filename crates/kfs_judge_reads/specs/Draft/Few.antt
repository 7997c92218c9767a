-- Maps of which a single entry stands apart.
use Rattle.std.specs.Prelude.{◌≡◌, cond, List, [], ◌∷◌, Option, None, Some}
use Rattle.std.specs.declared.cmp.Ordering.{Ordering}
use Rattle.std.specs.Ordering.{eq_by_cmp}
use Rattle.std.specs.Map.{lookup}
use Rattle.std.specs.BTreeMap.{is_at}
use Rattle.kfs_judge_reads.specs.declared.draft.few.Few.{Few}

-- the entry that is alone, or else these
abbrev pub alone_or : {K X : Type 0} → Option (K × X) → List (K × X) → List (K × X)
alone_or None entries = entries
alone_or (Some e) entries = e ∷ []

-- the list of what there is
abbrev pub list_of : {X : Type 0} → Option X → List X
list_of None = []
list_of (Some x) = x ∷ []

-- the value at the key in a list of entries
abbrev pub at_key : {K X : Type 0} → (K → K → Ordering) → List (K × X) → K → Option X
at_key cmp entries key = lookup (is_at (cmp key)) entries

-- the new entries have this value at the key, and elsewhere what the old ones have
abbrev pub PutsIn : {K X : Type 0} → (K → K → Ordering) → List (K × X) → List (K × X) → K → X → Type 0
PutsIn {K} cmp old new key value = (q : K) → at_key cmp new q ≡ cond (eq_by_cmp cmp key q) (Some value) (at_key cmp old q)

module _ {K X A : Type 0} where
  -- the entries, by key
  abbrev pub entries_of : Few K X A → List (K × X)
  entries_of few = alone_or few.only few.tree.entries

  -- the value at the key
  abbrev pub found_in : (K → K → Ordering) → Few K X A → K → Option X
  found_in cmp few key = at_key cmp (entries_of few) key
