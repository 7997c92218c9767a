-- Where a walk over sorted entries begins.
use Rattle.std.specs.Prelude.{◌≡◌, ℕ, suc, Bool, true, false, not, List, [], ◌∷◌, length, take, Option, Some, None, IsSome, is_some, if◌then◌else◌}
use Rattle.std.specs.declared.cmp.Ordering.{Ordering}
use Rattle.std.specs.declared.ops.Bound.{Bound}
use Rattle.std.specs.declared.ops.Bound.TheVariants.{Included, Excluded, Unbounded}
use Rattle.std.specs.Ordering.{is_lt, is_gt}
use Rattle.std.specs.FinMap.Entries.{find, where_key}

module _ {X : Type 0} where
  -- how many elements come before the first that passes the test
  abbrev pub before : (X → Bool) → List X → ℕ
  before test [] = 0
  before test (x ∷ xs) = if test x then 0 else suc (before test xs)

module _ {K : Type 0} (cmp : K → K → Ordering) where
  -- whether a key is at the start or behind it
  abbrev pub is_from : Bound K → K → Bool
  is_from (Included first) key = not (is_lt (cmp key first))
  is_from (Excluded last) key = is_gt (cmp key last)
  is_from Unbounded key = true

  -- the index of the first entry at the start or behind it, or the number of entries
  abbrev pub first_from : {V : Type 0} → Bound K → List (K × V) → ℕ
  first_from start entries = before (λ e. is_from start e.0) entries

  -- the first entry at the start or behind it
  abbrev pub entry_from : {V : Type 0} → Bound K → List (K × V) → Option (K × V)
  entry_from start [] = None
  entry_from start (e ∷ es) = if is_from start e.0 then Some e else entry_from start es

  -- whether there is such an entry
  abbrev pub reaches : {V : Type 0} → Bound K → List (K × V) → Bool
  reaches start entries = is_some (entry_from start entries)

  -- the entries at the start or behind it
  abbrev pub entries_from : {V : Type 0} → Bound K → List (K × V) → List (K × V)
  entries_from start entries = where_key cmp (is_from start) entries

  -- the entry is the first at the start or behind it
  pub record IsNextEntry {V : Type 0} (start : Bound K) (entries : List (K × V)) (key : K) (value : V) : Type 0 where
    pub found : find cmp key entries ≡ Some value
    pub within : is_from start key ≡ true
    pub least : (q : K) → is_from start q ≡ true → IsSome (find cmp q entries) → is_lt (cmp q key) ≡ false

  -- the run is the first few of the entries at the start or behind it, and none only where there are none
  pub record IsNextRun {V : Type 0} (start : Bound K) (entries run : List (K × V)) : Type 0 where
    pub first : run ≡ take (length run) (entries_from start entries)
    pub some : run ≡ [] → entries_from start entries ≡ []
