-- Edits of a table.
use Rattle.std.specs.Prelude.{◌≡◌, ℕ, ◌<◌, All, List, [], ◌∷◌, ◌++◌, Option, Some, None, not, length, slice_index_or, if◌then◌else◌}
use Rattle.std.specs.declared.cmp.Ordering.{Ordering}
use Rattle.std.specs.declared.cmp.Ordering.TheVariants.{Less}
use Rattle.std.specs.Ordering.{eq_by_cmp}
use Rattle.std.specs.FinMap.Entries.{put, where_key}
use Rattle.kfs_model.specs.Table.{Order}
use Rattle.kfs_maps.specs.declared.chunks.entries.KeyEdit.{KeyEdit}

module _ {K V : Type 0} (cmp : K → K → Ordering) where
  -- the entries with this value at the key, or without the key
  abbrev pub entered : List (K × V) → K → Option V → List (K × V)
  entered entries key None = where_key cmp (λ k. not (eq_by_cmp cmp key k)) entries
  entered entries key (Some value) = put cmp key value entries

  -- the entries after the edits, one after the other
  abbrev pub entered_all : List (K × V) → List (KeyEdit K V) → List (K × V)
  entered_all entries [] = entries
  entered_all entries (e ∷ es) = entered_all (entered entries e.key e.value) es

  -- A merge has gone past the edit: `old` has grown to `new` and `left` has shrunk to `rest`, so that
  -- the later edits lead to the same entries.
  abbrev pub IsPassed : KeyEdit K V → (old left : List (K × V)) → (new rest : List (K × V)) → Type 0
  IsPassed edit old left new rest = (later : List (KeyEdit K V)) → All (λ e. cmp edit.key e.key ≡ Less) later → new ++ entered_all rest later ≡ old ++ entered_all left (edit ∷ later)

module _ {K V : Type 0} (R : Order K) where
  -- the entries after the edits, by the order of the keys
  abbrev pub rewritten : List (K × V) → List (KeyEdit K V) → List (K × V)
  rewritten entries edits = entered_all R.compare entries edits

module _ {K V : Type 0} (cmp : K → K → Ordering) where
  -- the value of a key after the edits, given its value before
  abbrev pub edited : List (KeyEdit K V) → K → Option V → Option V
  edited [] q v = v
  edited (e ∷ es) q v = edited es q (if eq_by_cmp cmp q e.key then e.value else v)

  -- the keys ascend, none twice
  abbrev pub KeysAscend : List (KeyEdit K V) → Type 0
  KeysAscend edits = (i j : ℕ) (d : KeyEdit K V) → i < j → j < length edits → cmp (slice_index_or edits i d).key (slice_index_or edits j d).key ≡ Less
