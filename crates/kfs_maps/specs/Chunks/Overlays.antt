-- New values of keys, laid over a table, and the edits with these values.
use Rattle.std.specs.Prelude.{◌≡◌, List, [], ◌∷◌, Option, Some, None}
use Rattle.std.specs.declared.cmp.Ordering.{Ordering}
use Rattle.std.specs.BTreeMap.{BTreeMap, get}
use Rattle.kfs_model.specs.Table.{Order, Table, changed}
use Rattle.kfs_maps.specs.declared.chunks.entries.KeyEdit.{KeyEdit}
use Rattle.kfs_maps.specs.Chunks.Edits.{edited}

module _ {X : Type 0} where
  -- the value set for a key, or what the table has there if none was set
  abbrev pub said_or : Option (Option X) → Option X → Option X
  said_or None there = there
  said_or (Some now) there = now

module _ {K X : Type 0} where
  -- the edits give each key the value set for it
  abbrev pub Say : (K → K → Ordering) → List (KeyEdit K X) → BTreeMap K (Option X) → Type 0
  Say cmp edits latest = (q : K) (there : Option X) → edited cmp edits q there ≡ said_or (get cmp latest q) there

  -- the edits with these values
  abbrev pub key_edits : List (K × Option X) → List (KeyEdit K X)
  key_edits [] = []
  key_edits (e ∷ es) = record { key = e.0; value = e.1 } ∷ key_edits es

module _ {K X : Type 0} {R : Order K} where
  -- the table with the set values in place of its own
  unfoldable pub overlaid : Table R X → List (K × Option X) → Table R X
  overlaid t [] = t
  overlaid t (e ∷ es) = changed (overlaid t es) e.0 e.1
