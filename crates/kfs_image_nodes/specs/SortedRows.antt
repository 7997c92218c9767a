-- Name rows as entries of the map of names, and how often a key stands in a list.
use Rattle.std.specs.Prelude.{◌≡◌, ℕ, ◌<◌, Bool, false, List, [], ◌∷◌, Option, Some, None, map, unwrap_or, count_by}
use Rattle.std.specs.Ordering.{eq_by_cmp}
use Rattle.kfs_types.specs.declared.plan.NameRow.{NameRow}
use Rattle.kfs_model.specs.Table.{Order, numbers, empty}
use Rattle.kfs_maps.specs.declared.chunks.entries.KeyEdit.{KeyEdit}
use Rattle.kfs_maps.specs.Chunks.Edits.{edited}
use Rattle.kfs_maps.specs.Chunks.Overlays.{overlaid}
use Rattle.kfs_image_nodes.specs.Indexes.{count_at}

-- the entry of a row: its name leads to its number
abbrev pub name_entry : NameRow (List ℕ) → (ℕ × List ℕ) × ℕ
name_entry row = ((row.dir, row.name), row.number)

abbrev pub name_entries : List (NameRow (List ℕ)) → List ((ℕ × List ℕ) × ℕ)
name_entries rows = map name_entry rows

-- the uplink that the name of a row is: its number, and its directory
abbrev pub uplink_of : NameRow (List ℕ) → ℕ × ℕ
uplink_of row = (row.number, row.dir)

-- the directory of an uplink
abbrev pub dir_of : ℕ × ℕ → ℕ
dir_of uplink = uplink.1

-- the count that is set for a directory, over no counts
abbrev pub tallied_at : List (ℕ × Option ℕ) → ℕ → ℕ
tallied_at said directory = count_at {R = numbers} (overlaid empty said) directory

module _ {K : Type 0} (R : Order K) where
  -- whether the first of the later keys is the same
  abbrev pub goes_on : K → (later : List K) → Bool
  goes_on key [] = false
  goes_on key (next ∷ later) = eq_by_cmp R.compare next key

  -- the edits of an empty map say how often each key stands in the list
  pub record SayHowOften (keys : List K) (edits : List (KeyEdit K ℕ)) : Type 0 where
    pub positive : (q : K) (count : ℕ) → edited R.compare edits q None ≡ Some count → 0 < count
    pub counts : (q : K) → unwrap_or (edited R.compare edits q None) 0 ≡ count_by (λ k. eq_by_cmp R.compare q k) keys
