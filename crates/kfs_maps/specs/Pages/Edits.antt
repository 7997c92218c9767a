-- Edits of a table, and the pages to which their numbers belong.
use Rattle.std.specs.Prelude.{◌≡◌, ℕ, ◌-◌, ◌/◌, ◌≤◌, ◌<◌, List, [], ◌∷◌, Option, All, length, slice_index_or, if◌then◌else◌}
use Rattle.std.specs.Ordering.{nat_cmp, eq_by_cmp}
use Rattle.kfs_model.specs.Limits.{greatest_number}
use Rattle.kfs_model.specs.Table.{Table, numbers, changed}
use Rattle.kfs_maps.specs.declared.pages.change.NumberEdit.{NumberEdit}

-- the index of the page that a number belongs to
unfoldable pub page_of : ℕ → ℕ
page_of number = (number - 1) / 64

module _ {V : Type 0} where
  -- the table after the edits, one after the other
  abbrev pub rewritten : Table numbers V → List (NumberEdit V) → Table numbers V
  rewritten t [] = t
  rewritten t (e ∷ es) = rewritten (changed t e.number e.value) es

  -- the value of a number after the edits, given its value before
  abbrev pub edited : List (NumberEdit V) → ℕ → Option V → Option V
  edited [] n v = v
  edited (e ∷ es) n v = edited es n (if eq_by_cmp nat_cmp n e.number then e.value else v)

  -- the edits ascend by number, none twice, and nodes may have these numbers
  pub record AreEdits (edits : List (NumberEdit V)) : Type 0 where
    pub ascend : (i j : ℕ) (d : NumberEdit V) → i < j → j < length edits → (slice_index_or edits i d).number < (slice_index_or edits j d).number
    pub range : All (λ e. (1 ≤ e.number) × (e.number ≤ greatest_number)) edits

  -- the edits ascend by page
  abbrev pub Ascends : List (NumberEdit V) → Type 0
  Ascends edits = (i j : ℕ) (d : NumberEdit V) → i ≤ j → j < length edits → page_of (slice_index_or edits i d).number ≤ page_of (slice_index_or edits j d).number

  -- the edit's number is in the page
  abbrev pub IsOfPage : (index : ℕ) → NumberEdit V → Type 0
  IsOfPage index e = (1 ≤ e.number) × (page_of e.number ≡ index)

  -- the edits' numbers are in pages from the first one on, before the end
  abbrev pub EditsAreWithin : ℕ → ℕ → List (NumberEdit V) → Type 0
  EditsAreWithin first end edits = All (λ e. (1 ≤ e.number) × (first ≤ page_of e.number) × (page_of e.number < end)) edits
