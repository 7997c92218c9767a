-- What a row of pages shows.
use Rattle.std.specs.Prelude.{◌≡◌, ℕ, ◌+◌, ◌==◌, List, [], ◌∷◌, Option, Some, None, if◌then◌else◌}
use Rattle.kfs_model.specs.Table.{Table, numbers, empty, get, united, retain}
use Rattle.kfs_maps.specs.Pages.Values.{Sheet}
use Rattle.kfs_maps.specs.declared.pages.change.NumberEdit.{NumberEdit}
use Rattle.kfs_maps.specs.Pages.Edits.{page_of, edited}

module _ {V : Type 0} where
  -- the entries whose numbers are in the page
  abbrev pub part : (index : ℕ) → Table numbers V → Table numbers V
  part index t = retain (λ n. page_of n == index) t

  -- what a slot shows at a number: its page's value, if it has a page
  abbrev pub slot_shows : Option (Sheet V) → ℕ → Option V
  slot_shows None n = None
  slot_shows (Some page) n = get page.values n

  -- what the pages, the first of which has this index, show at a number
  abbrev pub shown : ℕ → List (Option (Sheet V)) → ℕ → Option V
  shown first [] n = None
  shown first (page ∷ pages) n = if page_of n == first then slot_shows page n else shown (first + 1) pages n

  -- afterwards the pages show what the edits make of what they showed before
  abbrev pub Edited : (first : ℕ) → List (NumberEdit V) → (before after : List (Option (Sheet V))) → Type 0
  Edited first edits before after = (n : ℕ) → shown first after n ≡ edited edits n (shown first before n)

  -- a page in the slot has this index
  abbrev pub HasIndex : (index : ℕ) → Option (Sheet V) → Type 0
  HasIndex index None = Unit {0}
  HasIndex index (Some page) = page.index ≡ index

  -- the pages have the indices from the first on
  abbrev pub AreIndexedFrom : (first : ℕ) → List (Option (Sheet V)) → Type 0
  AreIndexedFrom first [] = Unit {0}
  AreIndexedFrom first (page ∷ pages) = HasIndex first page × AreIndexedFrom (first + 1) pages

  -- the table that a page shows
  unfoldable pub page_table : Option (Sheet V) → Table numbers V
  page_table None = empty
  page_table (Some page) = page.values

  -- the table that the pages, the first of which has this index, show together
  unfoldable pub table_from : ℕ → List (Option (Sheet V)) → Table numbers V
  table_from first [] = empty
  table_from first (page ∷ pages) = united (table_from (first + 1) pages) (part first (page_table page))
