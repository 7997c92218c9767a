-- The counts kept next to the names, and that they are right.
use Rattle.std.specs.Prelude.{◌≡◌, ℕ, ◌+◌, ◌<◌, ◌==◌, ◌&&◌, List, Option, Some, None, unwrap_or, count_by, if◌then◌else◌}
use Rattle.std.specs.Ordering.{nat_cmp, eq_by_cmp}
use Rattle.kfs_model.specs.Table.{Order, Table, numbers, pairs, get}
use Rattle.kfs_model.specs.Tree.{NameTable, entry_count}
use Rattle.kfs_model.specs.Spelling.{IsName}
use Rattle.kfs_image_nodes.specs.NodeEdits.{IsNumber}

-- how many names of a directory lead to a node
abbrev pub ways_count : NameTable → (number directory : ℕ) → ℕ
ways_count names number directory = count_by (λ e. (e.1 == number) && (e.0.0 == directory)) names.entries

-- the order of uplinks: by node number, then by directory
abbrev pub by_node : Order (ℕ × ℕ)
by_node = pairs numbers numbers

-- by how much a directory's count grows when one of its names comes to lead to the number
abbrev pub count_step : (directory : ℕ) → Option ℕ → ℕ → ℕ
count_step directory None q = 0
count_step directory (Some number) q = if eq_by_cmp nat_cmp q directory then 1 else 0

-- by how much the count of an uplink grows then
abbrev pub uplink_step : (directory : ℕ) → Option ℕ → ℕ × ℕ → ℕ
uplink_step directory None q = 0
uplink_step directory (Some number) q = if eq_by_cmp by_node.compare q (number, directory) then 1 else 0

-- the counts of directories' names and of uplinks are right; an uplink whose count is 0 isn't listed
pub record IsCounted (names : NameTable) (tally : Table numbers ℕ) (ways : Table by_node ℕ) : Type 0 where
  pub positive : (way : ℕ × ℕ) (count : ℕ) → get ways way ≡ Some count → 0 < count
  pub counts : (directory : ℕ) → unwrap_or (get tally directory) 0 ≡ entry_count names directory
  pub uplinks : (number directory : ℕ) → unwrap_or (get ways (number, directory)) 0 ≡ ways_count names number directory

module _ {K : Type 0} {R : Order K} where
  -- the count of a key; a key that isn't listed has 0
  abbrev pub count_at : Table R ℕ → K → ℕ
  count_at t key = unwrap_or (get t key) 0

  -- each key's new count is its old one plus its step; or the old one minus its step
  abbrev pub CountsMore : (old : Table R ℕ) (step : K → ℕ) (new : Table R ℕ) → Type 0
  CountsMore old step new = (q : K) → count_at new q ≡ count_at old q + step q

  abbrev pub CountsFewer : (old : Table R ℕ) (step : K → ℕ) (new : Table R ℕ) → Type 0
  CountsFewer old step new = (q : K) → count_at new q + step q ≡ count_at old q

  -- each key's old count and what it gains are its new count and what it loses
  abbrev pub CountsMoved : (old : Table R ℕ) (lost gained : K → ℕ) (new : Table R ℕ) → Type 0
  CountsMoved old lost gained new = (q : K) → count_at new q + lost q ≡ count_at old q + gained q

  -- each listed count is at least 1
  abbrev pub ArePositive : Table R ℕ → Type 0
  ArePositive t = (key : K) (count : ℕ) → get t key ≡ Some count → 0 < count

-- each name is a valid name
abbrev pub AreNames : NameTable → Type 0
AreNames names = (key : ℕ × List ℕ) (number : ℕ) → get names key ≡ Some number → IsName key.1

-- each directory that has a name has a number that pages have
abbrev pub AreInPages : NameTable → Type 0
AreInPages names = (key : ℕ × List ℕ) (number : ℕ) → get names key ≡ Some number → IsNumber key.0
