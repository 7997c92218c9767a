-- How many names lead to each number, as a list by number.
use Rattle.std.specs.Prelude.{◌≡◌, ℕ, ◌+◌, ◌<◌, ◌==◌, Bool, List, length, count_by, slice_get, Some, None, if◌then◌else◌}
use Rattle.std.specs.List.{AllByRecursion}
use Rattle.kfs_model.specs.Tree.{name_count}
use Rattle.kfs_model.specs.Device.RawImage.{RawNode, RawImage, names_of}
use Rattle.kfs_model.specs.Device.Rules.{Test, test, names_fit}
use Rattle.kfs_shape.specs.declared.links.Link.{Link}

abbrev pub leads_to : (number : ℕ) → Link → Bool
leads_to number link = link.number == number

-- how often the list has counted a number; 0 for a number past its end
abbrev pub count_in : List ℕ → (number : ℕ) → ℕ
count_in counts number = elim (slice_get counts number) [ None ↦ 0 | Some count ↦ count ]

-- the number is counted once more, if the list has it; all others keep their counts
pub record CountsOne (old new : List ℕ) (number : ℕ) : Type 0 where
  pub len : length new ≡ length old
  pub each : (n : ℕ) → n < length old → count_in new n ≡ count_in old n + (if number == n then 1 else 0)

-- the list counts the links by the numbers below `many` that they lead to
abbrev pub CountsLeads : (many : ℕ) → List ℕ → List Link → Type 0
CountsLeads many counts links = (number : ℕ) → number < many → count_in counts number ≡ count_by (leads_to number) links

-- the list counts the names of each node of the image
abbrev pub CountsNames : List ℕ → RawImage → Type 0
CountsNames counts raw = AllByRecursion (λ row. count_in counts row.number ≡ name_count (names_of raw) row.number) raw.nodes

-- whether a node has as many names as it should, by these counts
abbrev pub counted_test : List ℕ → RawNode → Test
counted_test counts row = test (names_fit row.header.kind row.number row.header.links (count_in counts row.number)) row.number
