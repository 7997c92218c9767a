-- New values of numbers that pages have, and the edits with these values.
use Rattle.std.specs.Prelude.{◌≡◌, ℕ, ◌+◌, ◌<◌, List, Option, Some, unwrap_or, if◌then◌else◌}
use Rattle.std.specs.declared.cmp.Ordering.{Ordering}
use Rattle.std.specs.Ordering.{nat_cmp, eq_by_cmp}
use Rattle.std.specs.BTreeMap.{BTreeMap, get}
use Rattle.kfs_maps.specs.declared.pages.change.NumberEdit as numbered
use Rattle.kfs_maps.specs.Pages.Edits as numbered_edits
use Rattle.kfs_maps.specs.Chunks.Overlays.{said_or}
use Rattle.kfs_image_nodes.specs.NodeEdits.{IsNumber}

module _ {X : Type 0} where
  -- the edits give each number that pages have the value set for it
  abbrev pub SayOfNumbers : List (numbered.NumberEdit X) → BTreeMap ℕ (Option X) → Type 0
  SayOfNumbers edits latest = (q : ℕ) (there : Option X) → IsNumber q → numbered_edits.edited edits q there ≡ said_or (get nat_cmp latest q) there

-- the key's count was set to one more than it was, where the map has the count `there`; the other keys' counts stay
pub record IsOneMore {K : Type 0} (cmp : K → K → Ordering) (old new : BTreeMap K (Option ℕ)) (key : K) (there : Option ℕ) : Type 0 where
  pub now : Option ℕ
  pub more : unwrap_or now 0 ≡ unwrap_or (said_or (get cmp old key) there) 0 + 1
  pub positive : (count : ℕ) → now ≡ Some count → 0 < count
  pub set : (q : K) → get cmp new q ≡ (if eq_by_cmp cmp q key then Some now else get cmp old q)
