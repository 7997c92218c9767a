-- Groups of pages, and the pages of all groups in a row.
use Rattle.std.specs.Prelude.{◌≡◌, ℕ, List, [], ◌∷◌, ◌++◌, Option, Some, None, length, replicate, get_or}
use Rattle.std.specs.declared.sync.Arc.{Arc}
use Rattle.kfs_maps.specs.declared.pages.page.Group.{Group}
use Rattle.kfs_maps.specs.Pages.Values.{Sheet}

module _ {X A : Type 0} where
  -- the shared value of a slot, if it has one
  abbrev pub held : Option (Arc X A) → Option X
  held None = None
  held (Some shared) = Some shared.value

  -- the same for each slot
  abbrev pub all_held : List (Option (Arc X A)) → List (Option X)
  all_held [] = []
  all_held (place ∷ places) = held place ∷ all_held places

module _ {V : Type 0} where
  -- the slots of a group without pages
  unfoldable pub no_pages : List (Option (Sheet V))
  no_pages = replicate 32 None

  -- the page in the slot with this index, if there is one
  abbrev pub page_in : List (Option (Sheet V)) → (index : ℕ) → Option (Sheet V)
  page_in pages index = get_or pages index None

module _ {V A : Type 0} where
  -- the pages of a group; where there is no group, empty slots
  abbrev pub pages_of : Option (Group V A) → List (Option (Sheet V))
  pages_of None = no_pages
  pages_of (Some group) = all_held group.pages.items

  -- the pages of all groups, one group after the other
  abbrev pub flat : List (Option (Group V A)) → List (Option (Sheet V))
  flat [] = []
  flat (group ∷ groups) = pages_of group ++ flat groups

  -- the same for shared groups
  abbrev pub laid_out : List (Option (Arc (Group V A) A)) → List (Option (Sheet V))
  laid_out groups = flat (all_held groups)

  -- each group has 32 slots
  abbrev pub GroupsAreWhole : List (Option (Group V A)) → Type 0
  GroupsAreWhole [] = Unit {0}
  GroupsAreWhole (group ∷ groups) = (length (pages_of group) ≡ 32) × GroupsAreWhole groups
