-- The places that blocks leave and enter when their placement is edited.
use Rattle.std.specs.Prelude.{ℕ, List, [], ◌∷◌, ◌++◌, Option, Some, None, if◌then◌else◌}
use Rattle.kfs_model.specs.Table.{get}
use Rattle.kfs_model.specs.Placement.{Place, Placement}
use Rattle.kfs_maps.specs.declared.chunks.entries.KeyEdit.{KeyEdit}
use Rattle.kfs_image.specs.Tier.Tiers.{is_place}

-- an edit of a block's place: the new place, or none
abbrev pub BlockEdit : Type 0
BlockEdit = KeyEdit (ℕ × ℕ) Place

-- the place that a block leaves, if it was there before and isn't now
abbrev pub left_by : (was is : Option Place) → List Place
left_by None is = []
left_by (Some place) None = place ∷ []
left_by (Some place) (Some other) = if is_place place other then [] else place ∷ []

-- the places that the edits' blocks leave; the two functions say where each block was, and where it is
unfoldable pub left_in : (was is : BlockEdit → Option Place) → List BlockEdit → List Place
left_in was is [] = []
left_in was is (e ∷ es) = left_by (was e) (is e) ++ left_in was is es

-- the places that blocks leave by these edits of a placement
abbrev pub given_by : Placement → List BlockEdit → List Place
given_by placement edits = left_in (λ e. get placement e.key) (λ e. e.value) edits

-- the places that blocks enter by these edits
abbrev pub taken_by : Placement → List BlockEdit → List Place
taken_by placement edits = left_in (λ e. e.value) (λ e. get placement e.key) edits
