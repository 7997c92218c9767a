-- Edits of each kind.
use Rattle.std.specs.Prelude.{ℕ, List, [], ◌∷◌, Option, Some, None, Vec}
use Rattle.kfs_types.specs.declared.entry.Header.{Header as CodeHeader}
use Rattle.kfs_model.specs.Placement.{Place}
use Rattle.kfs_image.specs.declared.edit.Edit.{Edit}
use Rattle.kfs_image.specs.declared.edit.Edit.TheVariants.{Header, Name, Map, Bytes}

-- a header of the root and a name of it, block 1 of file 5 at a place, the bytes there, and block 0 nowhere
abbrev pub each_kind : {A : Type 0} → Option CodeHeader → (name : List ℕ) → Option ℕ → Place → Vec ℕ A → List (Edit A)
each_kind header name target place bytes = Header 1 header ∷ Name 1 name target ∷ Map 5 1 (Some (place.tier, place.place)) ∷ Bytes place.tier place.place bytes ∷ Map 5 0 None ∷ []
