-- What is left of a list that is used up from its front.
use Rattle.std.specs.Prelude.{List, [], ◌∷◌, drop, Some, None}
use Rattle.kfs_pieces.specs.declared.compare.Rest.{Rest}

-- a first item, perhaps without its front, and those after it
abbrev pub rest_of : {T : Type 0} → List T → Rest T → List T
rest_of list rest = elim rest.front [ None ↦ [] | Some front ↦ front ∷ drop rest.next list ]
