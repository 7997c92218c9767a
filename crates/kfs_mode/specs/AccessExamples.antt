-- Worked examples of what is permitted: clients, trees and modes of the model's examples.
use Rattle.std.specs.Prelude.{ℕ, true, [], ◌∷◌}
use Rattle.kfs_model.specs.Judgement.{State}
use Rattle.kfs_model.specs.Examples.Example.{client_7, directory, file, held_by_7, name_a, name_b, named, root, tree}

-- directory 3 and file 5 of another owner and group, both with this mode, in the root
abbrev pub with_modes : (mode : ℕ) → State
with_modes mode = held_by_7 (tree (root ∷ directory 3 mode 1 1 ∷ file 5 mode 1 1 [] ∷ []) (named 1 name_a 3 ∷ named 1 name_b 5 ∷ [])) []

-- client 7 is privileged
abbrev pub privileged : State → State
privileged s = record s { clients = record client_7 { privileged = true } ∷ [] }
