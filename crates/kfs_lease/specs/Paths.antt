-- The parts of a path that are left, and one step of the walk along it.
use Rattle.std.specs.Prelude.{◌≡◌, ℕ, ◌+◌, List, [], ◌∷◌, Option, Some, None, IsSomeAnd, Result, Err}
use Rattle.std.specs.Borrow.{Bor}
use Rattle.kfs_model.specs.Access.{Client}
use Rattle.kfs_model.specs.Sight.{Sight}
use Rattle.kfs_model.specs.Lease.{parts_of, walked}
use Rattle.kfs_model.specs.Lease as model
use Rattle.kfs_model.specs.Limits.{root_number}
use Rattle.kfs_lease.specs.Faults.{fault_of}
use Rattle.kfs_lease.specs.declared.leases.LeaseFault.{LeaseFault}
use Rattle.kfs_lease.specs.declared.path.Parts.{Parts}

-- the parts of the bytes that are left; no parts where nothing is left
abbrev pub left_of : Option (Bor (List ℕ)) → List (List ℕ)
left_of None = []
left_of (Some rest) = parts_of rest.now

abbrev pub parts_left : Parts → List (List ℕ)
parts_left parts = left_of parts.rest

-- the node that the parts left lead to from the root
abbrev pub walked_along : Sight → Client → Parts → Result ℕ model.LeaseFault
walked_along sight client parts = walked sight client root_number 0 (parts_left parts)

module _ (sight : Sight) (client : Client) (directory index : ℕ) (name : List ℕ) where
  -- the name leads from the directory to `next`, and the walk goes on there
  abbrev pub WalkGoesOn : (next : ℕ) → Type 0
  WalkGoesOn next = (names : List (List ℕ)) → walked sight client directory index (name ∷ names) ≡ walked sight client next (index + 1) names

  -- the walk stops at the name with this fault
  abbrev pub WalkStops : LeaseFault → Type 0
  WalkStops fault = (names : List (List ℕ)) → IsSomeAnd (fault_of fault) (λ refusal. walked sight client directory index (name ∷ names) ≡ Err refusal)
