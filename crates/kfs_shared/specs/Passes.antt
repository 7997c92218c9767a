-- What clauses say of a shared object and its passes.
use Rattle.std.specs.Prelude.{◌≡◌, ℕ, Bool, List, Some}
use Rattle.kfs_shared.specs.Turns.Turns.{HasEnded, IsUnreturned}
use Rattle.kfs_shared.specs.declared.docketed.Docketed.{Ghosts}
use Rattle.kfs_shared.specs.declared.pass.Pass.{Pass}
use Rattle.kfs_shared.specs.declared.pass.Shared.{Shared}
use Rattle.kfs_shared.specs.declared.pass.Turn.{Turn}

module _ {D O W A : Type 0} where
  -- how the shared object was begun
  abbrev pub started : (opening : D → O) → Shared D A O W → O
  started opening shared = opening shared.table.shared.key.value

module _ {D O W : Type 0} {G : Ghosts D O W} where
  -- the rows that it has seen
  abbrev pub seen : Pass D O W G → List W
  seen pass = pass.seat.me.0.seen

  -- the positions of the rows that are its own, in the order of its calls
  abbrev pub own : Pass D O W G → List ℕ
  own pass = pass.seat.me.0.own

  -- it has found that there is no ticket left
  abbrev pub ended : Pass D O W G → Bool
  ended pass = pass.seat.me.0.ended

  -- it is a pass of this shared object
  abbrev pub IsPassOf : {A : Type 0} → Shared D A O W → Pass D O W G → Type 0
  IsPassOf {A} shared pass = (pass.seat.table_id ≡ shared.table.shared.table_id) × (pass.seat.me.0.opening ≡ Some (started G.opening shared))

  -- the object comes back from the sharing, whose last pass this is
  abbrev pub IsEndOf : {A : Type 0} → Shared D A O W → Pass D O W G → D → Type 0
  IsEndOf {A} shared pass object = HasEnded G.opening G.rows G.legal G.stands shared.table.shared.key.value pass.seat.id pass.seat.me.0 object

  -- at the end the words show a ticket that was drawn and whose turn wasn't passed on
  abbrev pub IsLeftUnreturned : {A : Type 0} → Shared D A O W → Pass D O W G → Type 0
  IsLeftUnreturned {A} shared pass = IsUnreturned G.opening G.rows G.legal G.stands shared.table.shared.key.value pass.seat.id pass.seat.me.0

  -- ---- a pass in its turn

  -- the rows that it has seen, and the positions of its own
  abbrev pub seen_in : Turn D O W G → List W
  seen_in turn = turn.seat.me.0.seen

  abbrev pub own_in : Turn D O W G → List ℕ
  own_in turn = turn.seat.me.0.own

  -- it is a turn at this shared object
  abbrev pub IsTurnOf : {A : Type 0} → Shared D A O W → Turn D O W G → Type 0
  IsTurnOf {A} shared turn = (turn.seat.table_id ≡ shared.table.shared.table_id) × (turn.seat.me.0.opening ≡ Some (started G.opening shared))
