-- What a call of a shared desk tells, said of its pass before and after the call.
use Rattle.std.specs.Prelude.{ℕ, false}
use Rattle.kfs_model.specs.Judgement.{State}
use Rattle.kfs_model.specs.Machine.{Row}
use Rattle.kfs_judge.specs.Views.{View}
use Rattle.kfs_desk.specs.Beginning.{Beginning, beginning_of}
use Rattle.kfs_desk.specs.Machine.{Desk}
use Rattle.kfs_shared.specs.Calls.{HasAdded, IsUnanswered, IsViewAfter}
use Rattle.kfs_shared.specs.Passes.{started, seen, own, ended, seen_in, own_in}
use Rattle.kfs_shared.specs.declared.docketed.Docketed.{Ghosts}
use Rattle.kfs_shared.specs.declared.pass.Pass.{Pass}
use Rattle.kfs_shared.specs.declared.pass.Shared.{Shared}
use Rattle.kfs_shared.specs.declared.pass.Turn.{Turn}
use Rattle.kfs_shared.specs.declared.want.SharedWant.{SharedWant}

module _ {A : Type 0} {G : Ghosts Desk Beginning Row} where
  -- the call has added a row at the position, of which P holds, and which is the pass's own
  abbrev pub AddsRow : Shared Desk A Beginning Row → (before after : Pass Desk Beginning Row G) → (position : ℕ) → (P : State → Row → State → Type 0) → Type 0
  AddsRow shared before after position P = HasAdded (started beginning_of shared) (seen before) (own before) position P (seen after) (own after)

  -- the view is of the state to which all rows lead that the pass has seen then
  abbrev pub ShowsSeen : Shared Desk A Beginning Row → (before after : Pass Desk Beginning Row G) → View A → Type 0
  ShowsSeen shared before after view = IsViewAfter (started beginning_of shared) view (seen before) (seen after)

  -- for this reason the call has added no row
  abbrev pub AddsNone : Shared Desk A Beginning Row → (before after : Pass Desk Beginning Row G) → SharedWant → Type 0
  AddsNone shared before after why = IsUnanswered (started beginning_of shared) why (seen before) (seen after) (ended after)

  -- for this reason there is no view after the landings of a turn: all rows that had been seen are seen then, and where no ticket is
  -- left, the pass has found so, and has seen what it had seen
  abbrev pub ShowsNone : Shared Desk A Beginning Row → (before after : Pass Desk Beginning Row G) → SharedWant → Type 0
  ShowsNone shared before after why = IsUnanswered (started beginning_of shared) why (seen before) (seen after) (ended after)

  -- ---- the same of a call within a turn

  abbrev pub AddsRowIn : Shared Desk A Beginning Row → (before after : Turn Desk Beginning Row G) → (position : ℕ) → (P : State → Row → State → Type 0) → Type 0
  AddsRowIn shared before after position P = HasAdded (started beginning_of shared) (seen_in before) (own_in before) position P (seen_in after) (own_in after)

  abbrev pub AddsNoneIn : Shared Desk A Beginning Row → (before after : Turn Desk Beginning Row G) → SharedWant → Type 0
  AddsNoneIn shared before after why = IsUnanswered (started beginning_of shared) why (seen_in before) (seen_in after) false
