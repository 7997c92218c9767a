-- What a script leaves: the desk that was handed in, with more rows. And what its replies say: each
-- ticket is answered once or left, a Yes does what its entries say, and no other reply changes the tree.
use Rattle.std.specs.Prelude.{◌≡◌, ◌≢◌, ◌↔◌, ℕ, ◌+◌, List, [], ◌++◌, take, get_or, Option, Some, None}
use Rattle.std.specs.List.{slice_get}
use Rattle.kfs_model.specs.Judgement.{State, Submission, client_sight_of}
use Rattle.kfs_model.specs.Machine.{AreAllowed, Gives, Row, after}
use Rattle.kfs_model.specs.Means.{OfItsLog}
use Rattle.kfs_desk.specs.declared.history.answers.Reply.{Reply}
use Rattle.kfs_desk.specs.declared.history.answers.Reply.TheVariants as replies
use Rattle.kfs_desk.specs.Docket.{position_of}
use Rattle.kfs_desk.specs.Machine.{Desk, IsShown, IsStep}
use Rattle.kfs_desk.specs.Verdict.Verdict.{HeldVerdict, IsUpToDate}
use Rattle.kfs_workers.specs.Script.{ScriptState}
use Rattle.kfs_workers.specs.declared.script.Step.{Step}
use Rattle.kfs_workers.specs.declared.script.Step.TheVariants as steps

-- ---- the desk at the end

-- the last desk goes on from this one: opening and limit are the same, and the docket begins with the
-- rows that were there
pub record GoesOnFrom (desk last : Desk) : Type 0 where
  pub opening : last.opening ≡ desk.opening
  pub limit : last.limit ≡ desk.limit
  pub rows : List Row
  pub docket : last.docket ≡ desk.docket ++ rows

-- ---- where a reply stands

-- the docket has the reply's row at its position, and the row leads from the state before to the state
-- after
pub record StandsAt (last : Desk) (submission : Submission) (reply : Reply) (before after_it : State) : Type 0 where
  pub row : Row
  pub at : slice_get last.docket (position_of reply) ≡ Some row
  pub led : after last.opening (take (position_of reply) last.docket) ≡ Some before
  pub leads : after last.opening (take (position_of reply + 1) last.docket) ≡ Some after_it
  pub step : IsStep before submission reply row after_it

-- P holds of the states before and after the reply
abbrev pub AtReply : Desk → Submission → Reply → ((before after_it : State) → Type 0) → Type 0
AtReply last submission reply P = (before : State) × (after_it : State) × StandsAt last submission reply before after_it × P before after_it

-- the ticket has a reply that is in the docket, or its submission is left, and not both
abbrev pub IsSettled : Desk → Submission → Option Reply → Option Submission → Type 0
IsSettled last submission None left = left ≡ Some submission
IsSettled last submission (Some reply) left = (left ≡ None) × AtReply last submission reply (λ before after_it. Unit {0})

-- no two replies have the same row
abbrev pub HaveOwnRows : List (Option Reply) → Type 0
HaveOwnRows replies = (one other : ℕ) (first second : Reply) → get_or replies one None ≡ Some first → get_or replies other None ≡ Some second → one ≢ other → position_of first ≢ position_of second

-- each ticket is answered once, or its submission is left
pub record AreSettled (last : Desk) (submissions : List Submission) (replies : List (Option Reply)) (left : List (Option Submission)) : Type 0 where
  pub each : (ticket : ℕ) (submission : Submission) → slice_get submissions ticket ≡ Some submission → IsSettled last submission (get_or replies ticket None) (get_or left ticket None)
  pub apart : HaveOwnRows replies

-- P holds of each reply and of the states before and after it
abbrev pub EachReply : Desk → List Submission → List (Option Reply) → (Submission → Reply → (before after_it : State) → Type 0) → Type 0
EachReply last submissions replies P =
    (ticket : ℕ) (submission : Submission) (reply : Reply) → slice_get submissions ticket ≡ Some submission → get_or replies ticket None ≡ Some reply → AtReply last submission reply (P submission reply)

-- ---- what a Yes does

-- after a Yes, a well formed image shows the tree that results from the entries in turn
abbrev pub ShowsItsEntries : Submission → Reply → (before after_it : State) → Type 0
ShowsItsEntries submission (replies.Yes position rejudged need) before after_it =
    IsShown after_it × OfItsLog before submission (λ client entries. Gives client 0 before.tree entries after_it.tree)
ShowsItsEntries submission (replies.No position rejudged fault) before after_it = Unit {0}
ShowsItsEntries submission (replies.NoRoom position rejudged need free) before after_it = Unit {0}

-- each entry of a Yes is allowed to its client at its own point of the log, by the mode bits there and
-- by the leases held at the landing
abbrev pub HasAllowedEntries : Submission → Reply → (before after_it : State) → Type 0
HasAllowedEntries submission (replies.Yes position rejudged need) before after_it =
    OfItsLog before submission (λ client entries. AreAllowed client (client_sight_of before client.number) 0 [] before.tree entries)
HasAllowedEntries submission (replies.No position rejudged fault) before after_it = Unit {0}
HasAllowedEntries submission (replies.NoRoom position rejudged need free) before after_it = Unit {0}

-- any other reply leaves the whole state as it was, the tree and the blocks' places with it
abbrev pub ElseChangesNothing : Submission → Reply → (before after_it : State) → Type 0
ElseChangesNothing submission (replies.Yes position rejudged need) before after_it = Unit {0}
ElseChangesNothing submission (replies.No position rejudged fault) before after_it = after_it ≡ before
ElseChangesNothing submission (replies.NoRoom position rejudged need free) before after_it = after_it ≡ before

-- ---- between landings

-- a step that lands nothing and asks for no lease: a Look, a Judge, or moves of blocks
abbrev pub LandsNothing : Step → Type 0
LandsNothing (steps.Look worker ticket) = Unit {0}
LandsNothing (steps.Judge worker) = Unit {0}
LandsNothing (steps.Land worker) = ⊥
LandsNothing (steps.Act act) = ⊥
LandsNothing (steps.Migrate moves) = Unit {0}

-- the same verdicts are up to date at both
abbrev pub HaveSameVerdicts : (state next : ScriptState) → Type 0
HaveSameVerdicts state next = (verdict : HeldVerdict) → IsUpToDate state.desk.state verdict ↔ IsUpToDate next.desk.state verdict
