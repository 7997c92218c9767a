-- What several landings in one turn tell: how each verdict was answered, one after another.
use Rattle.std.specs.Prelude.{◌≡◌, ℕ, Bool, true, false, List, [], ◌∷◌, Option, Some, None, Result, Ok, Err}
use Rattle.kfs_model.specs.Machine.{Row}
use Rattle.kfs_plan.specs.Judged.{Judged}
use Rattle.kfs_desk.specs.declared.history.answers.Reply.{Reply}
use Rattle.kfs_desk.specs.Beginning.{Beginning, beginning_of}
use Rattle.kfs_desk.specs.Docket.{position_of}
use Rattle.kfs_desk.specs.Machine.{Desk}
use Rattle.kfs_shared.specs.Turns.Lists.{StartsWith}
use Rattle.kfs_shared.specs.Calls.{HasAdded, IsLanding, IsUnanswered}
use Rattle.kfs_shared.specs.Passes.{started, seen, own, ended, seen_in, own_in}
use Rattle.kfs_shared.specs.declared.docketed.Docketed.{Ghosts}
use Rattle.kfs_shared.specs.declared.pass.Pass.{Pass}
use Rattle.kfs_shared.specs.declared.pass.Shared.{Shared}
use Rattle.kfs_shared.specs.declared.pass.Turn.{Turn}
use Rattle.kfs_shared.specs.declared.want.SharedBack.{SharedBack}

-- The verdict was answered so, as a landing's is: by a row that is the pass's own, or by the submission, which comes back with the
-- reason and without a row
abbrev pub IsAnswered : {A : Type 0} → Beginning → (ended : Bool) → Judged A → (seen : List Row) (own : List ℕ) → Result Reply (SharedBack A) → (seen_then : List Row) (own_then : List ℕ) → Type 0
IsAnswered beginning ended judged seen own (Ok reply) seen_then own_then = HasAdded beginning seen own (position_of reply) (IsLanding judged reply) seen_then own_then
IsAnswered beginning ended judged seen own (Err back) seen_then own_then = (back.submission ≡ judged.submission) × IsUnanswered beginning back.why seen seen_then ended × (own_then ≡ own)

-- with its number still, it keeps the answer
abbrev pub KeepsAnswer : {A L : Type 0} → (number : L → ℕ) → (keeps : L → Result Reply (SharedBack A) → Type 0) → (before : L) → Result Reply (SharedBack A) → (after : L) → Type 0
KeepsAnswer number keeps before answer after = (number after ≡ number before) × keeps after answer

module _ {A L : Type 0} (beginning : Beginning) (answered : L → Result Reply (SharedBack A) → L → Type 0) (ended : Bool) where
  -- the verdict of the first is answered, and with the answer it is the second; without a verdict nothing changes
  abbrev pub HasLanded : Option (Judged A) → (seen : List Row) (own : List ℕ) → (before after : L) → (seen_then : List Row) (own_then : List ℕ) → Type 0
  HasLanded None seen own before after seen_then own_then = (after ≡ before) × (seen_then ≡ seen) × (own_then ≡ own)
  HasLanded (Some judged) seen own before after seen_then own_then = (answer : Result Reply (SharedBack A)) × answered before answer after × IsAnswered beginning ended judged seen own answer seen_then own_then

  -- so it is of each, one after another
  abbrev pub HaveLanded : (L → Option (Judged A)) → (seen : List Row) (own : List ℕ) → (before after : List L) → (seen_then : List Row) (own_then : List ℕ) → Type 0
  HaveLanded verdict seen own [] [] seen_then own_then = (seen_then ≡ seen) × (own_then ≡ own)
  HaveLanded verdict seen own [] (y ∷ ys) seen_then own_then = ⊥
  HaveLanded verdict seen own (x ∷ xs) [] seen_then own_then = ⊥
  HaveLanded verdict seen own (x ∷ xs) (y ∷ ys) seen_then own_then =
      (seen_between : List Row) × (own_between : List ℕ) × HasLanded (verdict x) seen own x y seen_between own_between × HaveLanded verdict seen_between own_between xs ys seen_then own_then

module _ {A L : Type 0} (number : L → ℕ) (verdict : L → Option (Judged A)) (keeps : L → Result Reply (SharedBack A) → Type 0) where
  -- the verdict comes back for want of a ticket, whatever had been seen; and so does each of several
  abbrev pub IsHandedBack : (before after : L) → Type 0
  IsHandedBack before after = (beginning : Beginning) (seen : List Row) (own : List ℕ) → HasLanded beginning (KeepsAnswer number keeps) true (verdict before) seen own before after seen own

  abbrev pub AreHandedBack : (before after : List L) → Type 0
  AreHandedBack before after = (beginning : Beginning) (seen : List Row) (own : List ℕ) → HaveLanded beginning (KeepsAnswer number keeps) true verdict seen own before after seen own

module _ {A L : Type 0} {G : Ghosts Desk Beginning Row} (number : L → ℕ) (verdict : L → Option (Judged A)) (keeps : L → Result Reply (SharedBack A) → Type 0) (shared : Shared Desk A Beginning Row) where
  -- the pass has first seen what was there, which begins with what it had seen; then each has landed
  abbrev pub LandsEach : (before after : Pass Desk Beginning Row G) → (xs ys : List L) → Type 0
  LandsEach before after xs ys = (met : List Row) × StartsWith met (seen before)
      × HaveLanded (started beginning_of shared) (KeepsAnswer number keeps) (ended after) verdict met (own before) xs ys (seen after) (own after)

  -- one has landed in a turn, and so has each of several
  abbrev pub LandsIn : (before after : Turn Desk Beginning Row G) → (x y : L) → Type 0
  LandsIn before after x y = HasLanded (started beginning_of shared) (KeepsAnswer number keeps) false (verdict x) (seen_in before) (own_in before) x y (seen_in after) (own_in after)

  abbrev pub LandsEachIn : (before after : Turn Desk Beginning Row G) → (xs ys : List L) → Type 0
  LandsEachIn before after xs ys = HaveLanded (started beginning_of shared) (KeepsAnswer number keeps) false verdict (seen_in before) (own_in before) xs ys (seen_in after) (own_in after)
