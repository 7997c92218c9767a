-- What a batch comes to.
use Rattle.std.specs.Prelude.{◌≡◌, ℕ, ◌+◌, ◌≤◌, ◌<◌, List, [], ◌∷◌, Option, Some, None}
use Rattle.kfs_model.specs.Machine.{Row}
use Rattle.kfs_desk.specs.History.Legal.{IsLegalDocket}
use Rattle.kfs_desk.specs.declared.history.answers.Reply.{Reply}
use Rattle.kfs_plan.specs.declared.submission.Submission.{Submission}
use Rattle.kfs_desk.specs.Beginning.{Beginning, IsDocketFrom, beginning_of}
use Rattle.kfs_desk.specs.Docket.{position_of}
use Rattle.kfs_desk.specs.Machine.{Desk}
use Rattle.kfs_shared.specs.Turns.Lists.{StartsWith, Has, AreDistinct}
use Rattle.kfs_shared.specs.Crew.Shares.{share_from}
use Rattle.kfs_shared.specs.Crew.Tasks.{AscendWithin, all_of}
use Rattle.kfs_shared.specs.Batch.Answers.{IsRepliedIn, IsWhyLeft}
use Rattle.kfs_shared.specs.declared.batch.end.Left.{Left}

-- the desk was begun so; its docket begins with these rows, is legal, and leads to its state
pub record GoesOn (beginning : Beginning) (docket : List Row) (desk : Desk) : Type 0 where
  pub begun : beginning_of desk ≡ beginning
  pub begins : StartsWith desk.docket docket
  pub legal : IsLegalDocket desk.opening desk.docket desk.state
  pub docket_from : IsDocketFrom beginning desk.docket

-- Of the submissions, the first of which has this number: each has its reply in the docket, or is left with its number, as it was
-- handed in, with the reason. What is left stands in the order of the numbers
abbrev pub AreSettled : {A : Type 0} → Beginning → (docket : List Row) → (number : ℕ) → List (Submission A) → List (Option Reply) → List (Left A) → Type 0
AreSettled beginning docket number [] [] [] = Unit {0}
AreSettled beginning docket number [] [] (l ∷ left) = ⊥
AreSettled beginning docket number [] (reply ∷ replies) left = ⊥
AreSettled beginning docket number (s ∷ submissions) [] left = ⊥
AreSettled beginning docket number (s ∷ submissions) (Some reply ∷ replies) left =
    IsRepliedIn beginning.opening docket s reply × AreSettled beginning docket (number + 1) submissions replies left
AreSettled beginning docket number (s ∷ submissions) (None ∷ replies) [] = ⊥
AreSettled beginning docket number (s ∷ submissions) (None ∷ replies) (l ∷ left) =
    (l.number ≡ number) × (l.submission ≡ s) × IsWhyLeft beginning docket l.why × AreSettled beginning docket (number + 1) submissions replies left

-- the position of the reply's row; none where there is no reply
abbrev pub position_in : Option Reply → List ℕ
position_in None = []
position_in (Some reply) = position_of reply ∷ []

-- The rows from the one number to the other are those of the replies, each of one: each number is the position of a reply, no
-- other number is, and no two replies have one
pub record AreTheRows (from to : ℕ) (replies : List (Option Reply)) : Type 0 where
  pub each : (k : ℕ) → from ≤ k → k < to → Has (all_of position_in replies) k
  pub only : (k : ℕ) → Has (all_of position_in replies) k → (from ≤ k) × (k < to)
  pub once : AreDistinct (all_of position_in replies)

-- in each worker's share the positions of the replies rise
abbrev pub AscendInShares : (workers : ℕ) → (from to : ℕ) → List (Option Reply) → Type 0
AscendInShares workers from to replies = (share : ℕ) → share < workers → AscendWithin from (all_of position_in (share_from workers share 0 replies)) to
