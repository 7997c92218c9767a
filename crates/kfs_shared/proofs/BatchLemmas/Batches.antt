-- What the jobs of a batch come to, said of the submissions and their replies.
use Rattle.std.proofs.Common.{◌≡◌, ℕ, ◌+◌, ◌-◌, ◌≤◌, ◌<◌, List, [], ◌∷◌, ◌++◌, length, map, Option, Some, None, sym, refl, ap, subst, ◌∙◌, arith, ◌==◌, ◌%◌, Bool, true, false, append_assoc}
use Rattle.std.proofs.Common.{Result, Ok, Err, Vec}
use Rattle.std.specs.Prelude.{IfErr}
use Rattle.std.proofs.lemmas.List.{length-map}
use Rattle.std.specs.List.{flat_map}
use Rattle.kfs_model.specs.Machine.{Row}
use Rattle.kfs_desk.specs.declared.history.answers.Reply.{Reply}
use Rattle.kfs_plan.specs.declared.submission.Submission.{Submission}
use Rattle.kfs_desk.specs.History.Legal.{IsLegalDocket}
use Rattle.kfs_desk.specs.Beginning.{Beginning, IsDocketFrom, beginning_of}
use Rattle.kfs_desk.specs.Machine.{Desk}
use Rattle.kfs_shared.proofs.TurnsLemmas.Lists.{starts_longer, starts_trans}
use Rattle.kfs_shared.specs.Turns.Lists.{StartsWith, Has, AreDistinct}
use Rattle.kfs_shared.proofs.TurnsLemmas.Numbers.{each_between}
use Rattle.kfs_shared.specs.Crew.Crew.{Pairs}
use Rattle.kfs_shared.specs.Crew.Shares.{share_from, when}
use Rattle.kfs_shared.specs.Crew.Tasks.{AscendWithin, AreDoneBy, IsDoneIn, all_of}
use Rattle.kfs_shared.proofs.CrewLemmas.Work.{ascend_higher}
use Rattle.kfs_shared.specs.Batch.Back.{AreBack, HasLostDesk}
use Rattle.kfs_shared.specs.Batch.Batch.{AreSettled, AreTheRows, AscendInShares, GoesOn, position_in}
use Rattle.kfs_shared.specs.Batch.Jobs.{IsJobDone, IsOutcome, positions_of}
use Rattle.kfs_shared.specs.Batch.Settled.{left_in, numbered, reply_in}
use Rattle.kfs_shared.specs.declared.batch.end.BatchBack.{BatchBack}
use Rattle.kfs_shared.specs.declared.batch.end.BatchBack.TheVariants.{BadWorkers, OutOfMemory, Unreturned}
use Rattle.kfs_shared.specs.declared.batch.end.Left.{Left}
use Rattle.kfs_shared.specs.declared.batch.job.Hand.{Hand}
use Rattle.kfs_shared.specs.declared.batch.job.Hand.TheVariants.{Waiting, Taken, Judged, Replied, Back}
use Rattle.kfs_shared.proofs.BatchLemmas.Answered.{replied_on, why_on}

-- ---- each submission

settled_one : {A : Type 0} (beginning : Beginning) (longer docket : List Row) (number : ℕ) (s : Submission A) (h : Hand A) (submissions : List (Submission A)) (replies : List (Option Reply)) (left : List (Left A))
    → StartsWith longer docket → IsDocketFrom beginning longer → IsOutcome beginning docket (Waiting s) h → AreSettled beginning longer (number + 1) submissions replies left
    → AreSettled beginning longer number (s ∷ submissions) (reply_in h ∷ replies) (left_in number h ++ left)
settled_one beginning longer docket number s (Waiting other) submissions replies left on whole h rest = absurd h
settled_one beginning longer docket number s Taken submissions replies left on whole h rest = absurd h
settled_one beginning longer docket number s (Judged judged) submissions replies left on whole h rest = absurd h
settled_one beginning longer docket number s (Replied reply) submissions replies left on whole h rest = (replied_on beginning.opening longer docket s reply on h, rest)
settled_one beginning longer docket number s (Back back) submissions replies left on whole h rest = (refl, h.0, why_on beginning longer docket back.why on whole h.1, rest)

module _ {A J : Type 0} (number : J → ℕ) (hand : J → Hand A) (beginning : Beginning) (longer docket : List Row) (on : StartsWith longer docket) (whole : IsDocketFrom beginning longer) where
  abbrev Done : List Row → J → J → Type 0
  Done rows v w = IsJobDone beginning rows (number v) (hand v) (number w) (hand w)

  pub settled : (n : ℕ) (submissions : List (Submission A)) (vs ws : List J) → map (λ (j : J). (number j, hand j)) vs ≡ numbered n submissions → Pairs (IsDoneIn Done docket) vs ws
      → AreSettled beginning longer n submissions (map (λ (j : J). reply_in (hand j)) ws) (flat_map (λ (j : J). left_in (number j) (hand j)) ws)
  settled n [] [] [] is h = tt
  settled n [] [] (w ∷ ws) is h = absurd h
  settled n [] (v ∷ vs) ws is h = let none = ap length is in absurd (omega arith)
  settled n (s ∷ submissions) [] ws is h = let none = ap length is in absurd (omega arith)
  settled n (s ∷ submissions) (v ∷ vs) [] is h = absurd h
  settled n (s ∷ submissions) (v ∷ vs) (w ∷ ws) is ((then, begins, (same, outcome)), h) =
      let first : (number v, hand v) ≡ (n, Waiting s) = ap (λ l. head l (n, Waiting s)) is in
      let waits : hand v ≡ Waiting s = ap (λ p. p.1) first in
      let numbers : number w ≡ n = same ∙ ap (λ p. p.0) first in
      let on_then : StartsWith longer then = (begins.0 ++ on.0, on.1 ∙ (ap (λ (z : List Row). z ++ on.0) begins.1 ∙ append_assoc then begins.0 on.0)) in
      subst (λ k. AreSettled beginning longer n (s ∷ submissions) (reply_in (hand w) ∷ map (λ (j : J). reply_in (hand j)) ws) (left_in k (hand w) ++ flat_map (λ (j : J). left_in (number j) (hand j)) ws)) (sym numbers)
      (settled_one beginning longer then n s (hand w) submissions (map (λ (j : J). reply_in (hand j)) ws) (flat_map (λ (j : J). left_in (number j) (hand j)) ws) on_then whole
      (subst (λ (x : Hand A). IsOutcome beginning then x (hand w)) waits outcome) (settled (n + 1) submissions vs ws (ap tail is) h))
    where
      head : List (ℕ × Hand A) → ℕ × Hand A → ℕ × Hand A
      head [] d = d
      head (x ∷ l) d = x

      tail : List (ℕ × Hand A) → List (ℕ × Hand A)
      tail [] = []
      tail (x ∷ l) = l

pub left_short : {A : Type 0} (number : ℕ) (h : Hand A) → length (left_in number h) ≤ 1
left_short number (Waiting s) = omega arith
left_short number Taken = omega arith
left_short number (Judged judged) = omega arith
left_short number (Replied reply) = omega arith
left_short number (Back back) = omega arith

-- a job for each submission
numbered_length : {A : Type 0} (n : ℕ) (submissions : List (Submission A)) → length (numbered n submissions) ≡ length submissions
numbered_length n [] = refl
numbered_length n (s ∷ submissions) = let e = numbered_length (n + 1) submissions in omega arith

pub as_many : {A J : Type 0} (number : J → ℕ) (hand : J → Hand A) (js : List J) (submissions : List (Submission A)) → map (λ (j : J). (number j, hand j)) js ≡ numbered 0 submissions → length js ≡ length submissions
as_many number hand js submissions is = sym (length-map js (λ j. (number j, hand j))) ∙ (ap length is ∙ numbered_length 0 submissions)

pub settled_all : {A J : Type 0} (number : J → ℕ) (hand : J → Hand A) (beginning : Beginning) (longer docket : List Row) (submissions : List (Submission A)) (vs ws : List J) (replies : List (Option Reply)) (left : List (Left A))
    → StartsWith longer docket → IsDocketFrom beginning longer → map (λ (j : J). (number j, hand j)) vs ≡ numbered 0 submissions → Pairs (IsDoneIn (λ rows v w. IsJobDone beginning rows (number v) (hand v) (number w) (hand w)) docket) vs ws
    → replies ≡ map (λ (j : J). reply_in (hand j)) ws → left ≡ flat_map (λ (j : J). left_in (number j) (hand j)) ws → AreSettled beginning longer 0 submissions replies left
settled_all number hand beginning longer docket submissions vs ws replies left on whole is done answered others =
    subst (λ rs. AreSettled beginning longer 0 submissions rs left) (sym answered)
    (subst (AreSettled beginning longer 0 submissions _) (sym others) (settled number hand beginning longer docket on whole 0 submissions vs ws is done))

pub goes_on : (beginning : Beginning) (docket then : List Row) (desk : Desk) → beginning_of desk ≡ beginning → StartsWith desk.docket then → StartsWith then docket → IsLegalDocket desk.opening desk.docket desk.state → IsDocketFrom beginning desk.docket → GoesOn beginning docket desk
goes_on beginning docket then desk begun begins on led lawful = record { begun = begun; begins = starts_trans desk.docket then docket begins on; legal = led; docket_from = lawful }

-- the end of a batch whose desk is lost, said of the desk that was handed in
pub lost_back : {A T : Type 0} (desk : Desk) (submissions : Vec (Submission A) A) (beginning : Beginning) (docket : List Row) (r : Result T (BatchBack A)) → beginning ≡ beginning_of desk → docket ≡ desk.docket
    → IfErr r (λ back. HasLostDesk beginning docket submissions.items back) → IfErr r (λ back. AreBack desk submissions back)
lost_back desk submissions beginning docket (Ok end) begun rows h = h
lost_back desk submissions beginning docket (Err (BadWorkers other these)) begun rows h = absurd h
lost_back desk submissions beginning docket (Err (OutOfMemory other these)) begun rows h = absurd h
lost_back desk submissions beginning docket (Err Unreturned) begun rows h =
    subst (λ b. HasLostDesk b desk.docket submissions.items Unreturned) begun (subst (λ rs. HasLostDesk beginning rs submissions.items Unreturned) rows h)

-- ---- positions

module _ {A J : Type 0} (hand : J → Hand A) where
  position_same : (h : Hand A) → position_in (reply_in h) ≡ positions_of h
  position_same (Waiting s) = refl
  position_same Taken = refl
  position_same (Judged judged) = refl
  position_same (Replied reply) = refl
  position_same (Back back) = refl

  pub positions_same : (js : List J) → all_of position_in (map (λ (j : J). reply_in (hand j)) js) ≡ all_of (λ (j : J). positions_of (hand j)) js
  positions_same [] = refl
  positions_same (j ∷ js) = ap (λ z. z ++ all_of position_in (map (λ (i : J). reply_in (hand i)) js)) (position_same (hand j)) ∙ ap (λ z. positions_of (hand j) ++ z) (positions_same js)

share_mapped : {X Y : Type 0} (f : X → Y) (count share from : ℕ) (xs : List X) → share_from count share from (map f xs) ≡ map f (share_from count share from xs)
share_mapped f count share from [] = refl
share_mapped f count share from (x ∷ xs) = ap (λ z. when (from % count == share) (f x ∷ []) ++ z) (share_mapped f count share (from + 1) xs) ∙ whether (from % count == share)
  where
    whether : (b : Bool) → when b (f x ∷ []) ++ map f (share_from count share (from + 1) xs) ≡ map f (when b (x ∷ []) ++ share_from count share (from + 1) xs)
    whether true = refl
    whether false = refl

-- those that have a reply, and those that are left, are all
pub settled_count : {A : Type 0} (beginning : Beginning) (docket : List Row) (n : ℕ) (submissions : List (Submission A)) (replies : List (Option Reply)) (left : List (Left A)) → AreSettled beginning docket n submissions replies left
    → length (all_of position_in replies) + length left ≡ length replies
settled_count beginning docket n [] [] [] h = omega arith
settled_count beginning docket n [] [] (l ∷ left) h = absurd h
settled_count beginning docket n [] (reply ∷ replies) left h = absurd h
settled_count beginning docket n (s ∷ submissions) [] left h = absurd h
settled_count beginning docket n (s ∷ submissions) (Some reply ∷ replies) left h = let e = settled_count beginning docket (n + 1) submissions replies left h.1 in omega arith
settled_count beginning docket n (s ∷ submissions) (None ∷ replies) [] h = absurd h
settled_count beginning docket n (s ∷ submissions) (None ∷ replies) (l ∷ left) h = let e = settled_count beginning docket (n + 1) submissions replies left h.3 in omega arith

module _ {A J : Type 0} (hand : J → Hand A) (P : List Row → J → J → Type 0) (count : ℕ) (from upto longer : List Row) (on : StartsWith longer upto) (vs ws : List J)
    (is : AreDoneBy P (λ (j : J). positions_of (hand j)) count from upto vs ws) where
  abbrev replies : List (Option Reply)
  replies = map (λ (j : J). reply_in (hand j)) ws

  only : (k : ℕ) → Has (all_of position_in replies) k → (length from ≤ k) × (k < length longer)
  only k h = let b = is.new k (subst (λ z. Has z k) (positions_same hand ws) h) in let low = b.0 in let high = b.1 in let more = starts_longer longer upto on in (omega arith, omega arith)

  apart : AreDistinct (all_of position_in replies)
  apart = subst AreDistinct (sym (positions_same hand ws)) is.apart

  -- where the docket has as many new rows as there are replies
  pub the_rows : length from ≤ length longer → length longer - length from ≡ length (all_of position_in replies) → AreTheRows (length from) (length longer) replies
  the_rows less many = record {
    each = λ k low high. each_between (length from) (length (all_of position_in replies)) (all_of position_in replies) apart
        (λ j h. let b = only j h in let under = b.1 in (b.0, omega arith)) refl k low (omega arith);
    only = only;
    once = apart;
  }

  pub in_shares : AscendInShares count (length from) (length longer) replies
  in_shares share low =
      subst (λ z. AscendWithin (length from) z (length longer))
      (sym (ap (all_of position_in) (share_mapped (λ (j : J). reply_in (hand j)) count share 0 ws) ∙ positions_same hand (share_from count share 0 ws)))
      (ascend_higher (length from) (all_of (λ (j : J). positions_of (hand j)) (share_from count share 0 ws)) (length upto) (length longer) (starts_longer longer upto on) (is.ascend share low))
