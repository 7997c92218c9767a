-- Look-ups that are answered.
use Rattle.std.proofs.Common.{◌≡◌, inl, inr, ℕ, ◌≤◌, List, [], ◌∷◌, ◌++◌, Result, Ok, Err, refl, sym, ap, subst, ◌∙◌, append_assoc, append-nil}
use Rattle.kfs_desk.specs.Machine.{Desk}
use Rattle.kfs_journal.specs.Disk.{Files, LeavesOnly}
use Rattle.kfs_journal.proofs.Moments.{weaker}
use Rattle.kfs_program_text.specs.Streams.{IsWritten}
use Rattle.kfs_kept.specs.Standing.{StandFor}
use Rattle.kfs_kept.specs.declared.kept.Kept.{Kept}
use Rattle.kfs_server.specs.Frames.Frame.{Frame}
use Rattle.std.specs.Prelude.{IfOk}
use Rattle.kfs_server.specs.LookUps.LookUp.{LookUp, AsksLookUp}
use Rattle.kfs_server.specs.LookUps.Views.{IsWithin}
use Rattle.kfs_server.specs.Replies.Reply as spelled
use Rattle.kfs_server.specs.Serving.Looking.{IsLookedUp, IsTurnedAway, looked_up_bytes, looked_up_reply}
use Rattle.kfs_server.specs.Replies.Views.{refusal_shown}
use Rattle.kfs_server.specs.Serving.Machine.{IsRefusedFor, Replies}
use Rattle.kfs_server.specs.Serving.Standing.{StandForSome}
use Rattle.kfs_server.specs.Serving.Transcript.{ServedAll, ServedSome}
use Rattle.kfs_server.specs.declared.look_ups.found.Found.{Found}
use Rattle.kfs_server.specs.declared.replies.reply.Refusal.{Refusal}
use Rattle.kfs_server.specs.declared.replies.reply.Refusal.TheVariants as refusals
use Rattle.kfs_server.proofs.ServingLemmas.Crashes.{none_served}
use Rattle.kfs_server.proofs.ServingLemmas.Sessions.{group_failed}

-- the machine may refuse so
turned_away : (desk : Desk) (f : Frame) (look_up : LookUp) (why : Refusal) → AsksLookUp f look_up → IsTurnedAway look_up f.from why → IsRefusedFor desk f (refusal_shown why)
turned_away desk f look_up refusals.OutOfMemory asks is = inl tt
turned_away desk f look_up refusals.NotYours asks is = inr (inr (inl (refl, record { look_up = look_up; asks = asks; another = is })))
turned_away desk f look_up (refusals.BadField k) asks is = inr (inr (inr (ap (λ (n : ℕ). spelled.BadField n) is.0, record { look_up = look_up; asks = asks; none = is.1 })))
turned_away desk f look_up refusals.TooLong asks is = absurd is
turned_away desk f look_up refusals.CutShort asks is = absurd is
turned_away desk f look_up refusals.Trailing asks is = absurd is
turned_away desk f look_up refusals.DocketFull asks is = absurd is

-- the machine may reply this
pub looked_replies : {B : Type 0} (desk : Desk) (f : Frame) (look_up : LookUp) (found : Result (Found B) Refusal) → AsksLookUp f look_up → IsLookedUp desk f.from look_up found → Replies desk f (looked_up_reply found) desk
looked_replies desk f look_up (Ok found) asks (inl is) = (record { look_up = look_up; asks = asks; yours = is.0; is = is.1.0 }, refl)
looked_replies desk f look_up (Ok found) asks (inr other) = let no = other.1 in absurd cc
looked_replies desk f look_up (Err why) asks (inl is) = (subst (λ (w : Refusal). IsRefusedFor desk f (refusal_shown w)) (sym is.1) (inl tt), refl)
looked_replies {B} desk f look_up (Err why) asks (inr other) =
    let no = other.1 in
    let same : why ≡ other.0 = cc in
    (subst (λ (w : Refusal). IsRefusedFor desk f (refusal_shown w)) (sym same) (turned_away desk f look_up other.0 asks other.2), refl)

-- what is found is no longer than that may be
pub looked_within : {B : Type 0} (desk : Desk) (from : ℕ) (look_up : LookUp) (found : Result (Found B) Refusal) → IsLookedUp desk from look_up found → IfOk found IsWithin
looked_within desk from look_up (Ok found) (inl is) = is.1.1
looked_within desk from look_up (Ok found) (inr other) = let no = other.1 in absurd cc
looked_within desk from look_up (Err why) is = tt

-- what is written behind a first part
pub written_behind : {T E : Type 0} (result : Result T E) (head tail whole s t : List ℕ) → head ++ tail ≡ whole → s ≡ head → IsWritten result tail t → IsWritten result whole (s ++ t)
written_behind (Ok done) head tail whole s t parts first second = ap (λ (bs : List ℕ). bs ++ t) first ∙ ap (λ (bs : List ℕ). head ++ bs) second ∙ parts
written_behind (Err fault) head tail whole s t parts first second =
    (second.0, sym parts ∙ ap (λ (bs : List ℕ). head ++ bs) second.1 ∙ sym (append_assoc head t second.0) ∙ ap (λ (bs : List ℕ). (bs ++ t) ++ second.0) (sym first))

module _ {A D : Type 0} (may_leave : D → Files → Type 0) (moment : D → ℕ) (left_since : D → ℕ → Files → Type 0) where
  some_left : (old new : Kept A D) (frames : List Frame) → LeavesOnly moment left_since old.disk new.disk (λ c. StandFor c old.desk.state) → LeavesOnly moment left_since old.disk new.disk (StandForSome old.desk frames)
  some_left old new frames run = weaker moment left_since old.disk new.disk (λ c. StandFor c old.desk.state) (StandForSome old.desk frames) (λ c stand. none_served old.desk frames c stand) run

  -- the disk has failed meanwhile
  pub look_failed : (old new : Kept A D) (frames : List Frame) → ((c : Files) → moment old.disk ≤ moment new.disk → may_leave new.disk c → left_since new.disk (moment old.disk) c)
      → LeavesOnly moment left_since old.disk new.disk (λ c. StandFor c old.desk.state) → ServedSome may_leave moment left_since old new frames []
  look_failed old new frames counts run = group_failed may_leave moment left_since old new frames counts (some_left old new frames run)

module _ {A B D : Type 0} (may_leave : D → Files → Type 0) (moment : D → ℕ) (left_since : D → ℕ → Files → Type 0) where
  -- a look-up is answered with this text
  pub looked_served : (old new : Kept A D) (f : Frame) (look_up : LookUp) (found : Result (Found B) Refusal) (text : List ℕ) → AsksLookUp f look_up → IsLookedUp old.desk f.from look_up found → new.desk ≡ old.desk
      → ((c : Files) → moment old.disk ≤ moment new.disk → may_leave new.disk c → left_since new.disk (moment old.disk) c)
      → LeavesOnly moment left_since old.disk new.disk (λ c. StandFor c old.desk.state) → text ≡ looked_up_bytes f.number found → ServedAll may_leave moment left_since old new (f ∷ []) text
  looked_served old new f look_up found text asks is same counts run said = record {
    replies = looked_up_reply found ∷ [];
    served = (old.desk, looked_replies old.desk f look_up found asks is, same);
    said = said ∙ sym (append-nil (looked_up_bytes f.number found));
    acknowledged = λ c left. subst (λ (d : Desk). StandFor c d.state) (sym same) (run.each c (counts c run.later left));
    any_moment = some_left may_leave moment left_since old new (f ∷ []) run;
  }
