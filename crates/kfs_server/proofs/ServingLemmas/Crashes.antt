-- What a crash leaves while a group is answered.
use Rattle.std.proofs.Common.{◌≡◌, inl, inr, ℕ, List, [], refl, sym, subst, append-nil}
use Rattle.std.specs.List.{AllZip}
use Rattle.kfs_model.specs.Judgement.{State}
use Rattle.kfs_desk.specs.Machine.{Desk}
use Rattle.kfs_journal.specs.Disk.{Files, LeavesOnly, Only}
use Rattle.kfs_journal.proofs.Moments.{started, weaker}
use Rattle.kfs_kept.specs.Standing.{StandFor, StandForBeforeOrAfter}
use Rattle.kfs_server.specs.Frames.Frame.{Frame}
use Rattle.kfs_server.specs.Replies.Reply.{Reply}
use Rattle.kfs_server.specs.Serving.Group.{calls_of}
use Rattle.kfs_server.specs.Serving.Machine.{Serves}
use Rattle.kfs_server.specs.Serving.Standing.{StandForSome}
use Rattle.kfs_server.proofs.ServingLemmas.Runs.{IsDecidedOf}
use Rattle.kfs_server.proofs.ServingLemmas.Due.{replies_due}
use Rattle.kfs_call.specs.declared.asking.Decided.{Decided}

-- what a crash leaves where these files are there alone
pub left_stand : (files : Files) (may_leave : Files → Type 0) (s : State) → Only files may_leave → StandFor files s → (c : Files) → may_leave c → StandFor c s
left_stand files may_leave s only stand c left = subst (λ (f : Files). StandFor f s) (sym (only c left)) stand

-- none of the frames is served yet
pub none_served : (desk : Desk) (frames : List Frame) (files : Files) → StandFor files desk.state → StandForSome desk frames files
none_served desk frames files stand = record { done = []; later = frames; parts = refl; replies = []; last = desk; served = refl; stand = stand }

-- all of them are
pub all_served : (desk last : Desk) (frames : List Frame) (replies : List Reply) (files : Files) → Serves desk frames replies last → StandFor files last.state → StandForSome desk frames files
all_served desk last frames replies files served stand = record { done = frames; later = []; parts = sym (append-nil frames); replies = replies; last = last; served = served; stand = stand }

-- before all the calls of a group or after all of them is after some of its frames
pub before_or_after : (desk : Desk) (frames : List Frame) (decided : List Decided) (files : Files) → AllZip IsDecidedOf frames decided → StandForBeforeOrAfter desk (calls_of decided) files → StandForSome desk frames files
before_or_after desk frames decided files are (inl stand) = none_served desk frames files stand
before_or_after desk frames decided files are (inr after) =
    let due = replies_due desk after.last frames decided after.answers are after.runs in
    all_served desk after.last frames due.replies files due.served after.stand

-- nothing was done to the disk
pub unmoved : {D : Type 0} (moment : D → ℕ) (left_since : D → ℕ → Files → Type 0) (may_leave : Files → Type 0) (disk : D) (seen : Files) (desk : Desk) (frames : List Frame)
    → ((c : Files) → left_since disk (moment disk) c → may_leave c) → Only seen may_leave → StandFor seen desk.state → LeavesOnly moment left_since disk disk (StandForSome desk frames)
unmoved moment left_since may_leave disk seen desk frames now only stand =
    started moment left_since disk (StandForSome desk frames) (λ c left. none_served desk frames c (left_stand seen may_leave desk.state only stand c (now c left)))

-- calls were made, all of a group or none
pub moved : {D : Type 0} (moment : D → ℕ) (left_since : D → ℕ → Files → Type 0) (old new : D) (desk : Desk) (frames : List Frame) (decided : List Decided) (calls : List (List ℕ)) → calls ≡ calls_of decided
    → AllZip IsDecidedOf frames decided → LeavesOnly moment left_since old new (StandForBeforeOrAfter desk calls) → LeavesOnly moment left_since old new (StandForSome desk frames)
moved moment left_since old new desk frames decided calls is are run =
    weaker moment left_since old new (StandForBeforeOrAfter desk calls) (StandForSome desk frames)
    (λ c either. before_or_after desk frames decided c are (subst (λ (cs : List (List ℕ)). StandForBeforeOrAfter desk cs c) is either)) run
