-- The code's checks, reasons and points of a log as those of the definitions.
use Rattle.std.specs.Prelude.{◌≡◌, ℕ, Bool, List, Option, None, Some, Result}
use Rattle.std.specs.Option.{option_map, is_some}
use Rattle.std.specs.Ordering.{nat_cmp}
use Rattle.std.specs.BTreeMap.{get}
use Rattle.kfs_judge_reads.specs.Climbs.{IsWay, Follows, climbed_cells}
use Rattle.kfs_judge_reads.specs.declared.climbs.Way.{Way}
use Rattle.kfs_judge_reads.specs.Recorders.{LooksAlong}
use Rattle.kfs_model.specs.Check.{checks_of, first_failing, looked}
use Rattle.kfs_model.specs.Entry.{Entry}
use Rattle.kfs_model.specs.Check as checks
use Rattle.kfs_model.specs.Sight.{Sight, ClientSight, climb_limit, climb_meets}
use Rattle.kfs_judge.specs.declared.check.check.Reason.{Reason}
use Rattle.kfs_judge.specs.declared.check.check.Reason.TheVariants as reasons
use Rattle.kfs_judge.specs.declared.check.check.Check.{Check}
use Rattle.kfs_judge.specs.declared.check.check.Check.TheVariants as variants
use Rattle.kfs_judge_reads.specs.declared.reads.Recorder.{Recorder}
use Rattle.kfs_judge.specs.declared.check.entry_judge.EntryJudge.{EntryJudge}
use Rattle.kfs_judge_reads.specs.Draft.Overlay.{entry_context_of}
use Rattle.kfs_mode.specs.Mode.{want_shown}
use Rattle.kfs_mode.specs.declared.class.Want.{Want}

abbrev pub reason_of : Reason → checks.Reason
reason_of reasons.NoSuchNode = checks.NoSuchNode
reason_of reasons.NotDirectory = checks.NotDirectory
reason_of reasons.IsDirectory = checks.IsDirectory
reason_of reasons.NoSuchName = checks.NoSuchName
reason_of reasons.NameTaken = checks.NameTaken
reason_of reasons.NumberTaken = checks.NumberTaken
reason_of reasons.NumberNotGranted = checks.NumberNotGranted
reason_of reasons.NotEmpty = checks.NotEmpty
reason_of reasons.BelowItself = checks.BelowItself
reason_of reasons.TooManyLinks = checks.TooManyLinks
reason_of reasons.TooBig = checks.TooBig
reason_of reasons.NoSearch = checks.NoSearch
reason_of reasons.NoWrite = checks.NoWrite
reason_of reasons.NotOwner = checks.NotOwner
reason_of (reasons.NoLease n) = checks.NoLease n
reason_of reasons.Sticky = checks.Sticky
reason_of reasons.NotInGroup = checks.NotInGroup

abbrev pub check_of : Check → checks.Check
check_of (variants.Exists n) = checks.Exists n
check_of (variants.IsADirectory n) = checks.IsADirectory n
check_of (variants.IsAFile n) = checks.IsAFile n
check_of (variants.MaySearch n) = checks.MaySearch n
check_of (variants.MayWrite n) = checks.MayWrite n
check_of (variants.IsOwned n) = checks.IsOwned n
check_of (variants.MayRemove d n) = checks.MayRemove d n
check_of (variants.MaySetGroup group) = checks.MaySetGroup group
check_of (variants.IsLeased n) = checks.IsLeased n
check_of (variants.HasNoNames n) = checks.HasNoNames n
check_of (variants.HasRoomForLink n) = checks.HasRoomForLink n
check_of (variants.NameIsFree key) = checks.NameIsFree key.now.0 key.now.1
check_of (variants.NumberIsGranted n) = checks.NumberIsGranted n
check_of (variants.NumberIsFree n) = checks.NumberIsFree n
check_of (variants.EndIsInRange end) = checks.EndIsInRange end
check_of (variants.IsNotAbove n d) = checks.IsNotAbove n d

-- the check asks what the client may do
abbrev pub IsOfRight : Check → Type 0
IsOfRight (variants.MaySearch n) = Unit {0}
IsOfRight (variants.MayWrite n) = Unit {0}
IsOfRight (variants.IsOwned n) = Unit {0}
IsOfRight (variants.MaySetGroup group) = Unit {0}
IsOfRight (variants.MayRemove d n) = Unit {0}
IsOfRight _ = ⊥

-- the check asks what a header says, for any client
abbrev pub IsOfHeader : Check → Type 0
IsOfHeader (variants.Exists n) = Unit {0}
IsOfHeader (variants.IsADirectory n) = Unit {0}
IsOfHeader (variants.IsAFile n) = Unit {0}
IsOfHeader (variants.HasRoomForLink n) = Unit {0}
IsOfHeader _ = ⊥

-- the point at which the entry is judged, given what the client saw before the log
abbrev pub entry_context_in : {A : Type 0} → EntryJudge A → ClientSight → checks.EntryContext
entry_context_in judge before = entry_context_of judge.client.now judge.draft.now before

module _ {A : Type 0} (judge : EntryJudge A) where
  -- what the cells show now
  abbrev pub sight_in : ClientSight → Sight
  sight_in before = (entry_context_in judge before).now

  -- the parent of a directory now
  abbrev pub parent_in : ClientSight → ℕ → Option ℕ
  parent_in before = (sight_in before).parent

  -- whether the client may use the node in this way now
  abbrev pub is_granted_in : ClientSight → Want → (number : ℕ) → Bool
  is_granted_in before want number = checks.is_permitted (entry_context_in judge before) (want_shown want) number

  -- whether the client may take a name of the node out of the directory now
  abbrev pub may_remove_in : ClientSight → (directory number : ℕ) → Bool
  may_remove_in before directory number = checks.may_remove judge.client.now ((sight_in before).head directory) ((sight_in before).head number)

  -- whether an entry has written the parent of the directory
  abbrev pub is_moved_in : ℕ → Bool
  is_moved_in n = is_some (get nat_cmp judge.draft.now.parents.map n)

  -- the ways that the recorder keeps stop at each directory whose parent an entry has written
  abbrev pub StopsAtMoved : Recorder A → Type 0
  StopsAtMoved recorder = Follows is_moved_in recorder.climbs

  -- so many steps lead to the last directory, unless one meets the node; or there is no parent
  abbrev pub LeadsOn : (node from : ℕ) → Option Way → ClientSight → Type 0
  LeadsOn node from None before = parent_in before from ≡ None
  LeadsOn node from (Some way) before = IsWay (parent_in before) node way.steps from way.last

  -- the answer says whether a climb from the directory meets the node; only parents on the way were
  -- read
  abbrev pub AnswersClimb : {E : Type 0} → (old new : Recorder A) → Result Bool E → (node directory : ℕ) → Type 0
  AnswersClimb old new result node directory =
      LooksAlong old new result (λ before. climbed_cells (parent_in before) climb_limit directory) (λ meets before. climb_meets (parent_in before) climb_limit node directory ≡ meets)

  -- the answer is the reason of the check, if it fails; only the check's cells were read
  abbrev pub JudgesCheck : {E : Type 0} → (old new : Recorder A) → Result (Option Reason) E → Check → Type 0
  JudgesCheck old new result check =
      LooksAlong old new result (λ before. checks.cells (entry_context_in judge before) (check_of check)) (λ reason before. checks.fault (entry_context_in judge before) (check_of check) ≡ option_map reason_of reason)

  -- the answer is the reason of the first check that fails; only the cells of the checks up to that one
  -- were read
  abbrev pub JudgesAll : {E : Type 0} → (old new : Recorder A) → Result (Option Reason) E → (checks.EntryContext → List checks.Check) → Type 0
  JudgesAll old new result listed =
      LooksAlong old new result (λ before. looked (entry_context_in judge before) (listed (entry_context_in judge before))) (λ reason before. first_failing (entry_context_in judge before) (listed (entry_context_in judge before)) ≡ option_map reason_of reason)

-- the answer is the entry's first fault; only the cells of its checks were read
abbrev pub AnswersEntry : {A E : Type 0} → EntryJudge A → (old new : Recorder A) → Result (Option Reason) E → Entry → Type 0
AnswersEntry judge old new result entry = JudgesAll judge old new result (λ p. checks_of p entry)
