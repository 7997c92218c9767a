-- What a log's judge has done with one entry, and with several in a row.
use Rattle.std.specs.Prelude.{◌≡◌, ◌==◌, ℕ, List, ◌∷◌, [], Contains, if◌then◌else◌, ◌++◌, Option, Some, None, Result, Ok, IfOk, OnOk}
use Rattle.std.specs.Option.{option_map}
use Rattle.std.specs.declared.alloc.AllocError.{AllocError}
use Rattle.kfs_model.specs.Entry.{Entry}
use Rattle.kfs_model.specs.Sight.{ClientSight, Cell, HeaderOf, NameIn}
use Rattle.kfs_model.specs.Check.{EntryContext, first_fault, entry_cells}
use Rattle.kfs_model.specs.Run.{created_by}
use Rattle.kfs_model.specs.SeenAfter.{seen_after, seen_renamed, seen_unlinked}
use Rattle.kfs_judge.specs.declared.check.check.Reason.{Reason}
use Rattle.kfs_judge.specs.declared.step.log_judge.LogJudge.{LogJudge}
use Rattle.kfs_judge.specs.Step.FileSizes.{HasFileOf}
use Rattle.kfs_judge.specs.Check.Checks.{reason_of}
use Rattle.kfs_judge_reads.specs.Draft.Overlay.{over, entry_context_of, AreCreated, ChangesAreAmong, KeepsHeaders, ShiftsFurther}
use Rattle.kfs_judge_reads.specs.Reads.{IsPart}
use Rattle.kfs_judge_reads.specs.Recorders.{GoesOn, Known, ReadsAt}

-- the point at which the next entry is judged, given what the client saw before the log
abbrev pub next_context : {A : Type 0} → LogJudge A → ClientSight → EntryContext
next_context judge before = entry_context_of judge.client.now judge.draft before

-- the cell of the header of the node that loses a name
abbrev pub headers_unlinked : (there : Option ℕ) → List Cell
headers_unlinked None = []
headers_unlinked (Some t) = HeaderOf t ∷ []

-- the cells of the headers that a Rename looks at: the moved node's and the replaced one's
abbrev pub headers_renamed : (from to : Option ℕ) → List Cell
headers_renamed None to = []
headers_renamed (Some s) None = HeaderOf s ∷ []
headers_renamed (Some s) (Some t) = if t == s then [] else HeaderOf s ∷ HeaderOf t ∷ []

-- an entry, and the judge before and after it
module _ {A : Type 0} (old new : LogJudge A) (entry : Entry) where
  abbrev pub IsFirstFault : Option Reason → Type 0
  IsFirstFault reason = Known new.recorder (λ before. first_fault (next_context old before) entry ≡ option_map reason_of reason)

  abbrev pub ReadsItsCells : Type 0
  ReadsItsCells = Known new.recorder (λ before. ReadsAt old.recorder new.recorder (entry_cells (next_context old before) entry))

  abbrev pub ShowsItsChange : Type 0
  ShowsItsChange = Known new.recorder (λ before. over new.draft before.sight ≡ seen_after old.client.now (over old.draft before.sight) entry)

  -- each name and header that the draft has was there before, or the entry looked at it
  abbrev pub WritesItsCells : Type 0
  WritesItsCells = Known new.recorder (λ before. (among : List Cell) → ChangesAreAmong old.draft among → ChangesAreAmong new.draft (entry_cells (next_context old before) entry ++ among))

  abbrev pub CreatesItsNumber : Type 0
  CreatesItsNumber = (numbers : List ℕ) → AreCreated old.draft numbers → AreCreated new.draft (created_by entry numbers)

-- an entry, the judge before and after it, and the answer
module _ {A : Type 0} (old new : LogJudge A) (entry : Entry) where
  -- the draft has the entry's change, only at cells that were looked at, and the header of the file
  -- that the entry reaches
  pub record MakesItsChange : Type 0 where
    pub shown : ShowsItsChange old new entry
    pub written : WritesItsCells old new entry
    pub created : CreatesItsNumber old new entry
    pub kept : KeepsHeaders old.draft new.draft
    pub reached : HasFileOf new.draft entry
    pub shifts : ShiftsFurther 3 old.draft new.draft

  -- the answer is the entry's first fault; where there is none, the change is made
  pub record IsEntered (answer : Result (Option Reason) AllocError) : Type 0 where
    pub goes : GoesOn old.recorder new.recorder
    pub client : new.client.now ≡ old.client.now
    pub known : IfOk answer (IsFirstFault old new entry)
    pub among : OnOk answer (ReadsItsCells old new entry)
    pub change : answer ≡ Ok None → MakesItsChange

-- a name that leads to this node is removed
module _ {A : Type 0} (old new : LogJudge A) (d : ℕ) (m : List ℕ) (there : Option ℕ) where
  abbrev pub ShowsUnlink : Type 0
  ShowsUnlink = Known new.recorder (λ before. over new.draft before.sight ≡ seen_unlinked d m there (over old.draft before.sight))

  abbrev pub WritesUnlink : Type 0
  WritesUnlink = (among : List Cell) → ChangesAreAmong old.draft among → Contains among (NameIn d m) → IsPart (headers_unlinked there) among → ChangesAreAmong new.draft among

-- a name moves to a second one; the two lead to these nodes
module _ {A : Type 0} (old new : LogJudge A) (d : ℕ) (m : List ℕ) (e : ℕ) (k : List ℕ) (from to : Option ℕ) where
  abbrev pub ShowsRename : Type 0
  ShowsRename = Known new.recorder (λ before. over new.draft before.sight ≡ seen_renamed d m e k from to (over old.draft before.sight))

  abbrev pub WritesRename : Type 0
  WritesRename = (among : List Cell) → ChangesAreAmong old.draft among → Contains among (NameIn d m) → Contains among (NameIn e k) → IsPart (headers_renamed from to) among → ChangesAreAmong new.draft among
