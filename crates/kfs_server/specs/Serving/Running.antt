-- A desk that is served from its files, from their opening on.
use Rattle.std.specs.Prelude.{◌≡◌, ◌≢◌, ◌⊎◌, ℕ, List, [], Result, Ok, Err}
use Rattle.kfs_model.specs.Access.{Client}
use Rattle.kfs_model.specs.Judgement.{State}
use Rattle.kfs_desk.specs.Machine.{Desk}
use Rattle.kfs_journal.specs.Disk.{Files, LeavesOnly}
use Rattle.kfs_kept.specs.Admitting.{Admits, IsWhyNotAdmitted, StandForAdmitted, with_clients}
use Rattle.kfs_kept.specs.Faults.{IsOutside}
use Rattle.kfs_kept.specs.Standing.{MeanTheSame, StandFor, StandForAtMost}
use Rattle.kfs_kept.specs.declared.kept.Kept.{Kept}
use Rattle.kfs_kept.specs.declared.fault.AdmitFault.{AdmitFault}
use Rattle.kfs_kept.specs.declared.fault.AdmitFault.TheVariants as admitting
use Rattle.kfs_kept.specs.declared.fault.OpenFault.{OpenFault}
use Rattle.kfs_kept.specs.declared.fault.OpenFault.TheVariants as opening
use Rattle.kfs_kept.specs.declared.fault.SaveFault.{SaveFault}
use Rattle.kfs_kept.specs.declared.fault.SaveFault.TheVariants as saving
use Rattle.kfs_server.specs.Serving.Transcript.{IsAnsweredAll, IsAnsweredSome}
use Rattle.kfs_server.specs.declared.serving.fault.GroupFault.TheVariants as groups
use Rattle.kfs_server.specs.declared.serving.fault.RunFault.{RunFault}
use Rattle.kfs_server.specs.declared.serving.fault.RunFault.TheVariants.{NotAdmitted, NotMade, NotOpened, Stopped}
use Rattle.kfs_server.specs.declared.serving.fault.ServeFault.{ServeFault}
use Rattle.kfs_server.specs.declared.serving.fault.ServeFault.TheVariants.{Group, OutOfMemory, ReadFault, WriteFault}

-- nothing was read, and nothing written
abbrev pub IsUntouched : (input text : List ℕ) → Type 0
IsUntouched input text = (input ≡ []) × (text ≡ [])

module _ (A : Type 0) {D : Type 0} (seen : D → Files) (may_leave : D → Files → Type 0) (moment : D → ℕ) (left_since : D → ℕ → Files → Type 0) where
  -- the desk is served to the end of the input, or until serving stops
  abbrev pub IsRun : (first : Kept A D) → Result (Unit {0}) RunFault → (input text : List ℕ) → Type 0
  IsRun first (Ok done) input text = (last : Kept A D) × IsAnsweredAll may_leave moment left_since first last input text
  IsRun first (Err (Stopped fault)) input text = (last : Kept A D) × IsAnsweredSome may_leave moment left_since fault first last input text
  IsRun first (Err (NotOpened why)) input text = ⊥
  IsRun first (Err (NotAdmitted why)) input text = ⊥
  IsRun first (Err (NotMade why)) input text = ⊥

  -- the files are opened, at any moment of which a crash leaves what they stood for; then their desk is served
  pub record IsOpenedAndRun (disk : D) (result : Result (Unit {0}) RunFault) (input text : List ℕ) : Type 0 where
    pub first : Kept A D
    pub found : StandFor (seen disk) first.desk.state
    pub opening : LeavesOnly moment left_since disk first.disk (MeanTheSame (seen disk))
    pub run : IsRun first result input text

  -- or they aren't, and stand for what they did; files that stand for a state are refused for memory, for the docket's
  -- room or for the disk alone
  pub record IsNotOpened (disk : D) (why : OpenFault) (input text : List ℕ) : Type 0 where
    pub untouched : IsUntouched input text
    pub due : (s : State) → StandFor (seen disk) s → IsOutside why
    pub back : D
    pub opening : LeavesOnly moment left_since disk back (MeanTheSame (seen disk))

  abbrev pub IsRunFromFiles : D → Result (Unit {0}) RunFault → (input text : List ℕ) → Type 0
  IsRunFromFiles disk (Ok done) input text = IsOpenedAndRun disk (Ok done) input text
  IsRunFromFiles disk (Err (Stopped fault)) input text = IsOpenedAndRun disk (Err (Stopped fault)) input text
  IsRunFromFiles disk (Err (NotOpened why)) input text = IsNotOpened disk why input text
  IsRunFromFiles disk (Err (NotAdmitted why)) input text = ⊥
  IsRunFromFiles disk (Err (NotMade why)) input text = ⊥

  -- the files are opened, and their desk goes on with these clients in place of its own, at any moment of which a crash leaves
  -- the state that they stood for, or that with these clients; then it is served
  pub record IsAdmittedAndRun (disk : D) (clients : List Client) (result : Result (Unit {0}) RunFault) (input text : List ℕ) : Type 0 where
    pub opened : State
    pub found : StandFor (seen disk) opened
    pub admits : Admits opened.clients clients
    pub first : Kept A D
    pub state : first.desk.state ≡ with_clients opened clients
    pub opening : LeavesOnly moment left_since disk first.disk (StandForAdmitted opened clients)
    pub run : IsRun first result input text

  -- or the desk doesn't go on with them, for a reason that is right of them; the files stand for what they did, unless they failed
  pub record IsNotAdmitted (disk : D) (clients : List Client) (why : AdmitFault) (input text : List ℕ) : Type 0 where
    pub untouched : IsUntouched input text
    pub opened : State
    pub found : StandFor (seen disk) opened
    pub right : IsWhyNotAdmitted opened clients why
    pub not_closed : why ≢ admitting.Unsaved saving.Closed
    pub back : D
    pub stand : (why ≡ admitting.Unsaved saving.Failed) ⊎ StandFor (seen back) opened
    pub opening : LeavesOnly moment left_since disk back (StandForAdmitted opened clients)

  abbrev pub IsRunAdmitting : D → List Client → Result (Unit {0}) RunFault → (input text : List ℕ) → Type 0
  IsRunAdmitting disk clients (Ok done) input text = IsAdmittedAndRun disk clients (Ok done) input text
  IsRunAdmitting disk clients (Err (Stopped fault)) input text = IsAdmittedAndRun disk clients (Err (Stopped fault)) input text
  IsRunAdmitting disk clients (Err (NotOpened why)) input text = IsNotOpened disk why input text
  IsRunAdmitting disk clients (Err (NotAdmitted why)) input text = IsNotAdmitted disk clients why input text
  IsRunAdmitting disk clients (Err (NotMade why)) input text = ⊥

  -- a journal is made for the desk, at any moment of which a crash leaves nothing or its state; then it is served
  pub record IsMadeAndRun (desk : Desk) (disk : D) (result : Result (Unit {0}) RunFault) (input text : List ℕ) : Type 0 where
    pub first : Kept A D
    pub same : first.desk ≡ desk
    pub making : LeavesOnly moment left_since disk first.disk (StandForAtMost desk.state)
    pub run : IsRun first result input text

  -- or none is
  pub record IsNotMade (desk : Desk) (disk : D) (input text : List ℕ) : Type 0 where
    pub untouched : IsUntouched input text
    pub back : D
    pub making : LeavesOnly moment left_since disk back (StandForAtMost desk.state)

  abbrev pub IsRunFromNew : Desk → D → Result (Unit {0}) RunFault → (input text : List ℕ) → Type 0
  IsRunFromNew desk disk (Ok done) input text = IsMadeAndRun desk disk (Ok done) input text
  IsRunFromNew desk disk (Err (Stopped fault)) input text = IsMadeAndRun desk disk (Err (Stopped fault)) input text
  IsRunFromNew desk disk (Err (NotOpened why)) input text = ⊥
  IsRunFromNew desk disk (Err (NotAdmitted why)) input text = ⊥
  IsRunFromNew desk disk (Err (NotMade why)) input text = IsNotMade desk disk input text

-- ---- the exit status: 1 where clients aren't taken, 3 where files fail, 4 where memory is refused, 5 where input or output fails

abbrev pub open_status : OpenFault → ℕ
open_status opening.OutOfMemory = 4
open_status opening.Empty = 3
open_status opening.NotAJournal = 3
open_status (opening.BadState fault) = 3
open_status (opening.BadGroup index) = 3
open_status (opening.Differs index) = 3
open_status opening.DocketFull = 3
open_status opening.Failed = 3

abbrev pub save_status : SaveFault → ℕ
save_status saving.OutOfMemory = 4
save_status saving.Closed = 3
save_status saving.TooMany = 3
save_status saving.Full = 3
save_status saving.Failed = 3

abbrev pub admit_status : AdmitFault → ℕ
admit_status (admitting.LeftOut number) = 1
admit_status (admitting.BadClients fault) = 1
admit_status (admitting.Unsaved fault) = save_status fault

abbrev pub serve_status : ServeFault → ℕ
serve_status ReadFault = 5
serve_status WriteFault = 5
serve_status OutOfMemory = 4
serve_status (Group groups.Full) = 3
serve_status (Group groups.Failed) = 3

abbrev pub status_of : Result (Unit {0}) RunFault → ℕ
status_of (Ok done) = 0
status_of (Err (NotOpened why)) = open_status why
status_of (Err (NotAdmitted why)) = admit_status why
status_of (Err (NotMade why)) = save_status why
status_of (Err (Stopped fault)) = serve_status fault
