-- A desk that is served from its files.
use Rattle.std.proofs.Common.{◌≡◌, ◌≢◌, ◌⊎◌, IsTrue, IsFalse, Bool, inl, ℕ, List, [], Option, Result, Ok, Err, refl, sym, subst}
use Rattle.kfs_model.specs.Access.{Client}
use Rattle.kfs_model.specs.Judgement.{State}
use Rattle.kfs_desk.specs.Machine.{Desk}
use Rattle.kfs_journal.specs.Disk.{Files, LeavesOnly}
use Rattle.kfs_journal.proofs.Moments.{and_then, weaker}
use Rattle.kfs_kept.specs.Admitting.{Admits, IsWhyNotAdmitted, StandForAdmitted, with_clients}
use Rattle.kfs_kept.specs.Faults.{IsOutside}
use Rattle.kfs_kept.specs.Standing.{LeadTo, MeanTheSame, StandFor, StandForAtMost}
use Rattle.kfs_kept.specs.declared.kept.Kept.{Kept}
use Rattle.kfs_kept.specs.declared.fault.AdmitFault.{AdmitFault}
use Rattle.kfs_kept.specs.declared.fault.AdmitFault.TheVariants as admitting
use Rattle.kfs_kept.specs.declared.fault.OpenFault.{OpenFault}
use Rattle.kfs_kept.specs.declared.fault.SaveFault.{SaveFault}
use Rattle.kfs_kept.specs.declared.fault.SaveFault.TheVariants as saving
use Rattle.kfs_server.specs.Serving.Running.{IsRun, IsRunAdmitting, IsRunFromFiles, IsRunFromNew}
use Rattle.kfs_server.specs.declared.serving.fault.RunFault.{RunFault}
use Rattle.kfs_server.specs.declared.serving.fault.RunFault.TheVariants.{NotAdmitted, NotMade, NotOpened, Stopped}

-- what is open isn't closed
pub never_both : (is_open : Bool) → IsTrue is_open → IsFalse is_open → ⊥
never_both is_open opened closed = cc

module _ (A : Type 0) {D : Type 0} (seen : D → Files) (may_leave : D → Files → Type 0) (moment : D → ℕ) (left_since : D → ℕ → Files → Type 0) where
  -- the files were opened, and their desk was served
  pub opened_run : (disk : D) (first : Kept A D) (result : Result (Unit {0}) RunFault) (input text : List ℕ) → StandFor (seen disk) first.desk.state
      → LeavesOnly moment left_since disk first.disk (MeanTheSame (seen disk)) → IsRun A seen may_leave moment left_since first result input text → IsRunFromFiles A seen may_leave moment left_since disk result input text
  opened_run disk first (Ok done) input text found opening run = record { first = first; found = found; opening = opening; run = run }
  opened_run disk first (Err (Stopped fault)) input text found opening run = record { first = first; found = found; opening = opening; run = run }
  opened_run disk first (Err (NotOpened why)) input text found opening run = absurd run
  opened_run disk first (Err (NotAdmitted why)) input text found opening run = absurd run
  opened_run disk first (Err (NotMade why)) input text found opening run = absurd run

  module _ (disk mid : D) (s : State) (clients : List Client) (found : StandFor (seen disk) s) (opened : LeavesOnly moment left_since disk mid (MeanTheSame (seen disk))) where
    -- an opening, and what its desk went on with
    went_on : (last : D) → LeavesOnly moment left_since mid last (StandForAdmitted s clients) → LeavesOnly moment left_since disk last (StandForAdmitted s clients)
    went_on last later =
        and_then moment left_since disk mid last (StandForAdmitted s clients)
        (weaker moment left_since disk mid (MeanTheSame (seen disk)) (StandForAdmitted s clients) (λ c means. inl (subst (λ (m : Option (List ℕ × List (List ℕ))). LeadTo m s) (sym means) found)) opened) later

    -- the desk went on with these clients, and was served
    pub admitted_run : (first : Kept A D) (result : Result (Unit {0}) RunFault) (input text : List ℕ) → Admits s.clients clients → first.desk.state ≡ with_clients s clients
        → LeavesOnly moment left_since mid first.disk (StandForAdmitted s clients) → IsRun A seen may_leave moment left_since first result input text
        → IsRunAdmitting A seen may_leave moment left_since disk clients result input text
    admitted_run first (Ok done) input text admits state later run =
        record { opened = s; found = found; admits = admits; first = first; state = state; opening = went_on first.disk later; run = run }
    admitted_run first (Err (Stopped fault)) input text admits state later run =
        record { opened = s; found = found; admits = admits; first = first; state = state; opening = went_on first.disk later; run = run }
    admitted_run first (Err (NotOpened why)) input text admits state later run = absurd run
    admitted_run first (Err (NotAdmitted why)) input text admits state later run = absurd run
    admitted_run first (Err (NotMade why)) input text admits state later run = absurd run

    -- or it didn't
    pub not_admitted : (last : D) (why : AdmitFault) → IsWhyNotAdmitted s clients why → why ≢ admitting.Unsaved saving.Closed → (why ≡ admitting.Unsaved saving.Failed) ⊎ StandFor (seen last) s
        → LeavesOnly moment left_since mid last (StandForAdmitted s clients) → IsRunAdmitting A seen may_leave moment left_since disk clients (Err (NotAdmitted why)) [] []
    not_admitted last why right not_closed stand later = record { untouched = (refl, refl); opened = s; found = found; right = right; not_closed = not_closed; back = last; stand = stand; opening = went_on last later }

  pub not_opened : (disk back : D) (why : OpenFault) → ((s : State) → StandFor (seen disk) s → IsOutside why) → LeavesOnly moment left_since disk back (MeanTheSame (seen disk))
      → IsRunFromFiles A seen may_leave moment left_since disk (Err (NotOpened why)) [] []
  not_opened disk back why due opening = record { untouched = (refl, refl); due = due; back = back; opening = opening }

  -- a journal was made, and its desk was served
  pub made_run : (desk : Desk) (disk : D) (first : Kept A D) (result : Result (Unit {0}) RunFault) (input text : List ℕ) → first.desk ≡ desk
      → LeavesOnly moment left_since disk first.disk (StandForAtMost desk.state) → IsRun A seen may_leave moment left_since first result input text → IsRunFromNew A seen may_leave moment left_since desk disk result input text
  made_run desk disk first (Ok done) input text same making run = record { first = first; same = same; making = making; run = run }
  made_run desk disk first (Err (Stopped fault)) input text same making run = record { first = first; same = same; making = making; run = run }
  made_run desk disk first (Err (NotOpened why)) input text same making run = absurd run
  made_run desk disk first (Err (NotAdmitted why)) input text same making run = absurd run
  made_run desk disk first (Err (NotMade why)) input text same making run = absurd run

  pub not_made : (desk : Desk) (disk back : D) (why : SaveFault) → LeavesOnly moment left_since disk back (StandForAtMost desk.state) → IsRunFromNew A seen may_leave moment left_since desk disk (Err (NotMade why)) [] []
  not_made desk disk back why making = record { untouched = (refl, refl); back = back; making = making }
