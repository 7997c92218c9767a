-- What becomes of an entry: memory cut it short, it has a fault, or it gives a node another header.
use Rattle.std.specs.Prelude.{◌≡◌, ◌==◌, ℕ, ◌+◌, List, [], ◌∷◌, ◌++◌, Contains, Option, Some, None, Result, Ok, Err, IsErr, IsTrue}
use Rattle.std.specs.declared.alloc.AllocError.{AllocError}
use Rattle.std.proofs.Common.{arith, subst, sym}
use Rattle.std.proofs.lemmas.Bool.{eqb-true}
use Rattle.kfs_model.specs.Entry.{Entry}
use Rattle.kfs_model.specs.Check.{EntryContext, entry_cells, first_fault}
use Rattle.kfs_model.specs.Sight.{Cell, ClientSight, HeaderOf}
use Rattle.kfs_judge.specs.declared.check.check.Reason.{Reason}
use Rattle.kfs_judge.proofs.CheckLemmas.Looking.{written_wider}
use Rattle.kfs_judge_reads.specs.Draft.Overlay.{has_header, ChangesAreAmong, KeepsHeaders, ShiftsBy}
use Rattle.kfs_judge_reads.specs.declared.draft.draft.Draft.{Draft}
use Rattle.kfs_judge_reads.proofs.DraftLemmas.Overlays.{shifts_wider}
use Rattle.kfs_judge.specs.declared.step.log_judge.LogJudge.{LogJudge}
use Rattle.kfs_judge.specs.Step.Entered.{CreatesItsNumber, IsEntered, IsFirstFault, ReadsItsCells, ShowsItsChange, next_context}
use Rattle.kfs_judge.specs.Step.FileSizes.{HasFileOf}
use Rattle.kfs_judge.specs.Step.Nets.{LooksOver}
use Rattle.kfs_judge_reads.specs.declared.reads.Recorder.{Recorder}
use Rattle.kfs_judge_reads.specs.Reads.{IsPart}
use Rattle.kfs_judge_reads.specs.Recorders.{GoesOn, Known, ReadsAt}
use Rattle.kfs_judge_reads.proofs.Recording.{goes_then, within_then, within_wider, first_is_in, left_is_part, right_is_part}

module _ {A : Type 0} (old new : LogJudge A) (entry : Entry) (goes : GoesOn old.recorder new.recorder) (client : new.client.now ≡ old.client.now) where
  pub is_cut_short : (answer : Result (Option Reason) AllocError) → IsErr answer → IsEntered old new entry answer
  is_cut_short (Err error) is = record { goes = goes; client = client; known = tt; among = tt; change = λ clean. cc }
  is_cut_short (Ok found) is = cc

  pub has_fault : (reason : Reason) → IsFirstFault old new entry (Some reason) → ReadsItsCells old new entry → IsEntered old new entry (Ok (Some reason))
  has_fault reason known among = record { goes = goes; client = client; known = known; among = among; change = λ clean. cc }

-- memory cuts a look at all that was written short
pub is_cut_off : {A X : Type 0} (draft : Draft A) {old new : Recorder A} (says : X → ClientSight → Type 0) → GoesOn old new → (answer : Result X AllocError) → IsErr answer → LooksOver draft old new answer says
is_cut_off draft says goes (Err error) is = record { goes = goes; known = tt; among = tt }
is_cut_off draft says goes (Ok found) is = cc

-- the file whose header is put
pub own_file : {A : Type 0} (draft : Draft A) (k : ℕ) → IsTrue (has_header draft k) → (n : ℕ) → IsTrue (n == k) → IsTrue (has_header draft n)
own_file draft k put n is = subst (λ m. IsTrue (has_header draft m)) (sym (eqb-true n k is)) put

-- no check fails; then the header of a node is looked at, which the checks did too, and the node has another one
module _ {A : Type 0} (old new : LogJudge A) (then : Recorder A) (entry : Entry) (n : ℕ) (goes : GoesOn old.recorder then) (looks : GoesOn then new.recorder) (client : new.client.now ≡ old.client.now) where
  pub header_is_set : Known then (λ before. first_fault (next_context old before) entry ≡ None)
      → Known then (λ before. ReadsAt old.recorder then (entry_cells (next_context old before) entry))
      → ReadsAt then new.recorder (HeaderOf n ∷ [])
      → ((p : EntryContext) → IsPart (HeaderOf n ∷ []) (entry_cells p entry))
      → ShowsItsChange old new entry
      → ((among : List Cell) → ChangesAreAmong old.draft among → Contains among (HeaderOf n) → ChangesAreAmong new.draft among)
      → CreatesItsNumber old new entry
      → KeepsHeaders old.draft new.draft
      → HasFileOf new.draft entry
      → ((most : ℕ) → ShiftsBy most old.draft → ShiftsBy most new.draft)
      → IsEntered old new entry (Ok None)
  header_is_set clean read read_header part shown writes created kept reached shifts = record {
    goes = goes_then goes looks;
    client = client;
    known = λ state agrees. clean state (looks.grows state agrees);
    among = λ state agrees. within_then (read state (looks.grows state agrees)) (within_wider (part (next_context old state)) read_header);
    change = λ _. record {
      shown = shown;
      written = λ state agrees among written.
          let front = entry_cells (next_context old state) entry in
          writes (front ++ among) (written_wider old.draft among (front ++ among) (right_is_part front among) written)
          (left_is_part front among (HeaderOf n) (part (next_context old state) (HeaderOf n) (first_is_in (HeaderOf n) [])));
      created = created;
      kept = kept;
      reached = reached;
      shifts = λ most bound. shifts_wider new.draft most (most + 3) (omega arith) (shifts most bound);
    };
  }
