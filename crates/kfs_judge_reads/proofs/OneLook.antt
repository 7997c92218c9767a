-- A look that reads one cell more.
use Rattle.std.specs.Prelude.{◌≡◌, true, false, Result, Ok, List, ◌++◌, ◌∷◌, []}
use Rattle.std.proofs.Common.{ap, sym, subst, ◌∙◌}
use mathlib.Core.Bool.{true≢false}
use Rattle.kfs_model.specs.Sight.{ClientSight, answer}
use Rattle.kfs_judge_reads.specs.declared.reads.Read.{Read}
use Rattle.kfs_judge_reads.specs.declared.reads.ReadAnswer.{ReadAnswer}
use Rattle.kfs_judge_reads.specs.declared.reads.Recorder.{Recorder}
use Rattle.kfs_judge_reads.specs.Reads.{cell_of, answer_of, Agrees, AreOnce}
use Rattle.kfs_judge_reads.specs.Recorders.{AnswersLook, GoesOn, seen_by}
use Rattle.kfs_judge_reads.proofs.ReadsAgree.{grows_by_one, known_at_end, agrees_by_one}
use Rattle.kfs_judge_reads.proofs.Recording.{within_one}

-- the same read, said otherwise
pub read_as : {read same : Read} {new : List (Read × ReadAnswer)} (old : List (Read × ReadAnswer)) (told : ReadAnswer) → read ≡ same → new ≡ old ++ (read, told) ∷ [] → new ≡ old ++ (same, told) ∷ []
read_as old told is last = last ∙ ap (λ r. old ++ (r, told) ∷ []) is

module _ {A : Type 0} (old new : Recorder A) (read : Read) (told : ReadAnswer) (last : new.reads.entries ≡ old.reads.entries ++ (read, told) ∷ [])
    (keeps : new.reads.keeps ≡ old.reads.keeps) (same : seen_by new ≡ seen_by old) (shown : answer (seen_by old) (cell_of read) ≡ answer_of told) where
  pub goes_by_one : (old.reads.keeps ≡ true → AreOnce old.reads.entries → AreOnce new.reads.entries) → GoesOn old new
  goes_by_one once = record {
    grows = grows_by_one old.reads.entries new.reads.entries read told last;
    same = same;
    keeps = keeps;
    agrees = λ agrees. subst (Agrees new.reads.entries) (sym same) (agrees_by_one old.reads.entries new.reads.entries read told (seen_by old) last shown agrees);
    once = once;
  }

  -- what follows from the answer is known
  pub looks_at_one : {X E : Type 0} (x : X) (says : X → ClientSight → Type 0) → (old.reads.keeps ≡ true → AreOnce old.reads.entries → AreOnce new.reads.entries)
      → ((state : ClientSight) → answer state (cell_of read) ≡ answer_of told → says x state) → AnswersLook {E = E} old new (Ok x) (cell_of read ∷ []) says
  looks_at_one x says once leads = record {
    goes = goes_by_one once;
    known = λ state agrees. leads state (known_at_end old.reads.entries new.reads.entries read told last state agrees);
    among = within_one old.reads.entries new.reads.entries read told last;
  }

  -- where reads aren't kept
  pub unkept_look : {X E : Type 0} (x : X) (says : X → ClientSight → Type 0) → old.reads.keeps ≡ false
      → ((state : ClientSight) → answer state (cell_of read) ≡ answer_of told → says x state) → AnswersLook {E = E} old new (Ok x) (cell_of read ∷ []) says
  unkept_look x says unkept leads = looks_at_one x says (λ kept. absurd (true≢false (sym kept ∙ unkept))) leads

-- a look at a read is one at the same read, said otherwise
pub looks_as : {A E : Type 0} {read same : Read} (old new : Recorder A) (result : Result ReadAnswer E) → read ≡ same
    → AnswersLook old new result (cell_of read ∷ []) (λ told before. answer before (cell_of read) ≡ answer_of told)
    → AnswersLook old new result (cell_of same ∷ []) (λ told before. answer before (cell_of same) ≡ answer_of told)
looks_as old new result is looks = subst (λ (r : Read). AnswersLook old new result (cell_of r ∷ []) (λ told before. answer before (cell_of r) ≡ answer_of told)) is looks
