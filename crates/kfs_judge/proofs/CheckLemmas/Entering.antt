-- A log's entries, one after another: what the run over the cells is from the draft so far on.
use Rattle.std.specs.Prelude.{◌≡◌, ℕ, ◌+◌, false, List, [], ◌∷◌, Option, Some, None, Result, Ok, Err}
use Rattle.std.proofs.Common.{ap, sym, ◌∙◌}
use Rattle.kfs_model.specs.Looked.{seen_run}
use Rattle.kfs_model.specs.Access.{Client}
use Rattle.kfs_model.specs.Entry.{Entry}
use Rattle.kfs_model.specs.Sight.{Sight, ClientSight}
use Rattle.kfs_model.specs.Check.{Reason, first_fault}
use Rattle.kfs_model.specs.Run.{EntryFault, created_by, entry_context}
use Rattle.kfs_model.specs.SeenAfter.{seen_after, seen_run_from}
use Rattle.kfs_judge_reads.specs.declared.draft.draft.Draft.{Draft}
use Rattle.kfs_judge_reads.specs.declared.reads.Read.{Read}
use Rattle.kfs_judge_reads.specs.declared.reads.ReadAnswer.{ReadAnswer}
use Rattle.kfs_judge_reads.specs.Draft.Overlay.{over, has_created, entry_context_of, AreCreated}
use Rattle.kfs_judge_reads.specs.Reads.{Always, Grows}

module _ {A : Type 0} (client : Client) (draft : Draft A) (state : ClientSight) (numbers : List ℕ) (created : AreCreated draft numbers) where
  pub same_context : entry_context_of client draft state ≡ entry_context client state (over draft state.sight) numbers
  same_context = λ i. record { client = client; before = state; now = over draft state.sight; created = λ n. created n i }

  by_fault : (index : ℕ) (entry : Entry) (entries : List Entry) (found : Option Reason) → first_fault (entry_context_of client draft state) entry ≡ found → seen_run_from client state index numbers (over draft state.sight) (entry ∷ entries) ≡ elim found [ None ↦ seen_run_from client state (index + 1) (created_by entry numbers) (seen_after client (over draft state.sight) entry) entries | Some reason ↦ Err (record { entry = index; reason = reason }) ]
  unfolding seen_run_from
  by_fault index entry entries found is = ap at (ap (λ p. first_fault p entry) (sym same_context) ∙ is)
    where
      at : Option Reason → Result Sight EntryFault
      at f = elim f [ None ↦ seen_run_from client state (index + 1) (created_by entry numbers) (seen_after client (over draft state.sight) entry) entries | Some reason ↦ Err (record { entry = index; reason = reason }) ]

-- the run from the first entry on is the run from this one on, over what the draft shows
pub record RunsOn {A : Type 0} (client : Client) (draft : Draft A) (reads : List (Read × ReadAnswer)) (entries : List Entry) (rest : List Entry) (index : ℕ) : Type 0 where
  pub numbers : List ℕ
  pub created : AreCreated draft numbers
  pub runs : Always reads (λ state. seen_run client state entries ≡ seen_run_from client state index numbers (over draft state.sight) rest)

module _ {A : Type 0} (client : Client) where
  pub runs_first : (draft : Draft A) (reads : List (Read × ReadAnswer)) (entries : List Entry) → ((s : Sight) → over draft s ≡ s) → ((n : ℕ) → has_created draft n ≡ false) → RunsOn client draft reads entries entries 0
  runs_first draft reads entries shown created = record {
    numbers = [];
    created = created;
    runs = λ state agrees. ap (λ s. seen_run_from client state 0 [] s entries) (sym (shown state.sight));
  }

  -- the entry passes
  pub runs_next : (old new : Draft A) (before after : List (Read × ReadAnswer)) (entries rest : List Entry) (entry : Entry) (index : ℕ)
      → RunsOn client old before entries (entry ∷ rest) index
      → Grows before after
      → Always after (λ state. first_fault (entry_context_of client old state) entry ≡ None)
      → Always after (λ state. over new state.sight ≡ seen_after client (over old state.sight) entry)
      → ((numbers : List ℕ) → AreCreated old numbers → AreCreated new (created_by entry numbers))
      → RunsOn client new after entries rest (index + 1)
  runs_next old new before after entries rest entry index on grows clean shown created = record {
    numbers = created_by entry on.numbers;
    created = created on.numbers on.created;
    runs = λ state agrees. on.runs state (grows state agrees) ∙ by_fault client old state on.numbers on.created index entry rest None (clean state agrees) ∙ ap (λ s. seen_run_from client state (index + 1) (created_by entry on.numbers) s rest) (sym (shown state agrees));
  }

  -- the entry is the first bad one
  pub runs_fails : (old : Draft A) (before after : List (Read × ReadAnswer)) (entries rest : List Entry) (entry : Entry) (index : ℕ) (reason : Reason)
      → RunsOn client old before entries (entry ∷ rest) index
      → Grows before after
      → Always after (λ state. first_fault (entry_context_of client old state) entry ≡ Some reason)
      → Always after (λ state. seen_run client state entries ≡ Err (record { entry = index; reason = reason }))
  runs_fails old before after entries rest entry index reason on grows bad state agrees = on.runs state (grows state agrees) ∙ by_fault client old state on.numbers on.created index entry rest (Some reason) (bad state agrees)

  -- no entry is left
  pub runs_out : (draft : Draft A) (reads : List (Read × ReadAnswer)) (entries : List Entry) (index : ℕ) → RunsOn client draft reads entries [] index → Always reads (λ state. seen_run client state entries ≡ Ok (over draft state.sight))
  unfolding seen_run_from
  runs_out draft reads entries index on state agrees = on.runs state agrees
