-- What a refusal of the bytes, or another client's log, says of all logs that they may spell.
use Rattle.std.proofs.Common.{◌≡◌, ◌≢◌, ℕ, List, Result, Ok, Err, ap, ◌∙◌}
use Rattle.kfs_model.specs.Entry.{Log}
use Rattle.kfs_model.specs.Spelling.{LogAnswer, SpellingFault}
use Rattle.kfs_entry.specs.Answers.{OnAnswer, OnRefusal, log_of}
use Rattle.kfs_entry.specs.declared.fault.SpellFault.{SpellFault}
use Rattle.kfs_entry.specs.declared.fault.SpellFault.TheVariants as faults
use Rattle.kfs_types.specs.declared.entry.Log.{Log as CodeLog}
use Rattle.kfs_plan_maker.specs.Walks.{HasNoLog}

pub same_log : (one other : Log) → ◌≡◌ {A = Result Log SpellingFault} (Ok one) (Ok other) → one ≡ other
same_log one other same = cc

no_log : (other : Log) (fault : SpellFault) → fault ≢ faults.OutOfMemory → OnRefusal (λ given. given ≡ Ok other) fault → ⊥
no_log other faults.BadHeader memory same = cc
no_log other (faults.BadEntry k) memory same = cc
no_log other faults.Trailing memory same = cc
no_log other (faults.BadRow part k) memory same = cc
no_log other faults.OutOfMemory memory same = memory (λ i. faults.OutOfMemory)

module _ (A : Type 0) (number : ℕ) (source : List ℕ) where
  pub refused_log : (fault : SpellFault) → fault ≢ faults.OutOfMemory
      → ((answer : Result Log SpellingFault) → LogAnswer source answer → OnAnswer {V = CodeLog A (List ℕ)} (log_of source) (λ given. given ≡ answer) (Err fault)) → HasNoLog number source
  refused_log fault memory only other spelled owner = no_log other fault memory (only (Ok other) spelled)

  pub other_log : (log : CodeLog A (List ℕ)) → log.client ≢ number
      → ((answer : Result Log SpellingFault) → LogAnswer source answer → OnAnswer {V = CodeLog A (List ℕ)} (log_of source) (λ given. given ≡ answer) (Ok log)) → HasNoLog number source
  other_log log apart only other spelled owner = apart (ap (λ (l : Log). l.client) (same_log (log_of source log) other (only (Ok other) spelled)) ∙ owner)
