-- A log that was read has no more entries than the log format allows.
use Rattle.std.proofs.Common.{ℕ, ◌≤◌, List, length, IfOk, Result, Ok, Err, subst}
use Rattle.std.proofs.lemmas.List.{length-map}
use Rattle.kfs_model.specs.Limits.{entry_limit}
use Rattle.kfs_model.specs.Spelling.{IsLog, LogAnswer}
use Rattle.kfs_entry.specs.Answers.{OnAnswer, log_of}
use Rattle.kfs_entry.specs.declared.fault.SpellFault.{SpellFault}
use Rattle.kfs_types.specs.Views.{entry_of}
use Rattle.kfs_types.specs.declared.entry.Log.{Log as CodeLog}

pub entries_fit : {A : Type 0} (source : List ℕ) (log : CodeLog A (List ℕ)) → IsLog (log_of source log) → length log.entries ≤ entry_limit
entries_fit source log spelled = subst (λ n. n ≤ entry_limit) (length-map log.entries (entry_of source)) spelled.0.2

-- the same of a decoder's answer
pub answer_is_short : {A : Type 0} (source : List ℕ) (result : Result (CodeLog A (List ℕ)) SpellFault) → OnAnswer (log_of source) (LogAnswer source) result → IfOk result (λ log. length log.entries ≤ entry_limit)
answer_is_short source (Ok log) found = entries_fit source log found.0
answer_is_short source (Err fault) found = tt
