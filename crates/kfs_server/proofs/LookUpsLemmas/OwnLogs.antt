-- Bytes that are no log, or another client's.
use Rattle.std.proofs.Common.{◌≡◌, ℕ, List, Result, Ok, Err, refl, sym, subst}
use Rattle.std.specs.Prelude.{IfErr, IsErrAnd}
use Rattle.kfs_entry.specs.Answers.{OnRefusal}
use Rattle.kfs_entry.specs.declared.fault.SpellFault.{SpellFault}
use Rattle.kfs_entry.specs.declared.fault.SpellFault.TheVariants as faults
use Rattle.kfs_model.specs.Spelling.{LogAnswer, BadHeader, BadEntry, Trailing, BadRow}
use Rattle.kfs_server.specs.LookUps.LookUp as asked
use Rattle.kfs_server.specs.Replies.Refusals.{refusal_for_log}
use Rattle.kfs_server.specs.Serving.Looking.{IsTurnedAway}
use Rattle.kfs_server.specs.declared.replies.reply.Refusal.{Refusal}

no_log : (bytes : List ℕ) (from : ℕ) (fault : SpellFault) → OnRefusal (LogAnswer bytes) fault → IsTurnedAway (asked.Plan bytes) from (refusal_for_log fault)
no_log bytes from faults.BadHeader is = (refl, (BadHeader, is))
no_log bytes from (faults.BadEntry k) is = (refl, (BadEntry k, is))
no_log bytes from faults.Trailing is = (refl, (Trailing, is))
no_log bytes from (faults.BadRow part k) is = (refl, (BadRow part k, is))
no_log bytes from faults.OutOfMemory is = tt

-- who asks of bytes that are no log is refused for that, memory aside
pub refused_for_log : (bytes : List ℕ) (from : ℕ) (fault : SpellFault) (result : Result (Unit {0}) Refusal) → OnRefusal (LogAnswer bytes) fault → IsErrAnd result (λ why. why ≡ refusal_for_log fault) → IfErr result (IsTurnedAway (asked.Plan bytes) from)
refused_for_log bytes from fault (Ok done) is gives = tt
refused_for_log bytes from fault (Err why) is gives = subst (IsTurnedAway (asked.Plan bytes) from) (sym gives) (no_log bytes from fault is)
