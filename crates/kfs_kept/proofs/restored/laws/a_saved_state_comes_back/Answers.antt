use Rattle.kfs_kept.proofs.RestoredLemmas.SavedStates.{saved_apart, saved_is_restored, saved_once}
use Rattle.kfs_kept.proofs.restored.laws.a_saved_state_comes_back.Goals as goal

pub returns-clause-back : goal.returns-clause-back
returns-clause-back c = saved_is_restored

pub returns-clause-once : goal.returns-clause-once
returns-clause-once c = saved_once

pub returns-clause-apart : goal.returns-clause-apart
returns-clause-apart c = saved_apart
