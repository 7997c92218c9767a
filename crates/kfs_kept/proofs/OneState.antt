-- Bytes that come to a state are restored to it.
use Rattle.std.proofs.Common.{◌≡◌, inl, inr, ℕ, Result, Ok, Err}
use Rattle.kfs_model.specs.Judgement.{State}
use Rattle.kfs_desk.specs.Machine.{Desk}
use Rattle.kfs_call_desk.specs.Restore.Restored.{RestoreFault}
use Rattle.kfs_call_desk.specs.Restore.Told.{OnRefused, OnRestored}
use Rattle.kfs_call_desk.specs.declared.restore.fault.RestoreFault.{RestoreFault as CodeFault}
use Rattle.kfs_call_desk.specs.declared.restore.fault.RestoreFault.TheVariants.{OutOfMemory}

abbrev Answer : Type 0
Answer = Result State RestoreFault

ok_is : (a b : State) → ◌≡◌ {A = Answer} (Ok a) (Ok b) → a ≡ b
ok_is a b is = cc

pub restored_is : (limit : ℕ) (desk : Desk) (s : State) → OnRestored limit (λ given. given ≡ Ok s) (Ok desk) → desk.state ≡ s
restored_is limit desk s is = ok_is desk.state s is.1

-- a state isn't refused
pub never_refused : (fault : CodeFault) (s : State) → (fault ≡ OutOfMemory → ⊥) → OnRefused (λ refusal. ◌≡◌ {A = Answer} (Err refusal) (Ok s)) fault → ⊥
never_refused fault s not (inl memory) = not memory
never_refused fault s not (inr (refusal, told, is)) = cc
