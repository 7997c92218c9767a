use Rattle.std.proofs.Common.{◌⊎◌, ◌≡◌, List, ℕ, IfOk, IfErr, subst}
use Rattle.kfs_model.specs.Judgement.{State}
use Rattle.kfs_call_desk.specs.Restore.Saved.{HasTooMany, IsSaved}
use Rattle.kfs_call_desk.specs.declared.restore.fault.EncodeFault.{EncodeFault}
use Rattle.kfs_call_desk.specs.declared.restore.fault.EncodeFault.TheVariants as encoding
use Rattle.kfs_c.proofs.Restoring.{state_shown}
use Rattle.kfs_c.proofs.states.state_of.Goals as goal

pub returns-clause-saved : goal.returns-clause-saved
returns-clause-saved c =
    let s = c.args.desk.now.state in
    subst (λ (t : State). IfOk c.encode_desk.result (λ bytes. IsSaved t bytes.items)) (state_shown s c.image.result.now c.clients.result.now c.leases.result.now c.image.ensures.shown c.clients.ensures.shown c.leases.ensures.shown) c.encode_desk.ensures.saved

pub returns-clause-refused : goal.returns-clause-refused
returns-clause-refused c =
    let s = c.args.desk.now.state in
    subst (λ (t : State). IfErr c.encode_desk.result (λ fault. (fault ≡ encoding.OutOfMemory) ⊎ ((fault ≡ encoding.TooMany) × HasTooMany t))) (state_shown s c.image.result.now c.clients.result.now c.leases.result.now c.image.ensures.shown c.clients.ensures.shown c.leases.ensures.shown) c.encode_desk.ensures.refused
