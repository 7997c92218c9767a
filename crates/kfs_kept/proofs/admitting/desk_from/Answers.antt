use Rattle.std.proofs.Common.{◌≡◌, Result, Err, subst}
use Rattle.kfs_model.specs.Judgement.{State}
use Rattle.kfs_call_desk.specs.Restore.Restored as model
use Rattle.kfs_call_desk.specs.Restore.Told.{OnRefused}
use Rattle.kfs_call_desk.specs.declared.restore.fault.RestoreFault.{RestoreFault}
use Rattle.kfs_kept.specs.Admitting.{begun_with}
use Rattle.kfs_kept.proofs.Admitted.{begun_desk, clients_fault, never_another}
use Rattle.kfs_kept.proofs.admitting.desk_from.Goals as goal

pub unreachable-requires : goal.unreachable-requires
unreachable-requires g c =
    let (s, comes) = c.requires.comes in
    never_another c.in-Err.fault s c.in_default.not-OutOfMemory c.in_default.not-BadClients (c.in-Err.ensures.only (begun_with s) comes)

pub returns-in-Ok-clause-desk : goal.returns-in-Ok-clause-desk
returns-in-Ok-clause-desk g c = λ s comes. begun_desk c.args.limit c.in-Ok.desk s (c.in-Ok.ensures.only (begun_with s) comes)

pub returns-in-BadClients-clause-why : goal.returns-in-BadClients-clause-why
returns-in-BadClients-clause-why g c = λ s comes.
    let refused = c.in-Err.ensures.only (begun_with s) comes in
    clients_fault c.in-BadClients.why s (subst (λ (fault : RestoreFault). OnRefused (λ refusal. ◌≡◌ {A = Result State model.RestoreFault} (Err refusal) (begun_with s)) fault) c.in-BadClients.is refused)
