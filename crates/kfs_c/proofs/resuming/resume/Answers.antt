use Rattle.kfs_c.proofs.ResumedDesks.{behind_bytes, with_bytes}
use Rattle.kfs_c.proofs.resuming.resume.Goals as goal

pub returns-clause-resumed : goal.returns-clause-resumed
returns-clause-resumed c =
    let a = c.args in
    with_bytes a.bytes.now a.groups.now a.clients.now a.leases.now a.moment a.limit c.in_ok-image.image c.resume_image.result (λ held. held.value)
    c.in_ok-image.ensures.loaded c.resume_image.ensures.right c.resume_image.ensures.resumed

pub returns-clause-refused : goal.returns-clause-refused
returns-clause-refused c =
    let a = c.args in
    behind_bytes a.bytes.now a.groups.now a.clients.now a.leases.now a.moment c.in_ok-image.image c.resume_image.result c.in_ok-image.ensures.loaded c.resume_image.ensures.refused
