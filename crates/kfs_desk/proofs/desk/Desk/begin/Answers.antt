-- Where there is no lease, all are lawful.
use Rattle.std.proofs.Common.{sym, subst}
use Rattle.kfs_model.specs.Table.{get}
use Rattle.kfs_lease.specs.LeaseLists.{AreLawful}
use Rattle.kfs_lease.proofs.ListLemmas.Kept.{none_lawful}
use Rattle.kfs_desk.proofs.desk.Desk.begin.Goals as goal

pub resume-requires : goal.resume-requires
resume-requires g c =
    let heads = get c.args.image.heads in
    record { lawful = subst (AreLawful c.args.clients.items heads) (sym c.new-none.ensures) (none_lawful c.args.clients.items heads) }
