-- The view shows the desk's state.
use Rattle.std.proofs.Common.{ap, sym}
use Rattle.kfs_desk.specs.Machine.{Desk}
use Rattle.kfs_desk.proofs.Views.{viewed}
use Rattle.kfs_desk.proofs.desk.Desk.view.Goals as goal

pub returns : goal.returns
returns g c =
    let inside = c.self.inside in
    viewed inside.image c.view_of.ensures.lawful inside.clients.value.items inside.leases.value c.view_of.result c.view_of.ensures.contents c.view_of.ensures.leases c.view_of.ensures.clients c.args.self.now.state
    (sym (ap (λ (d : Desk). d.state) c.self.view_is))
