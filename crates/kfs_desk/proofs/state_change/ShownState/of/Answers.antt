-- The image is lawful.
use Rattle.kfs_desk.proofs.Dockets.{shown_by}
use Rattle.kfs_desk.proofs.state_change.ShownState.of.Goals as goal

pub returns-clause-shown : goal.returns-clause-shown
returns-clause-shown g c = shown_by c.args.image.now c.shape-shape.ensures.lawful c.args.clients.now.value.items c.args.leases.now.value
