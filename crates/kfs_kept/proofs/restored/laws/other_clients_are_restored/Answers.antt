use Rattle.std.proofs.lemmas.List.Elements.{recursion_from_All}
use Rattle.kfs_model.specs.CleanStep.{IsClient}
use Rattle.kfs_kept.specs.Admitting.{with_clients}
use Rattle.kfs_kept.proofs.KnownClients.{still_known}
use Rattle.kfs_kept.proofs.RestoredLemmas.SavedStates.{saved_comes_to}
use Rattle.kfs_kept.proofs.restored.laws.other_clients_are_restored.Goals as goal

pub returns : goal.returns
returns g c = λ bytes keeps saved.
    let s = c.args.desk.now.state in
    let clients = c.args.clients.now in
    let lawful = c.leases-leases.ensures.lawful in
    let shown = c.image-image.ensures.shown in
    saved_comes_to (with_clients s clients) bytes
    (recursion_from_All IsClient clients c.tell_clients.ensures)
    (record {
      known = λ client number held. still_known s.clients clients client keeps (lawful.known client number held);
      on_nodes = lawful.on_nodes;
      in_force = lawful.in_force;
    })
    (record { image = c.image-image.result.now; lawful = c.shape-shape.ensures.lawful; is = record { tree = shown.tree; sizes = shown.sizes; placement = shown.placement } })
    saved
