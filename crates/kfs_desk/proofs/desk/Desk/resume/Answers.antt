-- The leases are lawful, the image is lawful, and no client has a fault.
use Rattle.std.proofs.Common.{◌≡◌, List, sym, ap, subst, ◌∙◌}
use Rattle.std.specs.List.{AllByRecursion}
use Rattle.kfs_model.specs.Access.{Client}
use Rattle.kfs_model.specs.CleanStep.{IsClient}
use Rattle.kfs_model.specs.Header.{Header}
use Rattle.kfs_model.specs.Lease.{Leases}
use Rattle.kfs_model.specs.Order.{IsInOrder}
use Rattle.kfs_model.specs.Placement.{IsPlacement}
use Rattle.kfs_model.specs.Table.{Table, numbers, get}
use Rattle.kfs_model.specs.Tree.{headers}
use Rattle.kfs_model.specs.Device.ShownTree.{shown_tree}
use Rattle.kfs_mode.specs.Clients.{ClientsAreDistinct}
use Rattle.kfs_lease.specs.LeaseLists.{AreLawful}
use Rattle.kfs_desk.specs.Machine.{state_at}
use Rattle.kfs_desk.specs.Opening.{begin_fault}
use Rattle.kfs_desk.proofs.Dockets.{desk_opened}
use Rattle.kfs_desk.proofs.desk.Desk.resume.Goals as goal

pub invariant_of-result : goal.invariant_of-result
invariant_of-result g c =
    let image = c.args.image in
    let lawful = c.shape-shape.ensures.lawful in
    let leases : c.in-Ok.shared.value ≡ c.args.leases = c.in-Ok.ensures in
    let own = ap (λ v. v.items) (sym c.in-Ok-new.ensures.ok) in
    let clients = c.deref.ensures.value ∙ own in
    let distinct = subst ClientsAreDistinct clients (c.in-Ok-None.ensures.distinct c.in-Ok-None.field-0-is) in
    let in_range = subst (λ (rows : List Client). AllByRecursion IsClient rows) clients (c.in-Ok-None.ensures.in_range c.in-Ok-None.field-0-is) in
    let heads_shown : AreLawful c.args.clients.items (get (headers (shown_tree image))) c.args.leases =
    subst (λ (heads : Table numbers Header). AreLawful c.args.clients.items (get heads) c.args.leases) (sym lawful.tree.counted) c.requires.lawful in
    let held =
    subst (λ (rows : List Client). AreLawful rows (get (headers (shown_tree image))) c.in-Ok.shared.value) own
    (subst (λ (l : Leases). AreLawful c.args.clients.items (get (headers (shown_tree image))) l) (sym leases) heads_shown) in
    let in_order : IsInOrder (state_at image c.in-Ok-new.clients.value.items c.in-Ok.shared.value) = record {
      sound = lawful.tree.sound;
      on_nodes = held.on_nodes;
      compatible = held.in_force.compatible;
      distinct = distinct;
      clients = in_range;
      placement = subst (λ (heads : Table numbers Header). IsPlacement image.sizes (get heads) image.placement) (sym lawful.tree.counted) lawful.placed;
    } in
    desk_opened _ c.of-in-Ok-new.ensures.state c.new-in-Ok-new.ensures in_order held c.of-in-Ok-new.ensures.shown

pub returns-in-Ok-new-clause-fit : goal.returns-in-Ok-new-clause-fit
returns-in-Ok-new-clause-fit g c = ap begin_fault (sym c.deref.ensures.value) ∙ sym c.in-Ok-None.ensures.first ∙ c.in-Ok-None.field-0-is
