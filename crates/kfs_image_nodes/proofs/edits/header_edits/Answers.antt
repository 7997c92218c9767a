use Rattle.std.proofs.Common.{◌≡◌, map, ap, subst, ◌∙◌}
use Rattle.std.specs.Prelude.{IfSome}
use Rattle.kfs_maps.specs.Pages.Edits.{edited}
use Rattle.kfs_image_nodes.specs.NodeEdits.{node_edit}
use Rattle.kfs_image_nodes.proofs.InOrder.{edits_leave}
use Rattle.kfs_image_nodes.proofs.edits.header_edits.Goals as goal

pub returns-in-Some-clause-made : goal.returns-in-Some-clause-made
returns-in-Some-clause-made g c = λ q there within.
    let nodes = c.args.nodes.now in
    let rows : c.in-Some.edits.items ≡ map node_edit nodes = subst (λ made. IfSome made (λ edits. edits.items ≡ map node_edit nodes)) c.in-Some.is c.in_ok-edits.ensures.rows in
    ap (λ edits. edited edits q there) rows ∙ edits_leave nodes q there
