use Rattle.std.proofs.Common.{sym, ap, subst, ◌∙◌}
use Rattle.kfs_maps.specs.Pages.Edits.{edited, AreEdits}
use Rattle.kfs_image_nodes.proofs.NodeEdits.{are_edits, edits_say}
use Rattle.kfs_image_nodes.proofs.name_edits.number_edits.Goals as goal

pub returns-clause-edits : goal.returns-clause-edits
returns-clause-edits g c = subst AreEdits (sym c.in_ok-list_numbers.ensures.edits) (are_edits c.args.overlay.now.latest.entries c.list_numbers.ensures.ordered)

pub returns-clause-said : goal.returns-clause-said
returns-clause-said g c = λ q there within.
    ap (λ edits. edited edits q there) c.in_ok-list_numbers.ensures.edits ∙ edits_say c.args.overlay.now.latest.entries q there c.list_numbers.ensures.ordered within
