use Rattle.std.proofs.Common.{option_map, ap, sym, ◌∙◌}
use Rattle.kfs_types.specs.Views.{header_of}
use Rattle.kfs_image_nodes.proofs.NodeEdits.{get-reheaded}
use Rattle.kfs_image.proofs.image.header_after.Goals as goal

pub returns : goal.returns
returns g c = ap (option_map header_of) c.after.ensures ∙ sym (get-reheaded c.args.image.now.heads c.args.rows.now c.args.number c.header.result (sym c.header.ensures))
