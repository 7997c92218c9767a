use Rattle.std.proofs.Common.{option_map, sym, ap, ◌∙◌}
use Rattle.kfs_model.proofs.TableLaws.{get-mapped}
use Rattle.kfs_types.specs.Views.{header_of}
use Rattle.kfs_image_nodes.proofs.rows.NodeTables.header.Goals as goal

pub returns : goal.returns
returns g c =
    ap (option_map header_of) (c.copied.ensures ∙ c.get.ensures) ∙ sym (get-mapped (λ number header. header_of header) c.args.self.now.headers c.args.number)
