use Rattle.std.proofs.Common.{◌≡◌, ℕ, ◌<◌, option_map, None, sym, ap, subst, ◌∙◌}
use Rattle.std.specs.Prelude.{IfNone}
use Rattle.kfs_types.specs.Views.{header_of}
use Rattle.kfs_model.specs.Table.{get}
use Rattle.kfs_model.proofs.TableLaws.{get-mapped}
use Rattle.kfs_image_nodes.specs.Rows.{heads_in}
use Rattle.kfs_image_nodes.proofs.HeaderPages.{next_header}
use Rattle.kfs_image_nodes.proofs.rows.NodeTables.next_node.Goals as goal

pub returns-in_err-number-clause-none : goal.returns-in_err-number-clause-none
returns-in_err-number-clause-none g c =
    subst (λ r. IfNone r ((m : ℕ) → c.args.after < m → get (heads_in c.args.self.now) m ≡ None)) (sym c.from_residual.ensures)
    (λ m above. get-mapped (λ number header. header_of header) c.args.self.now.headers m ∙ ap (option_map header_of) (c.in_err-number.ensures.none m above))

pub returns-clause-found : goal.returns-clause-found
returns-clause-found g c = next_header c.args.self.now.headers c.args.after c.in_ok-number.number c.in_ok-number.ensures.found
