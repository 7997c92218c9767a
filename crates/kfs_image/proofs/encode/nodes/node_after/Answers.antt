use Rattle.std.proofs.Common.{◌≡◌, [], sym, subst}
use Rattle.std.specs.Prelude.{IfNone}
use Rattle.std.specs.declared.ops.Bound.TheVariants.{Excluded}
use Rattle.kfs_types.specs.Views.{header_of}
use Rattle.kfs_image.specs.Encode.Rows.{entries_from}
use Rattle.kfs_image.proofs.EncodeLemmas.NodeWalks.{no_node, node_next, never_none}
use Rattle.kfs_image.proofs.encode.nodes.node_after.Goals as goal

pub returns-in_err-number-clause-none : goal.returns-in_err-number-clause-none
returns-in_err-number-clause-none g c =
    subst (λ r. IfNone r (entries_from (Excluded c.args.after) c.args.image.now.heads ≡ [])) (sym c.from_residual.ensures)
    (no_node c.args.image.now.heads c.args.after c.in_err-number.ensures.none)

pub returns-in_err-header-clause-none : goal.returns-in_err-header-clause-none
returns-in_err-header-clause-none g c = absurd (never_none c.args.image.now.heads c.args.after c.in_ok-number.number c.in_ok-number.ensures.found (sym c.in_err-header.ensures))

pub returns-clause-found : goal.returns-clause-found
returns-clause-found g c = node_next c.args.image.now.heads c.args.after c.in_ok-number.number c.in_ok-number.ensures.found (header_of c.in_ok-header.header) (sym c.in_ok-header.ensures)
