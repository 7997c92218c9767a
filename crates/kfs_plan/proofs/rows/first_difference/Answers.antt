-- The first pair that differs, or else where the shorter list ends.
use Rattle.std.proofs.Common.{length, sym, ap, ◌∙◌}
use Rattle.kfs_plan.specs.PlanCheck.{at_end}
use Rattle.kfs_plan.proofs.RowsCompared.{first_difference-position}
use Rattle.kfs_plan.proofs.rows.first_difference.Goals as goal

pub returns : goal.returns
returns g c =
    let rows = c.args.rows.now in
    let right = c.args.right.now in
    c.at_end.ensures ∙ ap (λ o. at_end o (length rows) (length right)) c.first_unequal-differs.ensures ∙ sym (first_difference-position g.T.PartialEq.eq rows right)
