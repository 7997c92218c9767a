-- Each step shows its change, one over the other.
use Rattle.std.proofs.Common.{ap, ◌+◌, ◌∙◌}
use Rattle.std.specs.Prelude.{◌||◌, ◌==◌}
use Rattle.kfs_types.specs.Views.{kind_of}
use Rattle.kfs_judge_reads.specs.Draft.Overlay.{with_directory_in}
use Rattle.kfs_judge_reads.proofs.draft.draft.Draft.add_node.Goals as goal

pub returns-clause-shown : goal.returns-clause-shown
returns-clause-shown g c s = c.in_ok-set_directory_in.ensures.shown s ∙ λ i. with_directory_in (kind_of c.args.header.kind) c.args.number (c.dir-dir.ensures i) (c.in_ok-add_name.ensures.shown s i)

pub returns-clause-written : goal.returns-clause-written
returns-clause-written g c among written name header =
    let placed = c.in_ok-set_directory_in.ensures.written among (c.in_ok-add_name.ensures.written among written name header) in
    record { names = placed.names; heads = placed.heads }

pub returns-clause-created : goal.returns-clause-created
returns-clause-created g c n = c.in_ok-add.ensures n ∙ ap (λ was. (c.args.number == n) || was) (c.in_ok-set_directory_in.ensures.created n ∙ c.in_ok-add_name.ensures.created n)

pub returns-clause-shifts : goal.returns-clause-shifts
returns-clause-shifts g c most bound =
    let placed = c.in_ok-set_directory_in.ensures.shifts (most + 1) (c.in_ok-add_name.ensures.shifts most bound) in
    record { above = placed.above; below = placed.below }

pub returns-clause-kept : goal.returns-clause-kept
returns-clause-kept g c n is = c.in_ok-set_directory_in.ensures.kept n (c.in_ok-add_name.ensures.kept n is)
