-- Each step shows its change, one over the other.
use Rattle.std.proofs.Common.{pos, ap, Some, ◌+◌, ◌∙◌}
use Rattle.std.specs.Option.{option_map}
use Rattle.kfs_types.specs.Views.{header_of}
use Rattle.kfs_judge_reads.specs.Draft.Overlay.{over, with_header, with_target, with_more_names}
use Rattle.kfs_judge_reads.proofs.draft.draft.Draft.add_name.Goals as goal

pub returns-clause-shown : goal.returns-clause-shown
returns-clause-shown g c s =
    let counted = c.in_ok-shift_count.ensures.shown s ∙ ap (λ d. with_more_names d (pos 1) (over c.args.self.now s)) c.dir.ensures in
    let named = c.in_ok-set_target.ensures.shown s ∙ ap (with_target c.args.key.now.0 c.args.key.now.1 (Some c.args.number)) counted in
    c.in_ok-set_header.ensures.shown s ∙ ap (with_header c.args.number (option_map header_of c.args.header)) named

pub returns-clause-written : goal.returns-clause-written
returns-clause-written g c among written name header = c.in_ok-set_header.ensures.written among (c.in_ok-set_target.ensures.written among (c.in_ok-shift_count.ensures.written among written) name) header

pub returns-clause-created : goal.returns-clause-created
returns-clause-created g c n = c.in_ok-set_header.ensures.created n ∙ c.in_ok-set_target.ensures.created n ∙ c.in_ok-shift_count.ensures.created n

pub returns-clause-shifts : goal.returns-clause-shifts
returns-clause-shifts g c most bound = c.in_ok-set_header.ensures.shifts (most + 1) (c.in_ok-set_target.ensures.shifts (most + 1) (c.in_ok-shift_count.ensures.shifts most bound))

pub returns-clause-kept : goal.returns-clause-kept
returns-clause-kept g c n is = c.in_ok-set_header.ensures.kept n (c.in_ok-set_target.ensures.kept n (c.in_ok-shift_count.ensures.kept n is))
