-- Each step shows its change, one over the other.
use Rattle.std.proofs.Common.{pos, negsuc, ap, Some, None, ◌+◌, ◌∙◌, arith}
use Rattle.kfs_types.specs.Views.{kind_of}
use Rattle.kfs_judge_reads.specs.Draft.Overlay.{over, with_more_names, with_target, with_directory_in}
use Rattle.kfs_judge_reads.proofs.DraftLemmas.Overlays.{shifts_wider}
use Rattle.kfs_judge_reads.proofs.draft.draft.Draft.move_name.Goals as goal

pub shift_count-requires-clause-room : goal.shift_count-requires-clause-room
shift_count-requires-clause-room g c = shifts_wider c.args.self.now 2147483645 2147483646 (omega arith) c.requires

pub shift_count-requires-2-clause-room : goal.shift_count-requires-2-clause-room
shift_count-requires-2-clause-room g c = c.in_ok-shift_count.ensures.shifts 2147483645 c.requires

pub returns-clause-shown : goal.returns-clause-shown
returns-clause-shown g c s =
    let fewer = c.in_ok-shift_count.ensures.shown s ∙ ap (λ d. with_more_names d (negsuc 0) (over c.args.self.now s)) c.dir.ensures in
    let counted = c.in_ok-shift_count-2.ensures.shown s ∙ (λ i. with_more_names (c.dir-new_dir.ensures i) (pos 1) (fewer i)) in
    let unnamed = c.in_ok-set_target.ensures.shown s ∙ ap (with_target c.args.key.now.0 c.args.key.now.1 None) counted in
    let named = c.in_ok-set_target-2.ensures.shown s ∙ ap (with_target c.args.new_key.now.0 c.args.new_key.now.1 (Some c.args.number)) unnamed in
    c.in_ok-set_directory_in.ensures.shown s ∙ λ i. with_directory_in (kind_of c.args.kind) c.args.number (c.dir-new_dir.ensures i) (named i)

pub returns-clause-written : goal.returns-clause-written
returns-clause-written g c among written old_name new_name =
    let counted = c.in_ok-shift_count-2.ensures.written among (c.in_ok-shift_count.ensures.written among written) in
    c.in_ok-set_directory_in.ensures.written among (c.in_ok-set_target-2.ensures.written among (c.in_ok-set_target.ensures.written among counted old_name) new_name)

pub returns-clause-created : goal.returns-clause-created
returns-clause-created g c n =
    let counted = c.in_ok-shift_count-2.ensures.created n ∙ c.in_ok-shift_count.ensures.created n in
    c.in_ok-set_directory_in.ensures.created n ∙ c.in_ok-set_target-2.ensures.created n ∙ c.in_ok-set_target.ensures.created n ∙ counted

pub returns-clause-shifts : goal.returns-clause-shifts
returns-clause-shifts g c most bound =
    let counted = c.in_ok-shift_count-2.ensures.shifts (most + 1) (c.in_ok-shift_count.ensures.shifts most bound) in
    let named = c.in_ok-set_target-2.ensures.shifts (most + 1 + 1) (c.in_ok-set_target.ensures.shifts (most + 1 + 1) counted) in
    shifts_wider c.set_directory_in.new.self (most + 1 + 1) (most + 2) (omega arith) (c.in_ok-set_directory_in.ensures.shifts (most + 1 + 1) named)

pub returns-clause-kept : goal.returns-clause-kept
returns-clause-kept g c n is =
    let counted = c.in_ok-shift_count-2.ensures.kept n (c.in_ok-shift_count.ensures.kept n is) in
    c.in_ok-set_directory_in.ensures.kept n (c.in_ok-set_target-2.ensures.kept n (c.in_ok-set_target.ensures.kept n counted))
