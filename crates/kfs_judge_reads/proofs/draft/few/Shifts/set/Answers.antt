-- The change of one directory's count is set.
use Rattle.std.specs.Prelude.{pos, unwrap_or}
use Rattle.std.specs.Int.{w32}
use Rattle.std.specs.Ordering.{nat_cmp, eq_by_cmp}
use Rattle.std.specs.BTreeMap.{get}
use Rattle.std.proofs.Common.{Some, cond, ap, ◌∙◌}
use Rattle.std.proofs.lemmas.Int.{to_z-of_z}
use Rattle.kfs_judge_reads.specs.Draft.Shifts.{shift_beside}
use Rattle.kfs_judge_reads.proofs.DraftLemmas.Shifts.{first_set, first_replaced, other_set}
use Rattle.kfs_judge_reads.proofs.draft.few.Shifts.set.Goals as goal

pub returns-in-None : goal.returns-in-None
returns-in-None g c d =
    let rest = unwrap_or (get nat_cmp c.args.self.now.others d) (pos 0) in
    ap (λ by. shift_beside (Some (c.args.dir, by)) d rest) (to_z-of_z w32 c.args.by c.ranges.by)
    ∙ first_set d c.args.dir c.args.by c.args.self.now.first rest c.in-None.is

pub returns-then-first-dir : goal.returns-then-first-dir
returns-then-first-dir g c d =
    let rest = unwrap_or (get nat_cmp c.args.self.now.others d) (pos 0) in
    ap (λ by. shift_beside (Some (c.args.dir, by)) d rest) (to_z-of_z w32 c.args.by c.ranges.by)
    ∙ first_replaced d c.args.dir c.args.by c.args.self.now.first _ _ c.in-Some.is rest c.if-first-dir.true

pub returns-in_ok-insert-in-Some : goal.returns-in_ok-insert-in-Some
returns-in_ok-insert-in-Some g c d =
    let there = get nat_cmp c.args.self.now.others d in
    let puts = c.in_ok-insert-in-Some.ensures.updates.0 d ∙ ap (λ by. cond (eq_by_cmp nat_cmp c.args.dir d) (Some by) there) (to_z-of_z w32 c.args.by c.ranges.by) in
    other_set d c.args.dir c.args.by c.args.self.now.first _ _ c.in-Some.is _ there c.if-first-dir.false puts
