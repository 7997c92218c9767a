use Rattle.std.proofs.Common.{◌<◌, ◌≤◌, length, arith}
use Rattle.kfs_kept.proofs.UnderWay.{state_parts, records_parts}
use Rattle.kfs_kept.proofs.renewal.next_part.Goals as goal

pub returns-then-done-state-clause-parts : goal.returns-then-done-state-clause-parts
returns-then-done-state-clause-parts c =
    let a = c.args in
    let before : a.done < length a.state.now = omega (arith, c.if-done-state.true) in
    state_parts a.state.now a.records.now a.done c.part_from.result.now a.most before c.part_from.ensures

pub returns-else-done-state-clause-parts : goal.returns-else-done-state-clause-parts
returns-else-done-state-clause-parts c =
    let a = c.args in
    let behind : length a.state.now ≤ a.done = omega (arith, c.if-done-state.false) in
    records_parts a.state.now a.records.now a.done c.part_from-else-done-state.result.now c.saturating_add.result behind c.part_from-else-done-state.ensures
