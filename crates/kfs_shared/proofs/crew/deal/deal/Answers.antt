use Rattle.std.proofs.Common.{◌/◌, ◌%◌, ◌≤◌, ◌<◌, ◌∷◌, [], length, get_or, sym, ap, subst, ◌∙◌, length-append, vec_capacity, arith}
use Rattle.kfs_shared.specs.Crew.Shares.{dealt}
use Rattle.kfs_shared.proofs.CrewLemmas.Crews.{all_mapped}
use Rattle.kfs_shared.proofs.CrewLemmas.Shares.{room_enough}
use Rattle.kfs_shared.proofs.crew.deal.deal.Goals as goal

pub put-requires-clause-room : goal.put-requires-clause-room
put-requires-clause-room g c =
    let at = c.loop-task in
    let lie = at.invariant.lie in
    let count = length c.args.shares.now in
    let most = length c.args.tasks.now.items / count in
    let all = ap length lie.1 ∙ length-append at.tasks.items lie.0 in
    let one = ap length c.in-Some.ensures.items ∙ length-append c.pop.new.self.items (c.in-Some.task ∷ []) in
    let few = room_enough count c.pop.new.self.items lie.0 c.in-Some.task (length c.args.tasks.now.items) c.requires.some (omega arith) in (
      most,
      subst (λ l. length (get_or l (at.number % count) []) ≤ most) (sym lie.2) (subst (λ n. length (get_or (dealt count lie.0) (n % count) []) ≤ most) (sym lie.3) few),
      all_mapped vec_capacity (λ n. most < n) c.args.shares.now at.shares at.invariant.rooms c.requires.room,
    )
