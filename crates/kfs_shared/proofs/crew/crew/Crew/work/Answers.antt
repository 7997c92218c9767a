use Rattle.std.proofs.Common.{◌≡◌, length, map, rules, sym, ap, ◌∙◌}
use Rattle.std.proofs.lemmas.List.{length-map, take_at}
use Rattle.kfs_shared.specs.Passes.{seen, started}
use Rattle.kfs_shared.proofs.CrewLemmas.Shares.{dealt_length}
use Rattle.kfs_shared.proofs.CrewLemmas.Together.{carried, hired_lie}
use Rattle.kfs_shared.proofs.crew.crew.Crew.work.Goals as goal

pub work_dealt-met-requires-clause-dealt : goal.work_dealt-met-requires-clause-dealt
work_dealt-met-requires-clause-dealt g c =
    let xs = c.reverse.new.self.items in
    let shares = c.deal.new.shares in
    let many = sym (length-map shares (λ v. v.items)) ∙ (ap length c.deal.ensures.dealt ∙ (dealt_length (length c.as_mut_slice.result.now) xs ∙ c.as_mut_slice.ensures.len)) in
    let hired = ap (map (λ w. w.duty)) c.as_mut_slice-2.ensures.value ∙ (c.hire-first.ensures.shares ∙ take_at shares _ c.args.self.shares.len many) in
    let lie = hired_lie (λ w. w.duty) (λ v. v.items) c.as_mut_slice-2.result.now shares (length c.as_mut_slice.result.now) xs hired c.deal.ensures.dealt in
    let long : length xs ≡ c.len-count.result = search rules in
    λ lifetimes bounds. (xs, lie.1, long)

pub returns-clause-done : goal.returns-clause-done
returns-clause-done g c =
    let xs = c.reverse.new.self.items in
    let shares = c.deal.new.shares in
    let many = sym (length-map shares (λ v. v.items)) ∙ (ap length c.deal.ensures.dealt ∙ (dealt_length (length c.as_mut_slice.result.now) xs ∙ c.as_mut_slice.ensures.len)) in
    let hired = ap (map (λ w. w.duty)) c.as_mut_slice-2.ensures.value ∙ (c.hire-first.ensures.shares ∙ take_at shares _ c.args.self.shares.len many) in
    let lie = hired_lie (λ w. w.duty) (λ v. v.items) c.as_mut_slice-2.result.now shares (length c.as_mut_slice.result.now) xs hired c.deal.ensures.dealt in
    carried (g.T.Task.done (started g.D.Docketed.opening c.args.shared.now)) g.T.Task.positions (length c.as_mut_slice-2.result.now) (length c.args.self.shares.items) (seen c.hire-first.result) (seen c.args.pass) (seen c.work_dealt-met.result) xs
    c.work_dealt-met.new.tasks.items c.args.tasks.now.items c.reverse-2.new.self.items (lie.0 ∙ ap length c.as_mut_slice.ensures.value) c.hire-first.ensures.pass.1 c.reverse.ensures.items c.reverse-2.ensures.items
    (c.work_dealt-met.ensures.done xs lie.1 (search rules))
