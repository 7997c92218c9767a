use Rattle.std.proofs.Common.{rules, ◌≡◌, true, All, Contains, subst}
use Rattle.std.proofs.lemmas.List.{take_all}
use Rattle.std.proofs.lemmas.List.Elements.{All-more}
use Rattle.kfs_kept.proofs.SameClients.{contains_decided}
use Rattle.kfs_kept.proofs.admitting.left_out.Goals as goal

pub loop-client-preserved : goal.loop-client-preserved
loop-client-preserved c =
    let new = c.args.new.now in
    let client = c.client-item.result in
    let found : c.contains.result ≡ true = search rules in
    All-more (Contains new) c.args.old.now c.loop-client.client-index client c.loop-client-test.true c.loop-client.invariant
    (subst (Contains new) c.client-item.is ((contains_decided new client c.contains.result c.contains.ensures.cases).0 found))

pub returns-clause-none : goal.returns-clause-none
returns-clause-none c = λ _. subst (All (Contains c.args.new.now)) (take_all c.loop-client.client-index c.args.old.now c.loop-client-test.false) c.loop-client.invariant
