use Rattle.std.proofs.Common.{rules, ◌≡◌, true, None, get_or, sym, ap, ◌∙◌, arith}
use Rattle.std.proofs.lemmas.List.{get_or_default}
use Rattle.kfs_shape.specs.Climbs.{not_elsewhere}
use Rattle.kfs_shape.proofs.Doubling.{ends_each, one_further}
use Rattle.kfs_shape.proofs.climbs.end_at_root.Goals as goal

pub loop-up-init : goal.loop-up-init
loop-up-init c = λ k below. absurd (omega (arith, below))

pub loop-up-preserved : goal.loop-up-preserved
loop-up-preserved c =
    let ancestors = c.args.ancestors.now in
    let i = c.loop-up.up-index in
    let holds : c.is_at_root.result ≡ true = search rules in
    one_further (λ k. not_elsewhere (get_or ancestors k None) ≡ true) i c.loop-up.invariant
    (ap not_elsewhere (sym (get_or_default ancestors i _ None c.loop-up-test.true)) ∙ sym c.is_at_root.ensures ∙ holds)

pub returns : goal.returns
returns c said = ends_each c.args.ancestors.now (λ k within. c.loop-up.invariant k (omega (arith, within, c.loop-up-test.false)))
