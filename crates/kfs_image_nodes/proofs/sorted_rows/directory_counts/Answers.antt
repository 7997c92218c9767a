use Rattle.std.proofs.Common.{rules, ◌≡◌, ℕ, ◌+◌, true, false, List, [], ◌∷◌, length, map, ap, subst, arith}
use Rattle.std.proofs.lemmas.List.{nil_from_length}
use Rattle.kfs_model.specs.Table.{numbers}
use Rattle.kfs_image_nodes.specs.SortedRows.{dir_of, tallied_at, goes_on}
use Rattle.kfs_image_nodes.proofs.HowOften.{held, often, before_all, run_on, run_ends, all_runs, none_tallied}
use Rattle.kfs_image_nodes.proofs.sorted_rows.directory_counts.Goals as goal

pub loop-uplink-init : goal.loop-uplink-init
loop-uplink-init g c = record {
  within = omega arith;
  counted = λ d. before_all numbers d (map dir_of c.args.uplinks.now) _ (none_tallied c.new-tally.result.latest.entries c.new-tally.ensures d);
}

pub loop-uplink-preserved-in_ok-add : goal.loop-uplink-preserved-in_ok-add
loop-uplink-preserved-in_ok-add g c =
    let uplink = c.in-Some.uplink.now in
    let rest = c.in-Some.rest.now in
    let all = map dir_of c.args.uplinks.now in
    let old = c.loop-uplink.tally.latest.entries in
    let whole : c.loop-uplink.left.now ≡ uplink ∷ rest = c.in-Some.ensures.cases.0 in
    let ends : goes_on numbers (dir_of uplink) (map dir_of rest) ≡ false = search rules in
    record {
      within = omega (arith, c.loop-uplink.invariant.within, ap length whole);
      counted = λ d.
          run_ends numbers d (dir_of uplink) (map dir_of rest) c.loop-uplink.run (tallied_at old d) _ (often numbers d all) (c.in_ok-add.ensures d)
          (subst (λ (uplinks : List (ℕ × ℕ)). tallied_at old d + held numbers c.loop-uplink.run (map dir_of uplinks) d + often numbers d (map dir_of uplinks) ≡ often numbers d all) whole (c.loop-uplink.invariant.counted d));
    }

pub loop-uplink-preserved : goal.loop-uplink-preserved
loop-uplink-preserved g c =
    let uplink = c.in-Some.uplink.now in
    let rest = c.in-Some.rest.now in
    let all = map dir_of c.args.uplinks.now in
    let old = c.loop-uplink.tally.latest.entries in
    let whole : c.loop-uplink.left.now ≡ uplink ∷ rest = c.in-Some.ensures.cases.0 in
    let on : goes_on numbers (dir_of uplink) (map dir_of rest) ≡ true = search rules in
    record {
      within = omega (arith, c.loop-uplink.invariant.within, ap length whole);
      counted = λ d.
          run_on numbers d (dir_of uplink) (map dir_of rest) c.loop-uplink.run (tallied_at old d) (often numbers d all) on
          (subst (λ (uplinks : List (ℕ × ℕ)). tallied_at old d + held numbers c.loop-uplink.run (map dir_of uplinks) d + often numbers d (map dir_of uplinks) ≡ often numbers d all) whole (c.loop-uplink.invariant.counted d));
    }

pub returns : goal.returns
returns g c = λ d.
    let none : c.loop-uplink.left.now ≡ [] = nil_from_length c.loop-uplink.left.now (search rules) in
    all_runs numbers d (map dir_of c.loop-uplink.left.now) c.loop-uplink.run (tallied_at c.loop-uplink.tally.latest.entries d) (often numbers d (map dir_of c.args.uplinks.now)) (ap (map dir_of) none) (c.loop-uplink.invariant.counted d)
