use Rattle.std.proofs.Common.{rules, ◌≡◌, ℕ, ◌+◌, ◌<◌, true, false, List, [], ◌∷◌, length, All, Some, None, sym, ap, subst, arith}
use Rattle.std.specs.Prelude.{unwrap_or}
use Rattle.std.specs.List.Sorted.{IsSorted}
use Rattle.std.specs.declared.cmp.Ordering.TheVariants.{Less}
use Rattle.std.proofs.lemmas.List.{nil_from_length}
use Rattle.kfs_maps.specs.declared.chunks.entries.KeyEdit.{KeyEdit}
use Rattle.kfs_maps.specs.Chunks.Edits.{edited, KeysAscend}
use Rattle.kfs_maps.proofs.ChunksLemmas.InOrder.{none_ascends}
use Rattle.kfs_image_nodes.specs.Indexes.{by_node}
use Rattle.kfs_image_nodes.specs.SortedRows.{goes_on}
use Rattle.kfs_image_nodes.proofs.HowOften.{held, often, before_all, run_on, run_ends, all_runs, AreBelow, none_below, none_positive, sorted_rest, below_next, said_more, still_positive, same_below}
use Rattle.kfs_image_nodes.proofs.sorted_rows.how_often.Goals as goal

abbrev Edit : Type 0
Edit = KeyEdit (ℕ × ℕ) ℕ

pub loop-uplink-init : goal.loop-uplink-init
loop-uplink-init g c =
    let none : c.in_ok-edits.edits.items ≡ [] = c.in_ok-edits.ensures.items in
    let all = c.args.uplinks.now in
    record {
      within = omega arith;
      sorted = c.requires;
      ascend = subst (KeysAscend by_node.compare) (sym none) (none_ascends (λ (x y : Edit). by_node.compare x.key y.key ≡ Less));
      below = subst (λ (es : List Edit). AreBelow by_node es all) (sym none) (none_below by_node all);
      positive = subst (λ (es : List Edit). (q : ℕ × ℕ) (count : ℕ) → edited by_node.compare es q None ≡ Some count → 0 < count) (sym none) (none_positive by_node);
      counted = λ q. before_all by_node q all _ (ap (λ (es : List Edit). unwrap_or (edited by_node.compare es q None) 0) none);
    }

pub loop-uplink-preserved-in_ok-_above : goal.loop-uplink-preserved-in_ok-_above
loop-uplink-preserved-in_ok-_above g c =
    let uplink = c.in-Some.uplink.now in
    let rest = c.in-Some.rest.now in
    let all = c.args.uplinks.now in
    let old = c.loop-uplink.edits.items in
    let whole : c.loop-uplink.left.now ≡ uplink ∷ rest = c.in-Some.ensures.cases.0 in
    let ends : goes_on by_node uplink rest ≡ false = search rules in
    let sorted : IsSorted by_node.compare (uplink ∷ rest) = subst (IsSorted by_node.compare) whole c.loop-uplink.invariant.sorted in
    let below : All (λ (e : Edit). by_node.compare e.key uplink ≡ Less) old = subst (AreBelow by_node old) whole c.loop-uplink.invariant.below in
    let made = c.in_ok-_above.ensures in
    let many = c.loop-uplink.run + 1 in
    let added = made.added (made.above.1 below) in
    record {
      within = omega (arith, c.loop-uplink.invariant.within, ap length whole);
      sorted = sorted_rest by_node uplink rest sorted;
      ascend = c.push_above.ensures.ascend;
      below = below_next by_node old _ uplink rest many added below ends sorted;
      positive = still_positive by_node old _ uplink rest many added below (omega arith) c.loop-uplink.invariant.positive;
      counted = λ q.
          run_ends by_node q uplink rest c.loop-uplink.run (unwrap_or (edited by_node.compare old q None) 0) _ (often by_node q all) (said_more by_node old _ uplink rest many added below q)
          (subst (λ (keys : List (ℕ × ℕ)). unwrap_or (edited by_node.compare old q None) 0 + held by_node c.loop-uplink.run keys q + often by_node q keys ≡ often by_node q all) whole (c.loop-uplink.invariant.counted q));
    }

pub loop-uplink-preserved : goal.loop-uplink-preserved
loop-uplink-preserved g c =
    let uplink = c.in-Some.uplink.now in
    let rest = c.in-Some.rest.now in
    let all = c.args.uplinks.now in
    let old = c.loop-uplink.edits.items in
    let whole : c.loop-uplink.left.now ≡ uplink ∷ rest = c.in-Some.ensures.cases.0 in
    let on : goes_on by_node uplink rest ≡ true = search rules in
    let sorted : IsSorted by_node.compare (uplink ∷ rest) = subst (IsSorted by_node.compare) whole c.loop-uplink.invariant.sorted in
    let below : All (λ (e : Edit). by_node.compare e.key uplink ≡ Less) old = subst (AreBelow by_node old) whole c.loop-uplink.invariant.below in
    record {
      within = omega (arith, c.loop-uplink.invariant.within, ap length whole);
      sorted = sorted_rest by_node uplink rest sorted;
      ascend = c.loop-uplink.invariant.ascend;
      below = same_below by_node uplink rest old on below;
      positive = c.loop-uplink.invariant.positive;
      counted = λ q.
          run_on by_node q uplink rest c.loop-uplink.run (unwrap_or (edited by_node.compare old q None) 0) (often by_node q all) on
          (subst (λ (keys : List (ℕ × ℕ)). unwrap_or (edited by_node.compare old q None) 0 + held by_node c.loop-uplink.run keys q + often by_node q keys ≡ often by_node q all) whole (c.loop-uplink.invariant.counted q));
    }

pub returns-clause-said : goal.returns-clause-said
returns-clause-said g c =
    let none : c.loop-uplink.left.now ≡ [] = nil_from_length c.loop-uplink.left.now (search rules) in
    record {
      positive = c.loop-uplink.invariant.positive;
      counts = λ q. all_runs by_node q c.loop-uplink.left.now c.loop-uplink.run _ (often by_node q c.args.uplinks.now) none (c.loop-uplink.invariant.counted q);
    }
