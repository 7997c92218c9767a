use Rattle.std.proofs.Common.{◌+◌, ◌-◌, ◌*◌, ◌%◌, ◌^◌, get_or, refl, sym, subst, arith}
use Rattle.std.proofs.lemmas.Nat.{or_lt}
use Rattle.kfs_image.specs.Tier.Words.{IsNextClear}
use Rattle.kfs_image.proofs.TierLemmas.MarkedBits.{HasPassed, passed_first, passed_next, found_clear}
use Rattle.kfs_image.proofs.tier.bits.next_clear.Goals as goal

pub loop-index-init : goal.loop-index-init
loop-index-init c = record {
  begun = omega arith;
  passed = subst (λ index. HasPassed c.args.words.now c.args.from index (1 * 2 ^ (c.args.from % 64) % 2 ^ 64 - 1)) (omega arith) (passed_first c.args.words.now c.args.from);
}

pub returns-then-word-clause-found : goal.returns-then-word-clause-found
returns-then-word-clause-found c =
    let words = c.args.words.now in
    let index = c.loop-index.index in
    let passed = c.loop-index.passed in
    let word = get_or words index 0 in
    let fits = or_lt 64 word passed (omega (arith, c.type_inv.words index)) (omega (arith, c.loop-index.auto.passed-fits)) in
    subst (λ bit. IsNextClear words c.args.from (64 * index + bit)) (sym c.trailing_ones.ensures)
    (found_clear words c.args.from index passed word c.loop-index.invariant.passed refl (omega (arith, c.loop-index-test.true)) (omega (arith, fits, c.if-word.true)))

pub loop-index-preserved : goal.loop-index-preserved
loop-index-preserved c = record {
  begun = omega (arith, c.loop-index.invariant.begun);
  passed = passed_next c.args.words.now c.args.from c.loop-index.index c.loop-index.passed (get_or c.args.words.now c.loop-index.index 0) c.loop-index.invariant.passed refl c.loop-index.invariant.begun c.if-word.false;
}

pub returns-clause-none : goal.returns-clause-none
returns-clause-none c = λ q reached inside. c.loop-index.invariant.passed.behind q reached (omega (arith, inside, c.loop-index-test.false))
