use Rattle.std.proofs.Common.{rules, ◌≡◌, true, get_or, ◌∙◌, arith, take_all, refl}
use Rattle.std.proofs.lemmas.List.Folds.{list_all_more}
use Rattle.kfs_program_text.specs.Decimals.{is_digit}
use Rattle.kfs_program_text.proofs.Numerals.{one_more, over, unfit, within}
use Rattle.kfs_program_text.proofs.words.number_in.Goals as goal

pub loop-byte-init : goal.loop-byte-init
loop-byte-init c = (refl, refl)

pub returns-in_err-tens : goal.returns-in_err-tens
returns-in_err-tens c =
    let digit : is_digit (get_or c.args.word.now c.loop-byte.byte-index 0) ≡ true = search rules in
    c.from_residual.ensures
    ∙ unfit c.args.most c.args.word.now c.loop-byte.byte-index c.loop-byte.number (omega arith) c.loop-byte-test.true digit c.loop-byte.invariant.1
    (λ small. c.in_err-tens.ensures (omega (arith, small)))

pub returns-in_err-number : goal.returns-in_err-number
returns-in_err-number c =
    let digit : is_digit (get_or c.args.word.now c.loop-byte.byte-index 0) ≡ true = search rules in
    c.from_residual-in_err-number.ensures
    ∙ unfit c.args.most c.args.word.now c.loop-byte.byte-index c.loop-byte.number (omega arith) c.loop-byte-test.true digit c.loop-byte.invariant.1
    (λ small. c.in_err-number.ensures (grind (arith, small)))

pub loop-byte-preserved : goal.loop-byte-preserved
loop-byte-preserved c =
    let word = c.args.word.now in
    let digit : is_digit (get_or word c.loop-byte.byte-index 0) ≡ true = search rules in
    let next = one_more word c.loop-byte.byte-index c.loop-byte.number c.loop-byte-test.true digit c.loop-byte.invariant.1 in
    (list_all_more is_digit word c.loop-byte.byte-index 0 c.loop-byte-test.true ∙ rw (c.loop-byte.invariant.0, digit) refl, grind arith)

pub returns-then-number-most : goal.returns-then-number-most
returns-then-number-most c =
    let whole = take_all c.loop-byte.byte-index c.args.word.now (omega arith) in
    let value = rw whole at c.loop-byte.invariant.1 in
    over c.args.most c.args.word.now (omega (arith, value, c.if-number-most.true))

pub returns-else-number-most : goal.returns-else-number-most
returns-else-number-most c =
    let whole = take_all c.loop-byte.byte-index c.args.word.now (omega arith) in
    let all = rw whole at c.loop-byte.invariant.0 in
    let value = rw whole at c.loop-byte.invariant.1 in
    within c.args.most c.loop-byte.number c.args.word.now (search rules) all value (omega (arith, c.if-number-most.false))
