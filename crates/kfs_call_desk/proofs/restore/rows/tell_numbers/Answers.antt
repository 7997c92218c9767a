use Rattle.std.proofs.Common.{◌<◌, ◌^◌, ℕ, All, subst}
use Rattle.std.proofs.lemmas.List.{take_all}
use Rattle.std.proofs.lemmas.List.Elements.{All-nil, All-more}
use Rattle.kfs_call_desk.proofs.restore.rows.tell_numbers.Goals as goal

abbrev Fits : ℕ → Type 0
Fits number = number < 2 ^ 32

pub loop-number-init : goal.loop-number-init
loop-number-init c = All-nil Fits

pub loop-number-preserved : goal.loop-number-preserved
loop-number-preserved c = All-more Fits c.args.numbers.now c.loop-number.number-index 0 c.loop-number-test.true c.loop-number.invariant c.in_range-number.ensures.fits

pub returns : goal.returns
returns c = subst (All Fits) (take_all c.loop-number.number-index c.args.numbers.now c.loop-number-test.false) c.loop-number.invariant
