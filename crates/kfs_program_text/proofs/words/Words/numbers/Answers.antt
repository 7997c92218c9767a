-- Each word that is left is read in turn.
use Rattle.std.proofs.Common.{◌≡◌, None, option_map, take, sym, subst, ◌∙◌, rules}
use Rattle.kfs_program_text.specs.Decimals.{decimals32}
use Rattle.kfs_program_text.specs.Reading.{ended, words_left}
use Rattle.kfs_program_text.specs.declared.words.Refusal.TheVariants.{BadLine}
use Rattle.kfs_program_text.proofs.NumbersRead.{AreRead, all_read, next_number, no_number, none_left, one_read, some_left}
use Rattle.kfs_program_text.proofs.words.Words.numbers.Goals as goal

pub returns-in_err-number32 : goal.returns-in_err-number32
returns-in_err-number32 g c =
    let some : ended (words_left c.loop-numbers.self) ≡ None = some_left c.loop-numbers.self (sym c.is_some.ensures ∙ c.loop-numbers-test.true) in
    let none : c.in_err-number32.field-0.0 ≡ BadLine → option_map (λ ns. take g.row.N ns) (decimals32 (words_left c.args.self.now)) ≡ None =
    λ bad. no_number _ _ _ _ c.loop-numbers.invariant some (c.in_err-number32.ensures bad) in
    search (rules, none)

pub loop-numbers-smaller : goal.loop-numbers-smaller
loop-numbers-smaller g c = (next_number _ _ _ c.in_ok-number32.ensures).1

pub loop-numbers-preserved : goal.loop-numbers-preserved
loop-numbers-preserved g c = rw c.keep.ensures (one_read _ _ _ _ _ _ c.loop-numbers.invariant c.in_ok-number32.ensures)

pub returns : goal.returns
returns g c =
    all_read _ _ _ (subst (λ left. AreRead g.row.N (words_left c.args.self.now) left c.loop-numbers.numbers.items) (none_left c.loop-numbers.self (sym c.is_some.ensures ∙ c.loop-numbers-test.false)) c.loop-numbers.invariant)
