use Rattle.std.proofs.Common.{◌≡◌, ◌∙◌, ap, sym, subst, codes, bytes_eq, true, false, None, if◌then◌else◌, ℕ, Vec}
use Rattle.kfs_program_text.specs.Decimals.{hexadecimal}
use Rattle.kfs_program_text.specs.Reading.{ReadsAs, only, words_left}
use Rattle.kfs_program.specs.Planning.{log_said}
use Rattle.kfs_program.proofs.Planned.{named, nameless, reads_none}
use Rattle.kfs_program.proofs.planning.log_of.Goals as goal

pub returns-in_err-word : goal.returns-in_err-word
returns-in_err-word g c =
    let none : log_said c.args.line.now ≡ None = nameless _ (rw c.new-words.ensures at c.in_err-word.ensures.1) in
    reads_none (λ bytes. bytes.items) (log_said c.args.line.now) c.in_err-word.field-0.0 c.from_residual.result c.from_residual.ensures.1 none

pub returns-then-is_log : goal.returns-then-is_log
returns-then-is_log g c =
    let left = words_left c.word.new.self in
    let said = named _ c.in_ok-word.word.now left (rw c.new-words.ensures at c.in_ok-word.ensures) in
    let is : bytes_eq c.in_ok-word.word.now (codes "log") ≡ true = sym c.is_log.ensures ∙ c.if-is_log.true in
    let all : log_said c.args.line.now ≡ only hexadecimal left = said ∙ ap (λ b. if b then only hexadecimal left else None) is in
    subst (λ o. ReadsAs (λ (bytes : Vec ℕ g.row.A.Denot). bytes.items) o c.only_bytes.result) (sym all) c.only_bytes.ensures

pub returns-else-is_log : goal.returns-else-is_log
returns-else-is_log g c =
    let left = words_left c.word.new.self in
    let said = named _ c.in_ok-word.word.now left (rw c.new-words.ensures at c.in_ok-word.ensures) in
    let is : bytes_eq c.in_ok-word.word.now (codes "log") ≡ false = sym c.is_log.ensures ∙ c.if-is_log.false in
    λ bad. said ∙ ap (λ b. if b then only hexadecimal left else None) is
