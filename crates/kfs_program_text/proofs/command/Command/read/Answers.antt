-- A line asks for the command that its first word names, of the words behind it.
use Rattle.std.proofs.Common.{◌≡◌, None, sym, subst, arith}
use Rattle.kfs_program_text.specs.Command.{asked_by}
use Rattle.kfs_program_text.specs.Views.{asked_of}
use Rattle.kfs_program_text.specs.Reading.{ReadsAs, words_left}
use Rattle.kfs_program_text.specs.declared.words.Refusal.TheVariants.{BadLine}
use Rattle.kfs_program_text.proofs.Readings.{asked_named, command_by_name, nothing_asked}
use Rattle.kfs_program_text.proofs.Asked.{read_bad, read_ok}
use Rattle.kfs_program_text.proofs.command.Command.read.Goals as goal

pub returns-in_err-word-clause-bad : goal.returns-in_err-word-clause-bad
returns-in_err-word-clause-bad g c =
    let bad : c.in_err-word.field-0.0 ≡ BadLine → asked_by c.args.line.now ≡ None =
    λ is. nothing_asked c.args.line.now (rw c.new-words.ensures at c.in_err-word.ensures.1) in
    grind (arith, bad)

pub returns-clause-ok : goal.returns-clause-ok
returns-clause-ok g c =
    read_ok (asked_of {A = g.row.A.Denot}) (asked_by c.args.line.now) c.named.result (subst (λ o. ReadsAs (asked_of {A = g.row.A.Denot}) o c.named.result) (sym (asked_named c.args.line.now c.in_ok-word.field-0.now (words_left c.word.new.self) c.name_in-name.result (rw c.new-words.ensures at c.in_ok-word.ensures) (command_by_name c.in_ok-word.field-0.now c.name_in-name.result c.name_in-name.ensures))) c.named.ensures)

pub returns-clause-bad : goal.returns-clause-bad
returns-clause-bad g c =
    read_bad (asked_of {A = g.row.A.Denot}) (asked_by c.args.line.now) c.named.result (subst (λ o. ReadsAs (asked_of {A = g.row.A.Denot}) o c.named.result) (sym (asked_named c.args.line.now c.in_ok-word.field-0.now (words_left c.word.new.self) c.name_in-name.result (rw c.new-words.ensures at c.in_ok-word.ensures) (command_by_name c.in_ok-word.field-0.now c.name_in-name.result c.name_in-name.ensures))) c.named.ensures)
