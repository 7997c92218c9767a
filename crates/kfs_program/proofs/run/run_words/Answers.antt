-- What the words ask for was done, or they are refused.
use Rattle.std.proofs.Common.{[], refl, ap, ◌∙◌, inl, inr, Ok, rules}
use Rattle.std.proofs.KnownBytes.{Appends-nil, Consumes-nil}
use Rattle.std.proofs.lemmas.Result.{IfOk-at_ok}
use Rattle.kfs_program.specs.Exit.{IsAskedFor}
use Rattle.kfs_program.specs.declared.run.Subcommand.TheVariants.{Run, Lines}
use Rattle.kfs_program.proofs.run.run_words.Goals as goal

pub returns-in-Ok-Run : goal.returns-in-Ok-Run
returns-in-Ok-Run g c =
    let asked = IfOk-at_ok (IsAskedFor c.args.words.now) (c.in-Ok-Run.is ∙ ap Ok c.in-Ok-Run.field-0-is) c.asked_of.ensures in
    let (input, text, consumed, appended, is) = c.engine.ensures.session in
    (input, text, consumed, appended, inr (inr (Run, asked, record { ended = c.engine.result; status_is = search rules; session = is })))

pub returns-in-Ok-Lines : goal.returns-in-Ok-Lines
returns-in-Ok-Lines g c =
    let asked = IfOk-at_ok (IsAskedFor c.args.words.now) (c.in-Ok-Lines.is ∙ ap Ok c.in-Ok-Lines.field-0-is) c.asked_of.ensures in
    let (input, text, consumed, appended, is) = c.answer_lines.ensures in
    (input, text, consumed, appended, inr (inr (Lines c.in-Ok-Lines.word, asked, record { ended = c.answer_lines.result; status_is = search rules; answered = is })))

pub returns-in-Err-Refused : goal.returns-in-Err-Refused
returns-in-Err-Refused g c = ([], [], Consumes-nil _, Appends-nil _, inl (refl, (refl, refl)))

pub returns-in-Err-OutOfMemory : goal.returns-in-Err-OutOfMemory
returns-in-Err-OutOfMemory g c = ([], [], Consumes-nil _, Appends-nil _, inr (inl (refl, (refl, refl))))
