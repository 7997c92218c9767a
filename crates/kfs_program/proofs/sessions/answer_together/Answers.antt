-- What was held back is written at the end, or a first part of it.
use Rattle.std.proofs.Common.{ap, subst, ◌∙◌}
use Rattle.std.proofs.lemmas.Result.{IfErr-at_err, IfOk-at_ok}
use Rattle.std.specs.Io.KnownBytes.{IsAtEnd}
use Rattle.kfs_program_text.specs.HeldOutput.{HasGrown}
use Rattle.kfs_program.specs.Engine.Transcript.{IsSession}
use Rattle.kfs_program.proofs.EngineLemmas.SessionLoops.{first_written}
use Rattle.kfs_program.proofs.EngineLemmas.HeldReplies.{all_written, first_part}
use Rattle.kfs_program.proofs.sessions.answer_together.Goals as goal

pub returns-in-Ok-clause-session : goal.returns-in-Ok-clause-session
returns-in-Ok-clause-session g c =
    let contents = g.O.Write.contents in
    let (input, text, consumed, appended, is) = c.answer_all-ended.ensures.session in
    let all = IfOk-at_ok _ c.in-Ok.is c.close-writer.ensures.all in
    (input, text, consumed, all_written (contents c.args.writer.now) _ _ (contents c.close-writer.result.0.now) text c.new-held.ensures.contents appended all, is)

pub returns-in-Err-clause-session : goal.returns-in-Err-clause-session
returns-in-Err-clause-session g c =
    let contents = g.O.Write.contents in
    let last = c.close-writer.result.0.now in
    let (input, text, consumed, appended, is) = c.answer_all-ended.ensures.session in
    let first = ap (λ w. w.now) c.answer_all-ended.ensures.first ∙ c.new-held.ensures.first in
    let grown = subst (λ w. HasGrown (contents w) (contents last)) first c.close-writer.ensures.grown in
    let part = IfErr-at_err _ c.in-Err.is c.close-writer.ensures.part in
    let (front, back, wrote, parts) = first_part (contents c.args.writer.now) _ _ (contents last) text grown.0 part.0 c.new-held.ensures.contents appended part.1 grown.1 in
    let at_end = IsAtEnd (g.I.Read.remaining c.answer_all-ended.new.reader) in
    (input, front, consumed, wrote, first_written (Unit {0}) at_end c.answer_all-ended.result input front back c.answer_all-ended.ensures.end (subst (IsSession at_end c.answer_all-ended.result input) parts is))
