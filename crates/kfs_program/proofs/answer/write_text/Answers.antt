use Rattle.std.proofs.Common.{[], sym, ◌∙◌, append-nil}
use Rattle.std.proofs.KnownBytes.{Appends-kept}
use Rattle.std.proofs.lemmas.Result.{err_from_is_err_and}
use Rattle.kfs_program.proofs.answer.write_text.Goals as goal

pub returns-in_err-write_whole-clause-text : goal.returns-in_err-write_whole-clause-text
returns-in_err-write_whole-clause-text g c =
    let p = err_from_is_err_and c.from_residual.result c.from_residual.ensures.1 in
    let (out, added, part) = c.in_err-write_whole.ensures in
    (out, added, rw p.1 part)

-- all is written then
pub returns-in_err-flush-clause-text : goal.returns-in_err-flush-clause-text
returns-in_err-flush-clause-text g c =
    let p = err_from_is_err_and c.from_residual-in_err-flush.result c.from_residual-in_err-flush.ensures.1 in
    let (out, added, all) = c.in_ok-write_whole.ensures in
    (out, Appends-kept _ _ _ _ added c.flush.ensures, rw p.1 ([], sym all ∙ sym (append-nil out)))

pub returns-clause-text : goal.returns-clause-text
returns-clause-text g c =
    let (out, added, all) = c.in_ok-write_whole.ensures in
    (out, Appends-kept _ _ _ _ added c.flush.ensures, all)
