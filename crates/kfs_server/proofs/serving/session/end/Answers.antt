use Rattle.std.proofs.Common.{[], inr, sym, append-nil, ◌∙◌}
use Rattle.std.proofs.KnownBytes.{Appends-kept}
use Rattle.std.proofs.lemmas.Result.{err_from_is_err_and}
use Rattle.kfs_server.proofs.serving.session.end.Goals as goal

pub returns-in_err-write_whole : goal.returns-in_err-write_whole
returns-in_err-write_whole g c = λ rest pending.
    let p = err_from_is_err_and c.from_residual.result c.from_residual.ensures.1 in
    let wrote = c.in_err-write_whole.ensures in
    (wrote.0, wrote.1, rw p.1 (wrote.2.0, inr (c.in-Some.number, c.in-Some.ensures rest pending, sym wrote.2.1 ∙ c.as_slice.ensures.value ∙ c.spell_reply-bytes.ensures)))

pub returns-in_err-flush : goal.returns-in_err-flush
returns-in_err-flush g c = λ rest pending.
    let p = err_from_is_err_and c.from_residual-in_err-flush.result c.from_residual-in_err-flush.ensures.1 in
    let wrote = c.in_ok-write_whole.ensures in
    (wrote.0, Appends-kept _ _ _ _ wrote.1 c.in_err-flush.ensures, rw p.1 ([], inr (c.in-Some.number, c.in-Some.ensures rest pending, append-nil wrote.0 ∙ wrote.2 ∙ c.as_slice.ensures.value ∙ c.spell_reply-bytes.ensures)))

pub returns : goal.returns
returns g c = λ rest pending.
    let wrote = c.in_ok-write_whole.ensures in
    (wrote.0, Appends-kept _ _ _ _ wrote.1 c.in_ok-flush.ensures, inr (c.in-Some.number, c.in-Some.ensures rest pending, wrote.2 ∙ c.as_slice.ensures.value ∙ c.spell_reply-bytes.ensures))
