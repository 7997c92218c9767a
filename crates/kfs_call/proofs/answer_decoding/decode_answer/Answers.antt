use Rattle.std.proofs.Common.{arith}
use Rattle.std.proofs.lemmas.Result.{err_from_is_err_and}
use Rattle.kfs_call.specs.AnswerViews.{answer_shown}
use Rattle.kfs_call.proofs.AnswerLaws.{answer_layout}
use Rattle.kfs_call.proofs.Decoded.{told, told_trailing, told_value, never_told, never_trailing, only_value}
use Rattle.kfs_call.proofs.answer_decoding.decode_answer.Goals as goal

pub returns-in_err-answer-clause-found : goal.returns-in_err-answer-clause-found
returns-in_err-answer-clause-found c =
    let p = err_from_is_err_and c.from_residual.result c.from_residual.ensures.1 in
    rw (p.1, p.2) (told answer_shown answer_layout c.args.source.now (λ i. omega (arith, c.type_inv.source i)) c.in_err-answer.field-0.0 c.in_err-answer.ensures.value)

pub returns-in_err-answer-clause-only : goal.returns-in_err-answer-clause-only
returns-in_err-answer-clause-only c = λ answer fits spelled.
    let p = err_from_is_err_and c.from_residual.result c.from_residual.ensures.1 in
    rw (p.1, p.2) (never_told answer_shown answer_layout c.args.source.now (λ i. omega (arith, c.type_inv.source i)) answer fits spelled c.in_err-answer.field-0.0 c.in_err-answer.ensures.value)

pub returns-then-end-source-clause-found : goal.returns-then-end-source-clause-found
returns-then-end-source-clause-found c =
    told_trailing answer_shown answer_layout c.args.source.now (λ i. omega (arith, c.type_inv.source i)) c.in_ok-answer.answer c.in_ok-answer.end c.if-end-source.true c.in_ok-answer.ensures.value

pub returns-then-end-source-clause-only : goal.returns-then-end-source-clause-only
returns-then-end-source-clause-only c = λ answer fits spelled.
    never_trailing answer_shown answer_layout c.args.source.now (λ i. omega (arith, c.type_inv.source i)) answer fits spelled c.in_ok-answer.answer c.in_ok-answer.end c.if-end-source.true c.in_ok-answer.ensures.value

pub returns-clause-found : goal.returns-clause-found
returns-clause-found c =
    told_value answer_shown answer_layout c.args.source.now (λ i. omega (arith, c.type_inv.source i)) c.in_ok-answer.answer c.in_ok-answer.end c.if-end-source.false c.in_ok-answer.ensures.value

pub returns-clause-only : goal.returns-clause-only
returns-clause-only c = λ answer fits spelled.
    only_value answer_shown answer_layout c.args.source.now (λ i. omega (arith, c.type_inv.source i)) answer fits spelled c.in_ok-answer.answer c.in_ok-answer.end c.in_ok-answer.ensures.value
