use Rattle.std.proofs.Common.{◌∙◌}
use Rattle.kfs_call.specs.AnswerViews.{answer_shown}
use Rattle.kfs_c.proofs.Spelling.{given, handed}
use Rattle.kfs_c.proofs.spelled.give_answer.Goals as goal

pub returns-clause-done : goal.returns-clause-done
returns-clause-done c =
    handed c.as_slice-bytes.result.now c.args.answer.now c.hand_out.new.buffer c.hand_out.new.len c.hand_out.result c.as_slice-bytes.ensures.fits c.requires c.hand_out.ensures.short c.hand_out.ensures.only

pub returns-clause-given : goal.returns-clause-given
returns-clause-given c =
    let done = handed c.as_slice-bytes.result.now c.args.answer.now c.hand_out.new.buffer c.hand_out.new.len c.hand_out.result c.as_slice-bytes.ensures.fits c.requires c.hand_out.ensures.short c.hand_out.ensures.only in
    given c.args.called.now (answer_shown c.answer_row.result) c.as_slice-bytes.result.now c.args.answer.now c.hand_out.new.buffer c.hand_out.new.len c.answer_row.ensures
    (c.as_slice-bytes.ensures.value ∙ c.spell_answer-spelled.ensures) (c.hand_out.ensures.handed done)
