use Rattle.std.proofs.Common.{subst, sym}
use Rattle.kfs_call.specs.AnswerViews.{told_shown}
use Rattle.kfs_kept.specs.Calls.Group.{IsBrief}
use Rattle.kfs_kept.proofs.CallsLemmas.Answering.{row_told, told_short}
use Rattle.kfs_kept.proofs.calls.making.answer_row.Goals as goal

pub returns-clause-long : goal.returns-clause-long
returns-clause-long c = (row_told 0 (told_shown c.told.result) _ c.spell_answer.ensures).0

pub returns-clause-brief : goal.returns-clause-brief
returns-clause-brief c = subst IsBrief (sym (row_told 0 (told_shown c.told.result) _ c.spell_answer.ensures).1) (told_short (told_shown c.told.result))

pub returns-clause-told : goal.returns-clause-told
returns-clause-told c = (told_shown c.told.result, c.told.ensures, (row_told 0 (told_shown c.told.result) _ c.spell_answer.ensures).1)
