use Rattle.std.proofs.Common.{rules, ◌≡◌, List, ℕ, ◌++◌, drop, ap, ◌∙◌}
use Rattle.kfs_kept.specs.Calls.Group.{kept_bytes}
use Rattle.kfs_kept.proofs.CallsLemmas.Answering.{next_made}
use Rattle.kfs_kept.proofs.calls.making.make_call.Goals as goal

pub returns-in-Ok-clause-next : goal.returns-in-Ok-clause-next
returns-in-Ok-clause-next g c =
    let answer = drop 4 c.answer_row-row.result.items in
    let is : c.without_position.result.now ≡ answer = search rules in
    let parts = c.push_call.ensures.pushed ∙ ap (λ (a : List ℕ). c.args.group.now.items ++ kept_bytes (record { call = c.args.bytes.now; answer = a })) is in
    next_made c.args.desk.now c.call_judged-answer.new.desk c.args.bytes.now c.args.group.now.items c.push_call.new.group.items answer c.call_judged-answer.result c.in-Ok.called c.in-Ok.is c.call_judged-answer.ensures.called
    c.answer_row-row.ensures.told c.requires.long c.answer_row-row.ensures.brief parts
