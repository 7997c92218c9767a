use Rattle.std.proofs.Common.{◌≡◌, arith}
use Rattle.kfs_model.specs.Spelling.{LogAnswer}
use Rattle.kfs_entry.specs.Answers.{log_of}
use Rattle.kfs_entry.proofs.Answered.{Answered-weaker}
use Rattle.kfs_entry.proofs.Ranges.{answer_is_short}
use Rattle.kfs_model.proofs.OneLogAnswer.{one_log_answer}
use Rattle.kfs_entry.proofs.decoding.decode_borrowed_log.Goals as goal

pub returns-clause-only : goal.returns-clause-only
returns-clause-only g c = λ answer is.
    let source = c.args.source.now in
    Answered-weaker (log_of source) (LogAnswer source) (λ given. given ≡ answer) (λ given found. one_log_answer source (λ i. omega (arith, c.type_inv.source i)) given answer found is) c.borrowed_log_in.result c.borrowed_log_in.ensures.found

pub returns-clause-count : goal.returns-clause-count
returns-clause-count g c = answer_is_short c.args.source.now c.borrowed_log_in.result c.borrowed_log_in.ensures.found
