use Rattle.std.proofs.Common.{◌≡◌, arith}
use Rattle.kfs_call_desk.specs.Restore.Restored.{RestoreAnswer}
use Rattle.kfs_call_desk.proofs.RestoreLemmas.OneAnswer.{OnRestored-weaker, one_answer}
use Rattle.kfs_call_desk.proofs.restore.restoring.restore_asking.Goals as goal

pub returns-clause-only : goal.returns-clause-only
returns-clause-only g c = λ answer is.
    let source = c.args.bytes.now in
    OnRestored-weaker c.args.limit (RestoreAnswer source) (λ given. given ≡ answer) (λ given found. one_answer source (λ i. omega (arith, c.type_inv.bytes i)) given answer found is) c.restore_in.result c.restore_in.ensures
