use Rattle.std.proofs.Common.{◌≡◌, arith}
use Rattle.kfs_call.specs.StateRows.{StateAnswer}
use Rattle.kfs_call.specs.StateViews.{state_shown}
use Rattle.kfs_call.proofs.OneStateAnswer.{OnStateAnswer-weaker, one_state_answer}
use Rattle.kfs_call.proofs.state_decoding.decode_state.Goals as goal

pub returns-clause-only : goal.returns-clause-only
returns-clause-only g c = λ answer is.
    let source = c.args.source.now in
    OnStateAnswer-weaker (state_shown {A = g.row.A.Denot}) (StateAnswer source) (λ given. given ≡ answer) (λ given found. one_state_answer source (λ i. omega (arith, c.type_inv.source i)) given answer found is) c.state_in.result c.state_in.ensures
