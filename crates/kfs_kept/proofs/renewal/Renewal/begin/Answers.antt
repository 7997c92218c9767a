use Rattle.std.proofs.Common.{arith}
use Rattle.kfs_kept.proofs.UnderWay.{begun}
use Rattle.kfs_kept.proofs.renewal.Renewal.begin.Goals as goal

pub returns-clause-under_way : goal.returns-clause-under_way
returns-clause-under_way g c = λ s restored.
    begun _ _ _ c.args.state _ s restored c.new.ensures.items c.in_ok-draft.ensures.draft.0 (omega (arith, c.in_ok-draft.ensures.draft.1)) (omega arith)
