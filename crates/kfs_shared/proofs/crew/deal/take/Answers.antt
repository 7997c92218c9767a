use Rattle.kfs_shared.proofs.CrewLemmas.Shares.{taken_mapped}
use Rattle.kfs_shared.proofs.crew.deal.take.Goals as goal

pub returns : goal.returns
returns g c = record { taken = taken_mapped (λ w. w.duty.items) c.args.workers.now c.args.at _ c.index-workers-at.result c.in-Some.task c.requires.at c.in-Some.ensures.items }
