use Rattle.std.proofs.Common.{refl, vec_capacity}
use Rattle.kfs_shared.proofs.CrewLemmas.Crews.{map_then}
use Rattle.kfs_shared.proofs.CrewLemmas.Shares.{put_mapped}
use Rattle.kfs_shared.proofs.crew.deal.put.Goals as goal

pub returns-clause-put : goal.returns-clause-put
returns-clause-put g c = put_mapped (λ share. share.items) c.args.shares.now c.args.at c.push_reserved.new.self c.index-shares-at.result c.args.task c.requires.at c.push_reserved.ensures.items

pub returns-clause-capacity : goal.returns-clause-capacity
returns-clause-capacity g c = map_then vec_capacity c.args.shares.now _ c.args.at c.index-shares-at.result c.push_reserved.new.self c.requires.at c.push_reserved.ensures.capacity refl
