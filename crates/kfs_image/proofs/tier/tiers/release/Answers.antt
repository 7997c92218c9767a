use Rattle.std.proofs.Common.{ap}
use Rattle.kfs_image.specs.Tier.Tier.{TierShown}
use Rattle.kfs_image.proofs.TierLemmas.TierLists.{free_of-kept, devices_of-read}
use Rattle.kfs_image.proofs.tier.tiers.release.Goals as goal

pub returns-clause-free : goal.returns-clause-free
returns-clause-free g c = free_of-kept c.args.tiers.now c.args.place c.place.inside.tier c.place.inside.place c.index-tiers-place.result c.release.new.self c.place.view_is c.requires (ap (λ (s : TierShown). s.places) c.release.ensures.table)

pub returns-clause-devices : goal.returns-clause-devices
returns-clause-devices g c = devices_of-read c.args.tiers.now c.args.place c.place.inside.tier c.place.inside.place c.index-tiers-place.result c.release.new.self c.place.view_is c.requires c.release.ensures.blocks
