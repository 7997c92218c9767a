use Rattle.std.proofs.Common.{subst, sym}
use Rattle.std.proofs.lemmas.Result.{on_ok_weaker}
use Rattle.kfs_image.specs.Tier.Blocks.{HasRoomForBlock}
use Rattle.kfs_image.specs.Tier.Tier.{TierShown}
use Rattle.kfs_image.proofs.TierLemmas.TierLists.{places_after, rooms_after, room_here, free_of-kept, devices_of-read, rooms_kept, room_made}
use Rattle.kfs_image.proofs.tier.tiers.reserve.Goals as goal

pub returns-clause-free : goal.returns-clause-free
returns-clause-free g c =
    free_of-kept c.args.tiers.now c.args.place c.place.inside.tier c.place.inside.place c.index-tiers-place.result c.reserve.new.self c.place.view_is c.requires
    (places_after c.reserve.new.self _ c.place.inside.place c.reserve.result c.reserve.ensures.ok c.reserve.ensures.err)

pub returns-clause-devices : goal.returns-clause-devices
returns-clause-devices g c = devices_of-read c.args.tiers.now c.args.place c.place.inside.tier c.place.inside.place c.index-tiers-place.result c.reserve.new.self c.place.view_is c.requires c.reserve.ensures.blocks

pub returns-clause-room : goal.returns-clause-room
returns-clause-room g c =
    on_ok_weaker c.reserve.result
    (λ made. room_made c.args.tiers.now c.args.place c.place.inside.tier c.place.inside.place c.index-tiers-place.result c.reserve.new.self c.place.view_is c.requires
    (subst (λ (s : TierShown). HasRoomForBlock s.blocks c.place.inside.place) (sym made) (room_here _ c.place.inside.place _)))
    c.reserve.ensures.ok

pub returns-clause-others : goal.returns-clause-others
returns-clause-others g c =
    rooms_kept c.args.tiers.now c.args.place c.place.inside.tier c.place.inside.place c.index-tiers-place.result c.reserve.new.self c.place.view_is c.requires
    (rooms_after c.reserve.new.self _ c.place.inside.place c.reserve.result c.reserve.ensures.ok c.reserve.ensures.err)
