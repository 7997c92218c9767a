use Rattle.std.proofs.Common.{Some, subst, sym, ap}
use Rattle.kfs_image.specs.Tier.Blocks.{HasRoomForBlock}
use Rattle.kfs_image.specs.Tier.Tier.{TierShown}
use Rattle.kfs_image.proofs.TierLemmas.TierLists.{room_insert, room_read, free_of-kept, devices_of-put, rooms_kept}
use Rattle.kfs_image.proofs.tier.tiers.write.Goals as goal

pub write-requires-clause-room : goal.write-requires-clause-room
write-requires-clause-room g c =
    room_read c.args.tiers.now c.args.block.place c.place.inside.tier c.place.inside.place c.index-tiers-place.result c.index-tiers-place.result c.place.view_is c.requires.in_tier c.requires.room

pub returns-clause-free : goal.returns-clause-free
returns-clause-free g c = free_of-kept c.args.tiers.now c.args.block.place c.place.inside.tier c.place.inside.place c.index-tiers-place.result c.write.new.self c.place.view_is c.requires.in_tier (ap (λ (s : TierShown). s.places) c.write.ensures.tier)

pub returns-clause-devices : goal.returns-clause-devices
returns-clause-devices g c = devices_of-put c.args.tiers.now c.args.block.place c.place.inside.tier c.place.inside.place c.index-tiers-place.result c.write.new.self c.place.view_is c.requires.in_tier c.args.block.bytes.items (ap (λ (s : TierShown). s.blocks) c.write.ensures.tier)

pub returns-clause-others : goal.returns-clause-others
returns-clause-others g c =
    rooms_kept c.args.tiers.now c.args.block.place c.place.inside.tier c.place.inside.place c.index-tiers-place.result c.write.new.self c.place.view_is c.requires.in_tier
    (λ q room. subst (λ (s : TierShown). HasRoomForBlock s.blocks q) (sym c.write.ensures.tier) (room_insert _ c.place.inside.place (Some c.args.block.bytes.items) q room))
