use Rattle.std.proofs.Common.{true, false, not, get_or, set, sym, ap, ◌∙◌}
use Rattle.kfs_image.proofs.TierLemmas.TierLists.{free_there, free_of-turned, devices_of-turned}
use Rattle.kfs_image.proofs.tier.tiers.turn.Goals as goal

pub give_back-requires-clause-used : goal.give_back-requires-clause-used
give_back-requires-clause-used g c =
    free_there c.args.tiers.now c.args.place c.place.inside.tier c.place.inside.place c.index-tiers-place.result c.place.view_is c.requires.in_tier false
    (c.requires.other ∙ ap not c.if-free.true)

pub take-requires : goal.take-requires
take-requires g c =
    free_there c.args.tiers.now c.args.place c.place.inside.tier c.place.inside.place c.index-tiers-place.result c.place.view_is c.requires.in_tier true
    (c.requires.other ∙ ap not c.if-free.false)

pub returns-then-free-clause-free : goal.returns-then-free-clause-free
returns-then-free-clause-free g c =
    free_of-turned c.args.tiers.now c.args.place c.place.inside.tier c.place.inside.place c.index-tiers-place.result c.place.view_is c.requires.in_tier c.args.free
    c.give_back.new.self (c.give_back.ensures ∙ ap (λ v. record (get_or c.args.tiers.now c.place.inside.tier c.index-tiers-place.result) { places = set (get_or c.args.tiers.now c.place.inside.tier c.index-tiers-place.result).places c.place.inside.place v }) (sym c.if-free.true))

pub returns-then-free-clause-devices : goal.returns-then-free-clause-devices
returns-then-free-clause-devices g c =
    devices_of-turned c.args.tiers.now c.args.place c.place.inside.tier c.place.inside.place c.index-tiers-place.result c.place.view_is c.requires.in_tier true
    c.give_back.new.self c.give_back.ensures

pub returns-else-free-clause-free : goal.returns-else-free-clause-free
returns-else-free-clause-free g c =
    free_of-turned c.args.tiers.now c.args.place c.place.inside.tier c.place.inside.place c.index-tiers-place.result c.place.view_is c.requires.in_tier c.args.free
    c.take.new.self (c.take.ensures ∙ ap (λ v. record (get_or c.args.tiers.now c.place.inside.tier c.index-tiers-place.result) { places = set (get_or c.args.tiers.now c.place.inside.tier c.index-tiers-place.result).places c.place.inside.place v }) (sym c.if-free.false))

pub returns-else-free-clause-devices : goal.returns-else-free-clause-devices
returns-else-free-clause-devices g c =
    devices_of-turned c.args.tiers.now c.args.place c.place.inside.tier c.place.inside.place c.index-tiers-place.result c.place.view_is c.requires.in_tier false
    c.take.new.self c.take.ensures
