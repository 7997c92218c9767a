use Rattle.std.proofs.Common.{ap, ◌∙◌}
use Rattle.kfs_image.specs.Tier.Words.{places_of}
use Rattle.kfs_image.proofs.TierLemmas.PlaceLists.{places_of-clear, counted-all}
use Rattle.kfs_image.proofs.tier.places.Places.new.Goals as goal

pub invariant_of-result : goal.invariant_of-result
invariant_of-result g c = counted-all c.in_ok-used.used.items c.div_ceil.result c.args.size (c.in_ok-used.ensures.items_if_clones_equal (λ y copied. copied)) c.div_ceil.ensures

pub returns : goal.returns
returns g c =
    ap (λ words. places_of words c.args.size) (c.in_ok-used.ensures.items_if_clones_equal (λ y copied. copied))
    ∙ places_of-clear c.div_ceil.result c.args.size
