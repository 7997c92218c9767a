use Rattle.std.proofs.Common.{◌≡◌, ◌<◌, sym, ap, subst, ◌∙◌}
use Rattle.kfs_model.specs.Migration.{Move}
use Rattle.kfs_model.specs.Placement.{Place, is_free, tier_size}
use Rattle.kfs_migrate.proofs.MoveTests.{free_if_next, used_if_none}
use Rattle.kfs_migrate.proofs.check.is_free.Goals as goal

pub returns-in-Some : goal.returns-in-Some
returns-in-Some g c =
    let image = c.args.image.now in
    let target : Place = record { tier = c.m.inside.tier; place = c.m.inside.place } in
    let same : target ≡ c.args.m.target = ap (λ (x : Move). x.target) c.m.view_is in
    let inside : target.place < tier_size image.sizes target.tier = subst (λ (p : Place). p.place < tier_size image.sizes p.tier) (sym same) c.requires in
    free_if_next image.sizes image.placement target inside c.in-Some.place c.in-Some.ensures.found ∙ ap (is_free image.placement) same

pub returns-in-None : goal.returns-in-None
returns-in-None g c =
    let image = c.args.image.now in
    let target : Place = record { tier = c.m.inside.tier; place = c.m.inside.place } in
    let same : target ≡ c.args.m.target = ap (λ (x : Move). x.target) c.m.view_is in
    let inside : target.place < tier_size image.sizes target.tier = subst (λ (p : Place). p.place < tier_size image.sizes p.tier) (sym same) c.requires in
    used_if_none image.sizes image.placement target inside c.in-None.ensures.none ∙ ap (is_free image.placement) same
