use Rattle.std.proofs.Common.{◌≡◌, ◌+◌, Bool, true, false, cond, Some, refl, sym, ap, ◌∙◌}
use Rattle.std.specs.Prelude.{unwrap_or}
use Rattle.std.specs.Ordering.{eq_by_cmp}
use Rattle.kfs_maps.specs.Chunks.Overlays.{said_or}
use Rattle.kfs_image_nodes.proofs.tallies.add_one.Goals as goal

twice : {X : Type 0} (b : Bool) (last first there : X) → cond b last (cond b first there) ≡ cond b last there
twice true last first there = refl
twice false last first there = refl

pub returns-in-Some : goal.returns-in-Some
returns-in-Some g c = record {
  now = c.in_ok-one_more-2.field-0;
  more = c.in_ok-one_more-2.ensures.more ∙ ap (λ said. unwrap_or (said_or said c.args.there) 0 + 1) (sym c.in-Some.is ∙ c.in_ok-before.ensures.before);
  positive = c.in_ok-one_more-2.ensures.positive;
  set = λ q. c.in_ok-set.ensures q ∙ ap (cond (eq_by_cmp g.K.Ord.cmp q c.args.key) (Some c.in_ok-one_more-2.field-0)) (c.in_ok-before.ensures.set q) ∙ twice (eq_by_cmp g.K.Ord.cmp q c.args.key) (Some c.in_ok-one_more-2.field-0) (Some c.in_ok-one_more.field-0) _;
}

pub returns : goal.returns
returns g c = record {
  now = c.in_ok-one_more.field-0;
  more = c.in_ok-one_more.ensures.more ∙ ap (λ said. unwrap_or (said_or said c.args.there) 0 + 1) (sym c.in_default.is ∙ c.in_ok-before.ensures.before);
  positive = c.in_ok-one_more.ensures.positive;
  set = c.in_ok-before.ensures.set;
}
