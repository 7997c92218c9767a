use Rattle.std.proofs.Common.{◌≡◌, ◌<◌, true, false, Some, sym, ap, subst, ◌∙◌, lt-ltb, arith}
use Rattle.std.specs.Prelude.{is_none, nat_lt}
use Rattle.kfs_model.specs.Migration as model
use Rattle.kfs_model.specs.Migration.{Move, fault_of_move, source}
use Rattle.kfs_model.specs.Placement.{is_free, tier_size}
use Rattle.kfs_model.specs.Table.{get}
use Rattle.kfs_migrate.proofs.MoveTests.{lost, outside, used, not_below}
use Rattle.kfs_migrate.proofs.check.check_alone.Goals as goal

pub returns-in_default-clause-err : goal.returns-in_default-clause-err
returns-in_default-clause-err g c = λ earlier long.
    let image = c.args.image.now in
    let gone : is_none (get image.placement (source c.args.m)) ≡ true = subst (λ (m : Move). is_none (get image.placement (source m)) ≡ true) c.m.view_is (ap is_none (sym c.in_default.ensures)) in
    lost image.sizes image.placement earlier c.args.m gone ∙ ap (λ n. Some (model.NotMapped n)) long

pub returns-then-m-tier_size-clause-err : goal.returns-then-m-tier_size-clause-err
returns-then-m-tier_size-clause-err g c = λ earlier long.
    let image = c.args.image.now in
    let mapped : is_none (get image.placement (source c.args.m)) ≡ false = subst (λ (m : Move). is_none (get image.placement (source m)) ≡ false) c.m.view_is (ap is_none (sym c.in-Some.ensures)) in
    let past : nat_lt c.args.m.target.place (tier_size image.sizes c.args.m.target.tier) ≡ false =
    subst (λ (m : Move). nat_lt m.target.place (tier_size image.sizes m.target.tier) ≡ false) c.m.view_is (not_below c.m.inside.place (tier_size image.sizes c.m.inside.tier) (omega (arith, c.tier_size.ensures, c.if-m-tier_size.true))) in
    outside image.sizes image.placement earlier c.args.m mapped past ∙ ap (λ n. Some (model.OutOfRange n)) long

pub is_free-requires : goal.is_free-requires
is_free-requires g c =
    let image = c.args.image.now in
    subst (λ (m : Move). m.target.place < tier_size image.sizes m.target.tier) c.m.view_is (omega (arith, c.tier_size.ensures, c.if-m-tier_size.false))

pub returns-then-not-is_free-clause-err : goal.returns-then-not-is_free-clause-err
returns-then-not-is_free-clause-err g c = λ earlier long.
    let image = c.args.image.now in
    let mapped : is_none (get image.placement (source c.args.m)) ≡ false = subst (λ (m : Move). is_none (get image.placement (source m)) ≡ false) c.m.view_is (ap is_none (sym c.in-Some.ensures)) in
    let inside : c.args.m.target.place < tier_size image.sizes c.args.m.target.tier = subst (λ (m : Move). m.target.place < tier_size image.sizes m.target.tier) c.m.view_is (omega (arith, c.tier_size.ensures, c.if-m-tier_size.false)) in
    let taken : is_free image.placement c.args.m.target ≡ false = cc in
    used image.sizes image.placement earlier c.args.m mapped (lt-ltb _ _ inside) taken ∙ ap (λ n. Some (model.NotFree n)) long

pub returns-clause-ok : goal.returns-clause-ok
returns-clause-ok g c =
    let image = c.args.image.now in
    record {
      mapped = subst (λ (m : Move). is_none (get image.placement (source m)) ≡ false) c.m.view_is (ap is_none (sym c.in-Some.ensures));
      inside = subst (λ (m : Move). m.target.place < tier_size image.sizes m.target.tier) c.m.view_is (omega (arith, c.tier_size.ensures, c.if-m-tier_size.false));
      free = cc;
    }
