use Rattle.std.proofs.Common.{◌≡◌, ap, arith, length, map, refl, sym, subst}
use Rattle.std.specs.Prelude.{IfOk}
use Rattle.kfs_types.specs.Views.{piece_of}
use Rattle.kfs_plan.specs.PlanCheck.{ArePiecesOf}
use Rattle.kfs_plan_maker.proofs.maker.plan_from.Goals as goal

pub returns : goal.returns
returns g c = record {
  version = refl;
  net = subst (λ o. IfOk o (λ net. (c.from_vec.result ≡ net.names.items) × (c.from_vec-2.result ≡ net.nodes.items))) (sym c.unwrap-net.ensures) (c.from_vec.ensures, c.from_vec-2.ensures);
  few = omega (arith, c.in_ok-pieces.ensures.few, ap length c.from_vec-3.ensures);
  pieces = λ client walks. subst (λ pieces. ArePiecesOf client c.args.log.now c.args.walk (map piece_of pieces)) (sym c.from_vec-3.ensures) (c.in_ok-pieces.ensures.right client walks);
}
