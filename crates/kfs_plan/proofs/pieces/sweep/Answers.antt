-- The pieces are right ones of the run, whose sizes the walk tells.
use Rattle.std.proofs.Common.{◌≡◌, ap, arith, length, map, Result, Ok, Err, refl, subst, ◌∙◌}
use Rattle.std.specs.Prelude.{IsOk}
use Rattle.kfs_model.specs.Sight.{client_sight}
use Rattle.kfs_types.specs.Views.{entry_of, piece_of}
use Rattle.kfs_pieces.specs.Sizes.{AreRightFrom}
use Rattle.kfs_judge.specs.Walks.{ComesToTree}
use Rattle.kfs_pieces.specs.RangeCounts.{grown_count}
use Rattle.kfs_plan.proofs.PlanChecked.{pieces_at_end}
use Rattle.kfs_plan.proofs.pieces.sweep.Goals as goal

value_of : {X E : Type 0} (result : Result X E) → IsOk result → (x : X) × (result ≡ Ok x)
value_of (Ok x) is = (x, refl)
value_of (Err e) is = cc

pub returns-clause-right : goal.returns-clause-right
returns-clause-right g c client walk source within tree held fits agrees =
    let entries = map (entry_of source) c.args.log.now.entries in
    let sizes = c.args.walk.now.sizes.items in
    let pieces = map piece_of c.in_ok-out.out.items in
    let (net, is) = value_of c.args.walk.now.outcome c.requires.walked in
    let comes = subst (λ outcome. ComesToTree client held tree entries outcome sizes) is (walk source within tree held fits agrees) in
    let same = c.as_slice-3.ensures.value ∙ c.in_ok-entries.ensures ∙ c.as_slice.ensures in
    let right : AreRightFrom sizes c.args.log.now.entries pieces = subst (λ all. AreRightFrom all c.args.log.now.entries pieces) c.as_slice-2.ensures.value (subst (λ es. AreRightFrom c.as_slice-2.result.now es pieces) same c.in_ok-out.ensures.right) in
    pieces_at_end client held tree entries sizes net comes pieces (right source within client (client_sight tree held) tree refl)

pub returns-clause-few : goal.returns-clause-few
returns-clause-few g c =
    let same = c.as_slice-3.ensures.value ∙ c.in_ok-entries.ensures ∙ c.as_slice.ensures in
    omega (arith, c.in_ok-out.ensures.few, ap grown_count c.as_slice-2.ensures.value, ap length same)
