use Rattle.std.proofs.Common.{◌≡◌, ◌+◌, ◌*◌, ◌^◌, ◌≤◌, ap, subst, ◌∙◌, arith}
use Rattle.std.proofs.lemmas.Nat.{pow-add}
use Rattle.kfs_model.specs.Table.{get}
use Rattle.kfs_model.proofs.Heads.{root_has_none}
use Rattle.kfs_model.specs.Device.RawImage.{heads_of, names_of}
use Rattle.kfs_model.specs.Device.Rules.{parent_of, reaches_root}
use Rattle.kfs_model.proofs.DeviceLemmas.ClimbTest.{found_is_reach, reach_is_found}
use Rattle.kfs_shape.specs.Climbs.{ancestor_at, ancestor_from, EndAtRoot}
use Rattle.kfs_image.specs.Codec.RawImages.{raw_of}
use Rattle.kfs_shape.proofs.Doubling.{LeadsBy, leads_by_one, leads_by_twice, end_tells, root_tells}
use Rattle.kfs_shape.proofs.Parents.{parent_in_range}
use Rattle.kfs_shape.proofs.climbs.tops.Goals as goal

pub loop-init : goal.loop-init
loop-init g c =
    let raw = raw_of c.args.raw.now in
    leads_by_one (parent_of raw) (root_has_none (get (heads_of raw)) (names_of raw)) _ c.in_ok-ancestors.ensures

pub loop-preserved : goal.loop-preserved
loop-preserved g c =
    let raw = raw_of c.args.raw.now in
    let root = root_has_none (get (heads_of raw)) (names_of raw) in
    let power = 2 ^ c.loop.counter in
    let more : 2 ^ (c.loop.counter + 1) ≡ power * 2 = pow-add 2 c.loop.counter 1 in
    let twice : power + power ≡ 2 ^ (c.loop.counter + 1) = omega arith in
    subst (λ p. LeadsBy (parent_of raw) root p c.in_ok-ancestors-2.ancestors.items) twice
    (leads_by_twice (parent_of raw) root power c.loop.ancestors.items c.in_ok-ancestors-2.ancestors.items (λ n. c.in_ok-ancestors-2.ensures n ∙ ap (λ ancestors. ancestor_from ancestors (ancestor_at ancestors n)) c.deref-in-loop.ensures.value) c.loop.invariant)

pub returns-then-end_at_root : goal.returns-then-end_at_root
returns-then-end_at_root g c n =
    let raw = raw_of c.args.raw.now in
    let ends : EndAtRoot c.loop.ancestors.items = subst EndAtRoot c.deref.ensures.value (c.end_at_root.ensures c.if-end_at_root.true) in
    end_tells (parent_of raw) (root_has_none (get (heads_of raw)) (names_of raw)) (2 ^ c.loop.counter) c.loop.ancestors.items ends c.loop.invariant n (reaches_root raw n) (found_is_reach raw n) (reach_is_found raw n)

pub returns : goal.returns
returns g c n =
    let raw = raw_of c.args.raw.now in
    let last : 17 ≡ c.loop.counter = omega arith in
    let enough : 65536 ≤ 2 ^ c.loop.counter = subst (λ k. 65536 ≤ 2 ^ k) last (omega arith) in
    root_tells (parent_of raw) (root_has_none (get (heads_of raw)) (names_of raw)) (parent_in_range raw c.requires.in_range) (2 ^ c.loop.counter) c.loop.ancestors.items enough c.loop.invariant n (reaches_root raw n) (found_is_reach raw n)
    (reach_is_found raw n)
