use Rattle.std.proofs.Common.{◌≡◌, ◌*◌, sym, ap, ◌∙◌, length, ◌/◌, subst, ◌-◌}
use Rattle.kfs_pieces.specs.ByteRanges.{last_origin, merged}
use Rattle.kfs_pieces.proofs.LastOrigin.{halves_in_order, halves_say, take_rest}
use Rattle.std.specs.List.{AllByRecursion}
use Rattle.kfs_pieces.proofs.FewRanges.{halves_are_few, none_are_few}
use Rattle.kfs_pieces.specs.RangeCounts.{filled_count}
use Rattle.kfs_pieces.specs.Made.{IsFit}
use Rattle.kfs_pieces.proofs.Fits.{merged_fit}
use Rattle.kfs_pieces.proofs.Lists.{all_take, all_drop}
use Rattle.kfs_pieces.proofs.merge.+last_of_all.Goals as goal

pub returns-in_ok-out-in_default-clause-order : goal.returns-in_ok-out-in_default-clause-order
returns-in_ok-out-in_default-clause-order g t c =
    halves_in_order c.args.ranges.now c.in_ok-earlier-in_default.earlier.items c.in_ok-later-in_default.later.items c.in_ok-out-in_default.out.items (length c.args.ranges.now / 2)
    (cc (c.in_ok-out-in_default.ensures, c.as_slice.ensures.value, c.as_slice-in_default.ensures.value)) c.in_ok-earlier-in_default.ensures.order c.in_ok-later-in_default.ensures.order

pub returns-in_ok-out-in_default-clause-says : goal.returns-in_ok-out-in_default-clause-says
returns-in_ok-out-in_default-clause-says g t c =
    halves_say c.args.ranges.now c.in_ok-earlier-in_default.earlier.items c.in_ok-later-in_default.later.items c.in_ok-out-in_default.out.items (length c.args.ranges.now / 2)
    (cc (c.in_ok-out-in_default.ensures, c.as_slice.ensures.value, c.as_slice-in_default.ensures.value)) c.in_ok-earlier-in_default.ensures.order c.in_ok-later-in_default.ensures.order
    c.in_ok-earlier-in_default.ensures.says
    (λ n p. c.in_ok-later-in_default.ensures.says n p ∙ ap (λ xs. last_origin xs n p) (take_rest c.args.ranges.now (length c.args.ranges.now / 2)))

pub returns-in_ok-out-in_default-clause-fit : goal.returns-in_ok-out-in_default-clause-fit
returns-in_ok-out-in_default-clause-fit g t c fit =
    let is : c.in_ok-out-in_default.out.items ≡ merged c.in_ok-earlier-in_default.earlier.items c.in_ok-later-in_default.later.items = cc (c.in_ok-out-in_default.ensures, c.as_slice.ensures.value, c.as_slice-in_default.ensures.value) in
    let half = length c.args.ranges.now / 2 in
    subst (AllByRecursion IsFit) (sym is) (merged_fit c.in_ok-later-in_default.later.items c.in_ok-earlier-in_default.earlier.items
    (c.in_ok-earlier-in_default.ensures.fit (all_take IsFit half c.args.ranges.now fit))
    (c.in_ok-later-in_default.ensures.fit (all_take IsFit (length c.args.ranges.now - half) _ (all_drop IsFit half c.args.ranges.now fit))))

pub returns-in-empty-clause-few : goal.returns-in-empty-clause-few
returns-in-empty-clause-few g t c = none_are_few c.new.result.items (2 * filled_count c.args.ranges.now) c.new.ensures.items

pub returns-in_ok-out-in_default-clause-few : goal.returns-in_ok-out-in_default-clause-few
returns-in_ok-out-in_default-clause-few g t c =
    let half = length c.args.ranges.now / 2 in
    halves_are_few c.args.ranges.now c.in_ok-earlier-in_default.earlier.items c.in_ok-later-in_default.later.items c.in_ok-out-in_default.out.items half
    (cc (c.in_ok-out-in_default.ensures, c.as_slice.ensures.value, c.as_slice-in_default.ensures.value)) c.in_ok-earlier-in_default.ensures.order c.in_ok-later-in_default.ensures.order
    c.in_ok-earlier-in_default.ensures.few
    (rw (take_rest c.args.ranges.now half) at c.in_ok-later-in_default.ensures.few)
