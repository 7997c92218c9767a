use Rattle.std.proofs.Common.{rules, ◌≡◌, ◌<◌, ◌≤◌, ◌+◌, ◌*◌, List, [], ◌∷◌, length, take, drop, map, false, refl, sym, ap, ◌∙◌, ltb, arith, subst}
use Rattle.std.specs.Prelude.{is_some}
use Rattle.std.specs.List.{AllByRecursion}
use Rattle.std.proofs.lemmas.Bool.{ltb-true, ltb-false}
use Rattle.kfs_pieces.specs.TouchedBlocks.{counted, touches}
use Rattle.kfs_types.specs.Views.{piece_of}
use Rattle.kfs_types.specs.declared.plan.Piece.{Piece}
use Rattle.kfs_pieces.specs.Parts.{front_len}
use Rattle.kfs_pieces.specs.Sizes.{length_after}
use Rattle.kfs_pieces.specs.Lefts.{IsFilled, PieceIsInRange}
use Rattle.kfs_pieces.proofs.FileParts.{Counts, IsLow, counts_first, counts_last, counts_next, front_within, low_next}
use Rattle.kfs_pieces.proofs.Lists.{all_drop}
use Rattle.kfs_pieces.proofs.blocks.need_of.Goals as goal

pub loop-first-init : goal.loop-first-init
loop-first-init c = record {
  low = (0, (let e : 0 ≤ 4294967296 = omega arith in e), c.requires.order, (let f : 0 ≤ 0 * 2097152 = omega arith in f));
  whole = c.requires.whole;
  filled = c.requires.filled;
  counts = counts_first c.args.sizes.now c.args.pieces.now;
}

pub split_at-requires : goal.split_at-requires
split_at-requires c = subst (λ n. n ≤ length c.loop-first.rest.now) (sym c.front_len.ensures) (front_within c.in-Some.first.now.number c.loop-first.rest.now)

pub overflow_add-total : goal.overflow_add-total
overflow_add-total c =
    let few = c.blocks_written-total.ensures.few in
    let first = c.in-Some.ensures.item in
    let wide : c.in-Some.first.now.number < 4294967296 = search rules in
    let (k, limit, order, small) = low_next c.loop-first.rest.now c.in-Some.first.now (ltb-true _ _ (sym first.0)) (sym first.1) c.loop-first.total c.blocks_written-total.result wide few c.loop-first.invariant.low in
    omega arith

pub loop-first-preserved : goal.loop-first-preserved
loop-first-preserved c =
    let rest = c.loop-first.rest.now in
    let blocks = c.blocks_written-total.result in
    let first = c.in-Some.first.now in
    let item = c.in-Some.ensures.item in
    let some : 0 < length rest = ltb-true _ _ (sym item.0) in
    let wide : first.number < 4294967296 = search rules in
    let behind : drop (front_len first.number rest) rest ≡ c.split_at.result.1.now = sym (c.split_at.ensures.back ∙ ap (λ n. drop n rest) c.front_len.ensures) in
    let part : c.split_at.result.0.now ≡ take (front_len first.number rest) rest = c.split_at.ensures.front ∙ ap (λ n. take n rest) c.front_len.ensures in
    let count : blocks ≡ counted 0 (touches (length_after c.args.sizes.now first.number) 0 (map piece_of (take (front_len first.number rest) rest))) =
    c.blocks_written-total.ensures.counts ∙ (λ i. counted 0 (touches (c.size_after.ensures i) 0 (map piece_of (part i)))) in
    record {
      low = subst (IsLow (c.loop-first.total + blocks)) behind (low_next rest first some (sym item.1) c.loop-first.total blocks wide c.blocks_written-total.ensures.few c.loop-first.invariant.low);
      whole = subst (AllByRecursion PieceIsInRange) behind (all_drop PieceIsInRange (front_len first.number rest) rest c.loop-first.invariant.whole);
      filled = subst (AllByRecursion IsFilled) behind (all_drop IsFilled (front_len first.number rest) rest c.loop-first.invariant.filled);
      counts = subst (Counts c.args.sizes.now c.args.pieces.now (c.loop-first.total + blocks)) behind
          (counts_next rest first some (sym item.1) c.args.sizes.now c.args.pieces.now c.loop-first.total blocks c.loop-first.invariant.low count c.loop-first.invariant.counts);
    }

pub returns : goal.returns
returns c after swept =
    let none : ltb 0 (length c.loop-first.rest.now) ≡ false = sym c.first.ensures.item.0 ∙ ap is_some c.in_default.is in
    counts_last c.args.sizes.now c.args.pieces.now c.loop-first.total c.loop-first.rest.now (empty c.loop-first.rest.now (ltb-false _ _ none)) c.loop-first.invariant.counts after swept.right swept.listed
  where
    empty : (ps : List Piece) → length ps ≤ 0 → ps ≡ []
    empty [] short = refl
    empty (p ∷ ps) short = absurd (omega arith)
