use Rattle.std.proofs.Common.{◌≡◌, ℕ, ◌<◌, ◌≤◌, ◌++◌, false, length, take, drop, map, ltb, sym, ap, ◌∙◌, subst}
use Rattle.std.specs.Prelude.{is_some}
use Rattle.std.specs.List.{AllByRecursion}
use Rattle.std.proofs.lemmas.Bool.{ltb-true, ltb-false}
use Rattle.kfs_pieces.specs.TouchedBlocks.{touches}
use Rattle.kfs_types.specs.Views.{piece_of}
use Rattle.kfs_pieces.specs.BlockLists.{cleared_runs, listed}
use Rattle.kfs_pieces.specs.Lefts.{IsFilled, PieceIsInRange}
use Rattle.kfs_pieces.specs.Parts.{front_len}
use Rattle.kfs_pieces.proofs.FileParts.{front_within}
use Rattle.kfs_pieces.proofs.Lists.{all_drop}
use Rattle.kfs_image_nodes.specs.Change.{reheaded}
use Rattle.kfs_desk.specs.Fill.FillOf.{run_of, size_among}
use Rattle.kfs_desk.proofs.FillLemmas.FileBlocks.{AreInOrder, AreListed, AreZeroed, all_listed, all_zeroed, next_in_order, next_listed, next_zeroed, none_in_order, none_listed, none_zeroed}
use Rattle.kfs_desk.proofs.fill.fill.file_blocks.Goals as goal

pub loop-first-init : goal.loop-first-init
loop-first-init g c =
    let pieces = c.args.pieces.now in
    let heads = reheaded c.args.image.now.heads c.args.nodes.now in
    let no_block = sym c.new-written.ensures.items in
    record {
      order = subst (λ blocks. AreInOrder blocks pieces) no_block (none_in_order pieces c.requires.order);
      whole = c.requires.whole;
      filled = c.requires.filled;
      written = subst (λ blocks. AreListed heads (map piece_of pieces) blocks pieces) no_block (none_listed heads pieces);
      zero = subst (λ runs. AreZeroed (size_among heads) (map piece_of pieces) runs pieces) (sym c.new-zero.ensures.items) (none_zeroed (size_among heads) pieces);
    }

pub split_at-requires : goal.split_at-requires
split_at-requires g c = subst (λ n. n ≤ length c.loop-first.rest.now) (sym c.front_len.ensures) (front_within c.in-Some.first.now.number c.loop-first.rest.now)

pub loop-first-preserved : goal.loop-first-preserved
loop-first-preserved g c =
    let rest = c.loop-first.rest.now in
    let first = c.in-Some.first.now in
    let n = first.number in
    let pieces = map piece_of c.args.pieces.now in
    let heads = reheaded c.args.image.now.heads c.args.nodes.now in
    let old = c.loop-first.written.items in
    let new = c.add_written.new.out.items in
    let some : 0 < length rest = ltb-true _ _ (sym c.in-Some.ensures.item.0) in
    let is = sym c.in-Some.ensures.item.1 in
    let behind : drop (front_len n rest) rest ≡ c.split_at.result.1.now = sym (c.split_at.ensures.back ∙ ap (λ n. drop n rest) c.front_len.ensures) in
    let part : c.split_at.result.0.now ≡ take (front_len n rest) rest = c.split_at.ensures.front ∙ ap (λ n. take n rest) c.front_len.ensures in
    let wrote : new ≡ old ++ map (λ (block : ℕ). (n, block)) (listed 0 (touches (size_among heads n) 0 (map piece_of (take (front_len n rest) rest)))) =
    c.in_ok-add_written.ensures ∙ (λ i. old ++ map (λ (block : ℕ). (n, block)) (listed 0 (touches (c.size_after-size.ensures i) 0 (map piece_of (part i))))) in
    let cleared : c.add_cleared.new.out.items ≡ c.loop-first.zero.items ++ map (run_of n) (cleared_runs (size_among heads n) (map piece_of (take (front_len n rest) rest))) =
    c.in_ok-add_cleared.ensures ∙ (λ i. c.loop-first.zero.items ++ map (run_of n) (cleared_runs (c.size_after-size.ensures i) (map piece_of (part i)))) in
    record {
      order = subst (AreInOrder new) behind (next_in_order rest first some is old new c.loop-first.invariant.order (size_among heads n) wrote);
      whole = subst (AllByRecursion PieceIsInRange) behind (all_drop PieceIsInRange (front_len n rest) rest c.loop-first.invariant.whole);
      filled = subst (AllByRecursion IsFilled) behind (all_drop IsFilled (front_len n rest) rest c.loop-first.invariant.filled);
      written = subst (AreListed heads pieces new) behind (next_listed rest first some is old new c.loop-first.invariant.order heads pieces wrote c.loop-first.invariant.written);
      zero = subst (AreZeroed (size_among heads) pieces c.add_cleared.new.out.items) behind
          (next_zeroed rest first some is old c.loop-first.invariant.order (size_among heads) pieces c.loop-first.zero.items c.add_cleared.new.out.items cleared c.loop-first.invariant.zero);
    }

pub returns-clause-written : goal.returns-clause-written
returns-clause-written g c =
    let none : ltb 0 (length c.loop-first.rest.now) ≡ false = sym c.first.ensures.item.0 ∙ ap is_some c.in_default.is in
    all_listed (reheaded c.args.image.now.heads c.args.nodes.now) (map piece_of c.args.pieces.now) c.loop-first.written.items c.loop-first.rest.now (ltb-false _ _ none) c.loop-first.invariant.written

pub returns-clause-zero : goal.returns-clause-zero
returns-clause-zero g c =
    let none : ltb 0 (length c.loop-first.rest.now) ≡ false = sym c.first.ensures.item.0 ∙ ap is_some c.in_default.is in
    all_zeroed (reheaded c.args.image.now.heads c.args.nodes.now) (map piece_of c.args.pieces.now) c.loop-first.zero.items c.loop-first.rest.now (ltb-false _ _ none) c.loop-first.invariant.zero
