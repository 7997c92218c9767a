use Rattle.std.proofs.Common.{◌∙◌, ap, arith, map}
use Rattle.kfs_model.specs.Plan.{ArePieces}
use Rattle.kfs_model.specs.Run.{marked, over_marks, run}
use Rattle.kfs_model.proofs.Ends.{each_end}
use Rattle.kfs_types.specs.Views.{entry_of, piece_of}
use Rattle.kfs_pieces.specs.Made.{AreMade}
use Rattle.kfs_pieces.specs.Sizes.{AreSizes, AreSwept}
use Rattle.std.proofs.lemmas.List.{length-map}
use Rattle.kfs_pieces.specs.RangeCounts.{filled_count}
use Rattle.kfs_pieces.specs.Sizes.{length_after, reach_in}
use Rattle.kfs_pieces.proofs.FewRanges.{few_in_log}
use Rattle.kfs_pieces.proofs.Listed.{pieces_are_listed}
use Rattle.kfs_pieces.proofs.LogMade.{log_made, of_value}
use Rattle.kfs_pieces.proofs.log.sweep.Goals as goal

pub returns-clause-right : goal.returns-clause-right
returns-clause-right g c source within client before tree opens =
    let entries = map (entry_of source) c.args.entries.now in
    let sizes = c.args.sizes.now in
    let pieces = map piece_of c.in_ok-out.out.items in
    let ranges = c.as_slice.result.now in
    each_end (run over_marks client before (marked tree) entries) (λ after. AreSizes tree entries after sizes → AreSwept sizes after pieces) (λ after ran all.
    let made = log_made source sizes c.args.entries.now tree after ranges within all (c.as_slice.ensures.value ∙ c.in_ok-ranges.ensures.made) in
    let right = of_value (λ after. AreMade tree entries after ranges → ArePieces after pieces) (run over_marks client before (marked tree) entries) after ran (c.in_ok-out.ensures.right client before tree entries opens) made in
    record { right = right; listed = pieces_are_listed client before tree entries after opens ran sizes all pieces right.said })

pub returns-clause-few : goal.returns-clause-few
returns-clause-few g c =
    let ranges = ap filled_count (c.as_slice.ensures.value ∙ c.in_ok-ranges.ensures.made) in
    let few = few_in_log c.args.sizes.now (length_after c.args.sizes.now) (map reach_in c.args.entries.now) in
    omega (arith, c.in_ok-out.ensures.few, ranges, few, length-map c.args.entries.now reach_in)
