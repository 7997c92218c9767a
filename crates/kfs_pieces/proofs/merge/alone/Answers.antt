use Rattle.std.proofs.Common.{◌*◌, [], ◌∷◌, ◌++◌, ap, ◌∙◌}
use Rattle.kfs_pieces.proofs.FewRanges.{none_are_few, one_is_few}
use Rattle.kfs_pieces.specs.RangeCounts.{filled_count}
use Rattle.kfs_pieces.proofs.merge.alone.Goals.{then-range+in_ok-push, else-range}
use Rattle.kfs_pieces.proofs.merge.alone.Goals as goal

pub returns-clause-few : goal.returns-clause-few
returns-clause-few g c = elim c.if-range.branch [
  | then-range+in_ok-push w ↦ one_is_few c.args.range.now c.if-range.out.items (ap (λ out. out.items) w.out-is ∙ w.in_ok-push.ensures.items ∙ ap (λ xs. xs ++ c.args.range.now ∷ []) c.new-out.ensures.items) w.if-range.true
  | else-range w ↦ none_are_few c.if-range.out.items (2 * filled_count (c.args.range.now ∷ [])) (ap (λ out. out.items) w.out-is ∙ c.new-out.ensures.items)
]
