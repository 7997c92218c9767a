use Rattle.std.proofs.Common.{◌≡◌, ℕ, List, subst, ◌∙◌}
use Rattle.std.proofs.lemmas.List.{with_items_is}
use Rattle.std.specs.List.Sorted.{IsPermutation}
use Rattle.kfs_image_nodes.specs.Indexes.{by_node}
use Rattle.kfs_image_nodes.specs.SortedRows.{SayHowOften}
use Rattle.kfs_image_nodes.proofs.HowOften.{said_of}
use Rattle.kfs_image_nodes.proofs.sorted_rows.uplink_counts.Goals as goal

pub returns-clause-said : goal.returns-clause-said
returns-clause-said g c =
    let edits = c.in_ok-edits.edits.items in
    let put = c.put_in_order.new.uplinks in
    let moved : IsPermutation c.args.uplinks.items put = subst (λ (keys : List (ℕ × ℕ)). IsPermutation keys put) c.as_mut_slice.ensures.value c.put_in_order.ensures.permutation in
    let seen : c.as_slice.result.now ≡ put = c.as_slice.ensures.value ∙ with_items_is c.args.uplinks put (c.put_in_order.ensures.len ∙ c.as_mut_slice.ensures.len) in
    let said : SayHowOften by_node put edits = subst (λ (keys : List (ℕ × ℕ)). SayHowOften by_node keys edits) seen c.in_ok-edits.ensures.said in
    said_of by_node _ _ edits moved said
