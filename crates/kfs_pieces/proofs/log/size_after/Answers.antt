use Rattle.std.proofs.Common.{rules, ◌≡◌, length, sym, ap, ◌∙◌, ltb, false}
use Rattle.std.specs.Prelude.{is_some}
use Rattle.std.proofs.lemmas.List.Sorted.{IsPartitionPoint-from_clause}
use Rattle.std.proofs.lemmas.Bool.{ltb-true, ltb-false}
use Rattle.kfs_pieces.proofs.SizeOrder.{is_smaller, parted, size_at, other_size, all_smaller}
use Rattle.kfs_pieces.proofs.log.size_after.Goals as goal

pub returns-then-size-number : goal.returns-then-size-number
returns-then-size-number c =
    let point = IsPartitionPoint-from_clause (is_smaller c.args.number) _ _ c.partition_point-place.ensures.partitioned (parted c.args.number 0 c.args.sizes.now c.requires) (λ a r q k. search rules) in
    let looked = c.in-Some.ensures.lookup in
    sym (size_at c.args.number 0 c.args.sizes.now c.partition_point-place.result c.requires point c.in-Some.size.now (ltb-true _ _ (sym looked.0)) (sym looked.1) c.if-size-number.true)

pub returns-else-size-number : goal.returns-else-size-number
returns-else-size-number c =
    let point = IsPartitionPoint-from_clause (is_smaller c.args.number) _ _ c.partition_point-place.ensures.partitioned (parted c.args.number 0 c.args.sizes.now c.requires) (λ a r q k. search rules) in
    let looked = c.in-Some.ensures.lookup in
    sym (other_size c.args.number 0 c.args.sizes.now c.partition_point-place.result c.requires point c.in-Some.size.now (ltb-true _ _ (sym looked.0)) (sym looked.1) c.if-size-number.false)

pub returns-in-None : goal.returns-in-None
returns-in-None c =
    let point = IsPartitionPoint-from_clause (is_smaller c.args.number) _ _ c.partition_point-place.ensures.partitioned (parted c.args.number 0 c.args.sizes.now c.requires) (λ a r q k. search rules) in
    let past : ltb c.partition_point-place.result (length c.args.sizes.now) ≡ false = sym c.get.ensures.lookup.0 ∙ ap is_some c.in-None.is in
    sym (all_smaller c.args.number c.args.sizes.now c.partition_point-place.result point (ltb-false _ _ past))
