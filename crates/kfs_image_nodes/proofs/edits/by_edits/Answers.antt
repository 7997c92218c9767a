use Rattle.std.proofs.Common.{rules, ◌≡◌, length, sym, ap, ◌∙◌, ltb, false}
use Rattle.std.specs.Prelude.{is_some}
use Rattle.std.proofs.lemmas.List.Sorted.{IsPartitionPoint-from_clause}
use Rattle.std.proofs.lemmas.Bool.{ltb-true, ltb-false}
use Rattle.kfs_image_nodes.proofs.EditAt.{is_lower, parted, edit_at, other_edit, all_lower}
use Rattle.kfs_image_nodes.proofs.edits.by_edits.Goals as goal

pub returns-in-Some : goal.returns-in-Some
returns-in-Some c =
    let point = IsPartitionPoint-from_clause (is_lower c.args.number) _ _ c.partition_point-place.ensures.partitioned (parted c.args.number c.args.edits.now c.requires.ascend) (λ a r q k. search rules) in
    let looked = c.in-Some.ensures.lookup in
    sym (edit_at c.args.number c.args.edits.now c.partition_point-place.result c.args.before c.requires.ascend point c.in-Some.edit.now (ltb-true _ _ (sym looked.0)) (sym looked.1) c.if-edit-number.true)

pub returns-in_default : goal.returns-in_default
returns-in_default c =
    let point = IsPartitionPoint-from_clause (is_lower c.args.number) _ _ c.partition_point-place.ensures.partitioned (parted c.args.number c.args.edits.now c.requires.ascend) (λ a r q k. search rules) in
    let looked = c.in-Some.ensures.lookup in
    sym (other_edit c.args.number c.args.edits.now c.partition_point-place.result c.args.before c.requires.ascend point c.in-Some.edit.now (ltb-true _ _ (sym looked.0)) (sym looked.1) c.if-edit-number.false)

pub returns-in_default-2 : goal.returns-in_default-2
returns-in_default-2 c =
    let point = IsPartitionPoint-from_clause (is_lower c.args.number) _ _ c.partition_point-place.ensures.partitioned (parted c.args.number c.args.edits.now c.requires.ascend) (λ a r q k. search rules) in
    let past : ltb c.partition_point-place.result (length c.args.edits.now) ≡ false = sym c.get.ensures.lookup.0 ∙ ap is_some c.in_default.is in
    sym (all_lower c.args.number c.args.edits.now c.partition_point-place.result c.args.before point (ltb-false _ _ past))
