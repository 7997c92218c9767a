use Rattle.std.proofs.Common.{◌<◌, ◌+◌, ℕ, Option, Some, None, sym, ap, subst, ◌∙◌, arith}
use Rattle.std.specs.Prelude.{unwrap_or}
use Rattle.kfs_maps.proofs.ChunksLemmas.Tables.{get-table}
use Rattle.kfs_image_nodes.specs.Indexes.{by_node}
use Rattle.kfs_image_nodes.specs.NameEdits.{AreMovedBy}
use Rattle.kfs_image_nodes.proofs.OneEdit.{moved_in, moved_out}
use Rattle.kfs_image_nodes.proofs.tallies.edits_of_one.Goals as goal

pub one_less-requires-in-Some-None : goal.one_less-requires-in-Some-None
one_less-requires-in-Some-None g c =
    subst (λ o. 0 < unwrap_or o 0)
    (get-table by_node c.args.uplinks.now (c.in-Some-None.number, c.args.dir) ∙ sym (c.copied-ways-in-Some-None.ensures ∙ c.get_near-in-Some-None.ensures))
    (c.requires.uplinks c.in-Some-None.number c.in-Some-None.is-0)

pub returns-in_ok-edits-in-None-Some : goal.returns-in_ok-edits-in-None-Some
returns-in_ok-edits-in-None-Some g c =
    let number = c.in-None-Some.number in
    let names = c.copied-names.ensures ∙ c.get.ensures in
    let ways = c.copied-ways.ensures ∙ c.get_near.ensures ∙ sym (get-table by_node c.args.uplinks.now (number, c.args.dir)) in
    let made = c.in_ok-edits-in-None-Some.ensures in
    let moved = moved_in c.args.counts.now c.args.uplinks.now c.args.dir number c.in_ok-one_more-in-None-Some.field-0 c.in_ok-one_more-in-None-Some-2.field-0 c.in_ok-edits-in-None-Some.edits
    (omega (arith, c.if-dir-eq0.false), omega (arith, c.if-dir-gt-GREATEST_NUMBER.false))
    c.in_ok-one_more-in-None-Some-2.ensures.positive made.counts made.uplinks
    (c.in_ok-one_more-in-None-Some.ensures.more ∙ ap (λ o. unwrap_or o 0 + 1) names)
    (c.in_ok-one_more-in-None-Some-2.ensures.more ∙ ap (λ o. unwrap_or o 0 + 1) ways) in
    subst (λ (to : Option ℕ). AreMovedBy c.args.counts.now c.args.uplinks.now c.args.dir c.args.from to c.in_ok-edits-in-None-Some.edits) (sym c.in-None-Some.is-1)
    (subst (λ (from : Option ℕ). AreMovedBy c.args.counts.now c.args.uplinks.now c.args.dir from (Some number) c.in_ok-edits-in-None-Some.edits) (sym c.in-None-Some.is-0) moved)

pub returns-in_ok-edits-in-Some-None : goal.returns-in_ok-edits-in-Some-None
returns-in_ok-edits-in-Some-None g c =
    let number = c.in-Some-None.number in
    let names = c.copied-names.ensures ∙ c.get.ensures in
    let ways = c.copied-ways-in-Some-None.ensures ∙ c.get_near-in-Some-None.ensures ∙ sym (get-table by_node c.args.uplinks.now (number, c.args.dir)) in
    let made = c.in_ok-edits-in-Some-None.ensures in
    let moved = moved_out c.args.counts.now c.args.uplinks.now c.args.dir number c.one_less.result c.one_less-in-Some-None.result c.in_ok-edits-in-Some-None.edits
    (omega (arith, c.if-dir-eq0.false), omega (arith, c.if-dir-gt-GREATEST_NUMBER.false))
    c.one_less-in-Some-None.ensures.positive made.counts made.uplinks
    (c.one_less.ensures.less ∙ ap (λ o. unwrap_or o 0) names)
    (c.one_less-in-Some-None.ensures.less ∙ ap (λ o. unwrap_or o 0) ways) in
    subst (λ (to : Option ℕ). AreMovedBy c.args.counts.now c.args.uplinks.now c.args.dir c.args.from to c.in_ok-edits-in-Some-None.edits) (sym c.in-Some-None.is-1)
    (subst (λ (from : Option ℕ). AreMovedBy c.args.counts.now c.args.uplinks.now c.args.dir from None c.in_ok-edits-in-Some-None.edits) (sym c.in-Some-None.is-0) moved)
