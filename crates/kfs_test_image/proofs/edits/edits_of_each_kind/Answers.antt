-- Each edit fits.
use Rattle.std.proofs.Common.{rules, ◌≡◌, ◌<◌, true, ap, ◌∙◌, lt-ltb, subst, sym, arith}
use Rattle.std.specs.Prelude.{IfOk, vec_len}
use Rattle.kfs_model.specs.Limits.{block_size}
use Rattle.kfs_model.specs.Table.{get}
use Rattle.kfs_image_nodes.specs.Contents.{Contents}
use Rattle.kfs_image.specs.Net.{blocks_in, is_block}
use Rattle.kfs_test_image.specs.Edits.{each_kind}
use Rattle.kfs_test_image.proofs.EachEdit.{can_edit, made_ok}
use Rattle.kfs_test_image.proofs.edits.edits_of_each_kind.Goals as goal

pub returns : goal.returns
returns g c =
    let image = c.args.image.now in
    let many : c.block_count.result ≡ blocks_in (get image.heads 5) = c.block_count.ensures ∙ ap blocks_in c.header.ensures in
    let inside : is_block image.heads (5, 1) ≡ true = lt-ltb _ _ (subst (λ count. 1 < count) many (omega (arith, c.if-block_count-le1.false))) in
    let whole : vec_len c.in_ok-bytes.bytes ≡ block_size = search rules in
    let listed : IfOk c.of_each_kind.result (λ edits. edits.items ≡ each_kind c.header-2.result c.in_ok-new.field-0 c.target-target.result (record { tier = 0; place = 2 }) c.in_ok-bytes.bytes) = search rules in
    made_ok image _ c.of_each_kind.result c.ok.result c.ok.ensures.value listed
    (can_edit image c.shape-shape.ensures.lawful _ c.in_ok-new.field-0 _ _ c.in_ok-bytes.bytes c.header-2.ensures (c.target-target.ensures ∙ ap (λ (contents : Contents). get contents.names (1, c.in_ok-new.field-0)) (c.deref.ensures ∙ c.shape.ensures.shape))
    (c.is_place_free-is_free.ensures.in_tier c.if-not-is_free.false) (c.is_place_free-is_free.ensures.free c.if-not-is_free.false) inside whole)
