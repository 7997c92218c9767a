-- The place is free and in its tier, and the block is one of the file's.
use Rattle.std.proofs.Common.{◌≡◌, true, ap, ◌∙◌, lt-ltb, subst, ◌<◌, arith}
use Rattle.kfs_model.specs.Table.{get}
use Rattle.kfs_image.specs.Net.{blocks_in, is_block}
use Rattle.kfs_test_image.proofs.OneEdit.{can_lay}
use Rattle.kfs_test_image.proofs.edits.mapping.Goals as goal

pub returns-then-from-block_count : goal.returns-then-from-block_count
returns-then-from-block_count g c =
    let image = c.args.image.now in
    let many : c.block_count.result ≡ blocks_in (get image.heads c.args.number) = c.block_count.ensures ∙ ap blocks_in c.header.ensures in
    let inside : is_block image.heads (c.args.number, c.args.block) ≡ true = lt-ltb _ _ (subst (λ count. c.args.block < count) many (omega (arith, c.from.ensures, c.if-from-block_count.true))) in
    can_lay image c.shape-shape.ensures.lawful c.args.number c.args.block (record { tier = c.args.tier; place = c.args.place }) (c.is_place_free-is_free.ensures.in_tier c.if-is_free.true) (c.is_place_free-is_free.ensures.free c.if-is_free.true) inside
