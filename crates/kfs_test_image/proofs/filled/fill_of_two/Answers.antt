-- The places are free and not one, and the file has two blocks after the net.
use Rattle.std.proofs.Common.{rules, ◌≡◌, ◌≢◌, ◌<◌, true, ap, ◌∙◌, lt-ltb, subst, arith}
use Rattle.std.specs.Prelude.{vec_len}
use Rattle.kfs_model.specs.Limits.{block_size}
use Rattle.kfs_model.specs.Placement.{Place}
use Rattle.kfs_model.specs.Table.{get}
use Rattle.kfs_image_nodes.specs.Change.{reheaded}
use Rattle.kfs_image.specs.Net.{blocks_in, is_block}
use Rattle.kfs_image.proofs.FilledImages.{still_placed}
use Rattle.kfs_test_image.proofs.TwoBlocks.{both_fit, filled_ok}
use Rattle.kfs_test_image.proofs.filled.fill_of_two.Goals as goal

pub returns : goal.returns
returns g c =
    let image = c.args.image.now in
    let net = c.args.net.now in
    let heads = reheaded image.heads net.nodes.items in
    let many : c.block_count.result ≡ blocks_in (get heads 5) = c.block_count.ensures ∙ ap blocks_in (c.header_after.ensures ∙ ap (λ rows. get (reheaded image.heads rows) 5) (c.in-Ok.ensures ∙ c.as_slice.ensures.value)) in
    let two : 1 < blocks_in (get heads 5) = subst (λ count. 1 < count) many (omega (arith, c.if-block_count-le1.false)) in
    let one : 0 < blocks_in (get heads 5) = omega (arith, two) in
    let block_0 : is_block heads (5, 0) ≡ true = lt-ltb _ _ one in
    let block_1 : is_block heads (5, 1) ≡ true = lt-ltb _ _ two in
    let place : Place = record { tier = 0; place = 2 } in
    let other : Place = record { tier = 0; place = 1 } in
    let whole : vec_len c.in_ok-bytes.bytes ≡ block_size = search rules in
    let later_whole : vec_len c.in_ok-later.later ≡ block_size = search rules in
    let differ : place ≢ other = λ same. absurd (omega (arith, ap (λ (p : Place). p.place) same)) in
    filled_ok net image _ c.of_two.result c.ok.result c.ok.ensures.value c.of_two.ensures c.requires
    (both_fit (record { number = 5; block = 0; place = place; bytes = c.in_ok-bytes.bytes }) (record { number = 5; block = 1; place = other; bytes = c.in_ok-later.later }) differ (still_placed net image)
    (record {
      in_tier = c.is_place_free-is_free.ensures.in_tier c.if-not-is_free.false;
      free = c.is_place_free-is_free.ensures.free c.if-not-is_free.false;
      of_file = block_0;
      whole = whole;
    })
    (record {
      in_tier = c.is_place_free-is_other_free.ensures.in_tier c.if-not-is_other_free.false;
      free = c.is_place_free-is_other_free.ensures.free c.if-not-is_other_free.false;
      of_file = block_1;
      whole = later_whole;
    }))
