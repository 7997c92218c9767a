use Rattle.std.proofs.Common.{◌≡◌, ℕ, ◌+◌, ◌<◌, map, sym, ap, subst, ◌∙◌, arith}
use Rattle.kfs_model.proofs.Counts.{tally, is_tally}
use Rattle.kfs_model.specs.Device.Rules.{place_test}
use Rattle.kfs_model.proofs.DeviceLemmas.Among.{Among, among_all, among_map}
use Rattle.kfs_shape.specs.Counts.{count_at}
use Rattle.kfs_shape.specs.Places.{has_position, lies_at}
use Rattle.kfs_image.specs.Codec.RawImages.{extent_row_of, raw_of}
use Rattle.kfs_shape.proofs.NameCounts.{tally_map}
use Rattle.kfs_shape.proofs.SharedPlaces.{InSpan, all_in_span, among_rows, alone_tells}
use Rattle.kfs_shape.proofs.Tests.{rest_at, taken_in, rest_failed}
use Rattle.kfs_shape.proofs.places.least_shared.Goals as goal

pub loop-row-preserved : goal.loop-row-preserved
loop-row-preserved g c =
    let rows = c.as_slice-rows.result.now in
    let raw = raw_of c.args.raw.now in
    let row = c.row-item.result in
    let first : c.args.raw.now.sizes.first < 4294967296 = omega arith in
    let second : c.args.raw.now.sizes.second < 4294967296 = omega arith in
    let third : c.args.raw.now.sizes.third < 4294967296 = omega arith in
    let spans = all_in_span raw (first, second, third) c.requires.full c.requires.in_tiers in
    let same = ap (map extent_row_of) c.as_slice-rows.ensures.value in
    let among = subst (λ xs. Among (extent_row_of row) xs) same (among_map extent_row_of rows row (among_rows rows c.loop-row.row-index row c.loop-row-test.true c.row-item.is)) in
    let counted : (n : ℕ) → count_at c.in_ok-uses.uses n ≡ tally (has_position n) raw.extents = λ n. c.in_ok-uses.ensures n ∙ is_tally (lies_at n) rows ∙ sym (tally_map (has_position n) extent_row_of rows) ∙ ap (tally (has_position n)) same in
    let holds = alone_tells (extent_row_of row) c.in_ok-uses.uses raw.extents among (among_all InSpan raw.extents (extent_row_of row) spans among) spans counted c.is_alone.result c.is_alone.ensures in
    taken_in _ _ c.loop-row.least c.noted-least.result _ (rest_failed extent_row_of (place_test raw.extents) rows (c.loop-row.row-index + 1)) _ c.noted-least.ensures holds
    (rest_at extent_row_of (place_test raw.extents) rows c.loop-row.row-index row c.loop-row-test.true c.row-item.is) c.loop-row.invariant
