use Rattle.std.proofs.Common.{arith}
use Rattle.kfs_model.proofs.Counts.{is_tally}
use Rattle.kfs_shape.specs.Places.{has_position, lies_at}
use Rattle.kfs_image.specs.Codec.RawImages.{extent_row_of}
use Rattle.kfs_shape.proofs.NameCounts.{none_counted, counted_end, counted_rest, at_most}
use Rattle.kfs_shape.proofs.places.place_counts.Goals as goal

pub loop-row-init : goal.loop-row-init
loop-row-init g c = record {
  counts = λ n.
      let none = none_counted c.new-uses.result c.new-uses.ensures.empty n in
      let all = is_tally (lies_at n) c.args.rows.now in
      omega arith;
  few = λ n. let none = none_counted c.new-uses.result c.new-uses.ensures.empty n in omega arith;
}

pub count_places-requires : goal.count_places-requires
count_places-requires g c n = let so_far = c.loop-row.invariant.few n in omega arith

pub loop-row-preserved : goal.loop-row-preserved
loop-row-preserved g c = record {
  counts = λ n.
      let more = c.in_ok-count_places.ensures n in
      let next = counted_rest (lies_at n) c.args.rows.now c.loop-row.row-index _ c.loop-row-test.true c.row-item.is in
      let so_far = c.loop-row.invariant.counts n in
      omega arith;
  few = λ n.
      let more = c.in_ok-count_places.ensures n in
      let one = at_most (has_position n (extent_row_of c.row-item.result)) in
      let so_far = c.loop-row.invariant.few n in
      omega arith;
}

pub returns : goal.returns
returns g c n =
    let none = counted_end (lies_at n) c.args.rows.now c.loop-row.row-index c.loop-row-test.false in
    let all = c.loop-row.invariant.counts n in
    omega arith
