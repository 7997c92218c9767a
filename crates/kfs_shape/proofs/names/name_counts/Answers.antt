use Rattle.std.proofs.Common.{◌==◌, length, get_or, ap, ◌∙◌, arith}
use Rattle.std.proofs.lemmas.List.{get_or_default}
use Rattle.kfs_model.proofs.Counts.{is_tally}
use Rattle.kfs_shape.specs.declared.links.Link.{Link}
use Rattle.kfs_shape.specs.NameCounts.{count_in, leads_to}
use Rattle.kfs_shape.proofs.NameCounts.{zero_counts, counted_rest, counted_end, at_most, no_link}
use Rattle.kfs_shape.proofs.Parents.{written}
use Rattle.kfs_shape.proofs.names.name_counts.Goals as goal

pub loop-link-init : goal.loop-link-init
loop-link-init g c =
    let zeros = c.in_ok-counts.ensures.items_if_clones_equal (λ y copied. copied) in
    record {
      many = omega (arith, c.in_ok-counts.ensures.len, c.in_ok-counts.counts.ok.0);
      counts = λ number within.
          let none = ap (λ counts. count_in counts number) zeros ∙ zero_counts c.args.many number within in
          let all = is_tally (leads_to number) c.args.links.now in
          omega arith;
      few = λ number within. let none = ap (λ counts. count_in counts number) zeros ∙ zero_counts c.args.many number within in omega arith;
    }

pub count_one-requires : goal.count_one-requires
count_one-requires g c within =
    let before = c.deref_mut.ensures in
    let number = (get_or c.args.links.now c.loop-link.link-index no_link).number in
    let few = c.loop-link.invariant.few number (omega (arith, within, ap length before.value, c.loop-link.invariant.many)) in
    omega (arith, few, ap (λ counts. count_in counts number) before.value, c.loop-link-test.true)

pub loop-link-preserved : goal.loop-link-preserved
loop-link-preserved g c =
    let i = c.loop-link.link-index in
    let link : Link = get_or c.args.links.now i no_link in
    let before = c.deref_mut in
    let whole = written c.loop-link.counts.len c.count_one.new.counts before.result.now c.loop-link.counts.items before.ensures.value before.ensures.len c.count_one.ensures.len in
    let all = ap length before.ensures.value ∙ c.loop-link.invariant.many in
    record {
      many = ap length whole ∙ c.count_one.ensures.len ∙ all;
      counts = λ number within.
          let more = ap (λ counts. count_in counts number) whole ∙ c.count_one.ensures.each number (omega (arith, within, all)) in
          let same = ap (λ counts. count_in counts number) before.ensures.value in
          let next = counted_rest (leads_to number) c.args.links.now i link c.loop-link-test.true (get_or_default c.args.links.now i no_link link c.loop-link-test.true) in
          let so_far = c.loop-link.invariant.counts number within in
          omega arith;
      few = λ number within.
          let more = ap (λ counts. count_in counts number) whole ∙ c.count_one.ensures.each number (omega (arith, within, all)) in
          let same = ap (λ counts. count_in counts number) before.ensures.value in
          let one = at_most (link.number == number) in
          let so_far = c.loop-link.invariant.few number within in
          omega arith;
    }

pub returns : goal.returns
returns g c number within =
    let none = counted_end (leads_to number) c.args.links.now c.loop-link.link-index c.loop-link-test.false in
    let all = c.loop-link.invariant.counts number within in
    omega arith
