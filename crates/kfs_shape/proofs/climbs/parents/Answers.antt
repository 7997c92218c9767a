use Rattle.std.proofs.Common.{◌+◌, length, get_or, ap, ◌∙◌, ⊎_elim, arith}
use Rattle.std.proofs.lemmas.Bool.{cases_lt}
use Rattle.std.proofs.lemmas.List.{get_or_default}
use Rattle.kfs_model.specs.Sight.{is_directory}
use Rattle.kfs_model.specs.Table.{option_or}
use Rattle.kfs_shape.specs.declared.links.Link.{Link}
use Rattle.kfs_shape.specs.Climbs.{ancestor_at}
use Rattle.kfs_shape.specs.Heads.{head_at}
use Rattle.kfs_image.specs.Codec.RawImages.{raw_of}
use Rattle.kfs_shape.proofs.NameCounts.{no_link}
use Rattle.kfs_shape.proofs.Parents.{left_to, only_none, written, leads_nowhere, first_left, next_left, none_left, nowhere, all_below}
use Rattle.kfs_shape.proofs.climbs.parents.Goals as goal

pub loop-link-init : goal.loop-link-init
loop-link-init g c =
    let links = c.args.links.now in
    let raw = raw_of c.args.raw.now in
    let whole = written c.in_ok-ancestors.ancestors.len c.lead_first.new.ancestors c.deref_mut.result.now c.in_ok-ancestors.ancestors.items c.deref_mut.ensures.value c.deref_mut.ensures.len c.lead_first.ensures.len in
    let all = c.deref_mut.ensures.len ∙ c.in_ok-ancestors.ensures.len in
    record {
      many = ap length whole ∙ c.lead_first.ensures.len ∙ all;
      leads = λ n within.
          first_left raw links c.requires.links c.requires.ascend n (ancestor_at c.deref_mut.result.now n) _
          (ap (λ ancestors. ancestor_at ancestors n) (c.deref_mut.ensures.value ∙ c.in_ok-ancestors.ensures.items_if_clones_equal (only_none _ (λ v clone. clone))) ∙ leads_nowhere c.span-many.result n within)
          (ap (λ ancestors. ancestor_at ancestors n) whole ∙ c.lead_first.ensures.each n (omega arith));
    }

pub loop-link-preserved : goal.loop-link-preserved
loop-link-preserved g c =
    let links = c.args.links.now in
    let raw = raw_of c.args.raw.now in
    let i = c.loop-link.link-index in
    let link : Link = get_or links i no_link in
    let before = c.deref_mut-in-loop-link in
    let whole = written c.loop-link.ancestors.len c.lead_by_name.new.ancestors before.result.now c.loop-link.ancestors.items before.ensures.value before.ensures.len c.lead_by_name.ensures.len in
    let all = ap length before.ensures.value ∙ c.loop-link.invariant.many in
    record {
      many = ap length whole ∙ c.lead_by_name.ensures.len ∙ all;
      leads = λ n within.
          ap (λ ancestors. option_or (ancestor_at ancestors n) (left_to raw links (i + 1) n)) whole
          ∙ next_left raw links i link c.loop-link-test.true (get_or_default links i no_link link c.loop-link-test.true) n (ancestor_at before.result.now n) (ancestor_at c.lead_by_name.new.ancestors n) (is_directory (head_at c.args.headers.now link.number))
          (ap is_directory (c.requires.shown link.number)) (c.lead_by_name.ensures.each n (omega arith))
          ∙ ap (λ ancestors. option_or (ancestor_at ancestors n) (left_to raw links i n)) before.ensures.value
          ∙ c.loop-link.invariant.leads n within;
    }

pub returns : goal.returns
returns g c n =
    let raw = raw_of c.args.raw.now in
    ⊎_elim
    (λ within. none_left raw c.args.links.now c.loop-link.link-index n c.loop-link-test.false (ancestor_at c.loop-link.ancestors.items n) (c.loop-link.invariant.leads n within))
    (λ past. nowhere raw c.loop-link.ancestors.items c.span-many.result n (all_below c.args.raw.now c.span-many.result c.as_slice.result.now c.as_slice.ensures.value c.span-many.ensures.rows) c.span-many.ensures.root c.loop-link.invariant.many past)
    (cases_lt n c.span-many.result)
