use Rattle.std.proofs.Common.{ℕ, ◌+◌, List, ◌∷◌, ◌++◌, drop, map, sym, ap, ◌∙◌}
use Rattle.std.proofs.lemmas.List.{drop_more}
use Rattle.std.proofs.lemmas.Simd.{map-map}
use Rattle.kfs_types.specs.declared.plan.NameRow.{NameRow}
use Rattle.kfs_types.specs.Views.{name_row_of}
use Rattle.kfs_maps.proofs.ChunksLemmas.InOrder.{one_made, all_made}
use Rattle.kfs_shape.specs.declared.links.Link.{Link}
use Rattle.kfs_shape.specs.Links.{link_of}
use Rattle.kfs_shape.proofs.links.links_of.Goals as goal

abbrev made : NameRow (List ℕ) → Link
made row = link_of (name_row_of row)

pub loop-row-init : goal.loop-row-init
loop-row-init g c = ap (λ links. links ++ map made c.as_slice-rows.result.now) c.in_ok-links.ensures.items

pub loop-row-preserved : goal.loop-row-preserved
loop-row-preserved g c =
    let rows = c.as_slice-rows.result.now in
    let i = c.loop-row.row-index in
    let row = c.row-item.result in
    let next = drop_more rows i row c.loop-row-test.true ∙ ap (λ first. first ∷ drop (i + 1) rows) (sym c.row-item.is) in
    one_made made rows i row c.loop-row.links.items c.push.new.self.items _ next c.in_ok-push.ensures.items c.loop-row.invariant

pub returns : goal.returns
returns g c =
    all_made made c.as_slice-rows.result.now c.loop-row.row-index c.loop-row.links.items _ c.loop-row-test.false c.loop-row.invariant
    ∙ ap (map made) c.as_slice-rows.ensures.value
    ∙ sym (map-map link_of name_row_of c.args.raw.now.names.items)
