use Rattle.std.proofs.Common.{T, All, sym, ap, subst, ◌∙◌}
use Rattle.std.specs.FinMap.Entries.{is_sorted}
use Rattle.kfs_model.specs.Spelling.{IsName}
use Rattle.kfs_model.specs.Tree.{name_order}
use Rattle.kfs_maps.specs.Chunks.Tables.{table}
use Rattle.kfs_image_nodes.specs.NodeEdits.{IsNumber}
use Rattle.kfs_image_nodes.specs.SortedRows.{name_entries}
use Rattle.kfs_image.proofs.RawLemmas.RawRows.{directories_numbered, names_sorted, names_made, names_are_names}
use Rattle.kfs_image.proofs.raw.contents.raw_shape.Goals as goal

pub of_rows-requires-clause-sorted : goal.of_rows-requires-clause-sorted
of_rows-requires-clause-sorted g c = subst (λ rows. T (is_sorted name_order.compare (name_entries rows))) (sym c.as_slice.ensures.value) (names_sorted c.args.raw.now c.requires.well_formed)

pub of_rows-requires-clause-named : goal.of_rows-requires-clause-named
of_rows-requires-clause-named g c = subst (All (λ row. IsName row.name)) (sym c.as_slice.ensures.value) (names_are_names c.args.raw.now c.requires.spelled)

pub of_rows-requires-clause-numbered : goal.of_rows-requires-clause-numbered
of_rows-requires-clause-numbered g c = subst (All (λ row. IsNumber row.dir)) (sym c.as_slice.ensures.value) (directories_numbered c.args.raw.now c.requires.well_formed)

pub returns : goal.returns
returns g c =
    c.in_ok-shape.ensures
    ∙ (λ i. record {
      heads = c.requires.headers i;
      names = (ap (λ rows. table name_order (name_entries rows)) c.as_slice.ensures.value ∙ names_made c.args.raw.now c.requires.well_formed) i;
    })
