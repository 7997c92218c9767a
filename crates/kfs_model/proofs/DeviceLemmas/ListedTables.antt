-- The rows of an image make its tables again.
use Rattle.std.proofs.Common.{◌≡◌, ℕ, ◌+◌, List, [], ◌∷◌, map, refl, ap, ◌∙◌, arith}
use Rattle.std.specs.List.{flat_map}
use Rattle.kfs_model.specs.Table.{Order, Table, numbers, pairs}
use Rattle.kfs_model.proofs.TableLaws.{same_entries_table}
use Rattle.kfs_model.specs.Tree.{name_order}
use Rattle.kfs_model.specs.Placement.{Place}
use Rattle.kfs_model.specs.Device.ShownTree.{DeviceImage}
use Rattle.kfs_model.specs.Plan.{keyed_name}
use Rattle.kfs_model.specs.Device.RawImage.{table_of, node_entry, places_in, heads_of, names_of, placement_of}
use Rattle.kfs_model.specs.Device.Listed.{raw_node, name_row, extent_row, rows_of}
use Rattle.kfs_model.proofs.DeviceLemmas.RowTables.{sorted_entries}

module _ {K X Z : Type 0} (entry : Z → K × X) (row : K × X → Z) (back : (e : K × X) → entry (row e) ≡ e) where
  entries_back : (es : List (K × X)) → map entry (map row es) ≡ es
  entries_back [] = refl
  entries_back (e ∷ es) = λ i. back e i ∷ entries_back es i

table_back : {K X : Type 0} (R : Order K) (t : Table R X) (es : List (K × X)) → es ≡ t.entries → table_of R es ≡ t
table_back R t es same = ap (table_of R) same ∙ same_entries_table _ t (sorted_entries R t.entries t.sorted)

add_none : (n : ℕ) → n + 0 ≡ n
add_none n = omega arith

module _ (image : DeviceImage) where
  pub heads_back : heads_of (rows_of image) ≡ image.heads
  heads_back = table_back numbers image.heads _ (entries_back node_entry raw_node (λ e. refl) image.heads.entries)

  pub names_back : names_of (rows_of image) ≡ image.names
  names_back = table_back name_order image.names _ (entries_back keyed_name name_row (λ e. refl) image.names.entries)

  places_back : (es : List ((ℕ × ℕ) × Place)) → flat_map places_in (map (extent_row image.devices) es) ≡ es
  places_back [] = refl
  places_back (e ∷ es) = λ i. ((e.0.0, add_none e.0.1 i), record { tier = e.1.tier; place = add_none e.1.place i }) ∷ places_back es i

  pub placement_back : placement_of (rows_of image) ≡ image.placement
  placement_back = table_back (pairs numbers numbers) image.placement _ (places_back image.placement.entries)
