-- The rows of a lawful image's state fit the format.
use Rattle.std.proofs.Common.{◌≡◌, ℕ, ◌<◌, ◌^◌, List, length, map, Option, Some, None, option_map, refl, sym, ap, subst, ◌∙◌, arith}
use Rattle.std.specs.Prelude.{IsTrue}
use Rattle.std.specs.List.{AllByRecursion}
use Rattle.std.proofs.lemmas.List.{length-map}
use Rattle.kfs_model.specs.Header.{Kind, File, Directory, Header}
use Rattle.kfs_model.specs.Sight.{is_directory}
use Rattle.kfs_model.specs.Table.{Table, numbers, pairs, get}
use Rattle.kfs_model.specs.Tree.{Node, headers, node_header, node_over, name_order, links_of, body_over}
use Rattle.kfs_model.specs.Spelling.{IsNameRow}
use Rattle.kfs_model.specs.Placement.{Place}
use Rattle.kfs_model.proofs.Heads.{get-headers}
use Rattle.kfs_model.proofs.TableLaws.{get-mapped}
use Rattle.kfs_model.specs.Device.ShownTree.{DeviceImage, IsLawful, file_bytes, shown_tree}
use Rattle.kfs_model.specs.Device.Listed.{raw_node, name_row}
use Rattle.kfs_model.specs.Device.Spelling.{IsRawNode, IsRawImage}
use Rattle.kfs_model.specs.Device.Canonical.{block_extent, canonical_rows}
use Rattle.kfs_model.proofs.DeviceLemmas.Entries.{each_entry, each_row}
use Rattle.kfs_model.proofs.CanonicalLemmas.RowCounts.{sound, in_three, few_nodes, few_names_of, few_names, few_blocks}
use Rattle.kfs_model.proofs.CanonicalLemmas.FittingExtents.{Fits, joined_fit, no_more_joined, length-block_of}

module _ (image : DeviceImage) (lawful : IsLawful image) where
  abbrev over : ℕ → Header → Node ℕ
  over = node_over (file_bytes image.placement image.devices)

  -- the links of a header are those of its node, and so few
  few_links : (number : ℕ) (h : Header) → get image.heads number ≡ Some h → h.links < 2 ^ 16
  few_links number h is = omega (arith, ap (λ (h : Header). h.links) own, by h.kind)
    where
      shown : get (headers (shown_tree image)) number ≡ Some (node_header image.names number (over number h))
      shown = get-headers (shown_tree image) number ∙ ap (option_map (node_header image.names number)) (get-mapped over image.heads number ∙ ap (option_map (over number)) is)

      counted : get (headers (shown_tree image)) number ≡ Some h
      counted = ap (λ (heads : Table numbers Header). get heads number) lawful.tree.counted ∙ is

      own : node_header image.names number (over number h) ≡ h
      own = cc (shown, counted)

      by : (kind : Kind) → links_of image.names number (body_over (file_bytes image.placement image.devices) number kind h.size) < 2 ^ 16
      by File = omega (arith, few_names_of image lawful number)
      by Directory = omega arith

  fitting_nodes : AllByRecursion IsRawNode (map raw_node image.heads.entries)
  fitting_nodes = each_row raw_node IsRawNode image.heads.entries (each_entry numbers (λ (e : ℕ × Header). IsRawNode (raw_node e)) image.heads each)
    where
      each : (number : ℕ) (h : Header) → get image.heads number ≡ Some h → IsRawNode (raw_node (number, h))
      each number h is =
          let range = (sound image lawful).ranges number h is in
          (omega (arith, range.greatest), (omega (arith, range.mode), range.uid, range.gid, few_links number h is, omega (arith, range.size)))

  fitting_names : AllByRecursion IsNameRow (map name_row image.names.entries)
  fitting_names = each_row name_row IsNameRow image.names.entries (each_entry name_order (λ (e : (ℕ × List ℕ) × ℕ). IsNameRow (name_row e)) image.names each)
    where
      each : (key : ℕ × List ℕ) (number : ℕ) → get image.names key ≡ Some number → IsNameRow (name_row (key, number))
      each key number is =
          let name = (sound image lawful).names_sound key.0 key.1 number is in
          let node = (sound image lawful).ranges number name.node.0 name.node.1 in
          (directory key.0 (get image.heads key.0) refl name.holder, name.spelled, omega (arith, node.greatest))
        where
          directory : (number : ℕ) (o : Option Header) → get image.heads number ≡ o → IsTrue (is_directory o) → number < 2 ^ 32
          directory number None none holds = cc
          directory number (Some h) is holds = let range = (sound image lawful).ranges number h is in omega (arith, range.greatest)

  fitting_blocks : AllByRecursion Fits (map (block_extent (shown_tree image)) image.placement.entries)
  fitting_blocks = each_row (block_extent (shown_tree image)) Fits image.placement.entries (each_entry (pairs numbers numbers) (λ e. Fits (block_extent (shown_tree image) e)) image.placement each)
    where
      each : (key : ℕ × ℕ) (place : Place) → get image.placement key ≡ Some place → Fits (block_extent (shown_tree image) (key, place))
      each key place is =
          let there = in_three image.sizes lawful.sizes place (lawful.placed.laid.in_tier key place is) in
          let own = lawful.placed.of_files key.0 key.1 place is in
          let range = (sound image lawful).ranges key.0 own.header own.shown in
          record {
            number = omega (arith, range.greatest);
            blocks = omega (arith, own.begins, range.size);
            tier = there.0;
            places = omega (arith, there.1);
            some = omega arith;
            whole = length-block_of _ key.1;
          }

  pub fitting_rows : IsRawImage (canonical_rows image.sizes (shown_tree image) image.placement)
  fitting_rows =
      let heads : image.heads.entries ≡ (headers (shown_tree image)).entries = ap (λ (t : Table numbers Header). t.entries) (sym lawful.tree.counted) in
      let nodes : AllByRecursion IsRawNode (map raw_node (headers (shown_tree image)).entries) = subst (λ (entries : List (ℕ × Header)). AllByRecursion IsRawNode (map raw_node entries)) heads fitting_nodes in
      let blocks = map (block_extent (shown_tree image)) image.placement.entries in (
        (
          (omega arith, omega arith),
          lawful.sizes,
          omega (arith, length-map (headers (shown_tree image)).entries raw_node, ap length heads, few_nodes image lawful),
          omega (arith, length-map image.names.entries name_row, few_names image lawful),
          omega (arith, no_more_joined blocks, length-map image.placement.entries (block_extent (shown_tree image)), few_blocks image lawful),
        ),
        nodes,
        fitting_names,
        joined_fit blocks fitting_blocks,
      )
