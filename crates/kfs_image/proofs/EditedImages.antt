-- An image once edits are made, one after the other, of each of its tables.
use Rattle.std.proofs.Common.{◌≡◌, ℕ, ◌+◌, ◌<◌, ◌≤◌, Bool, true, false, cond, List, [], ◌∷◌, ◌++◌, map, length, get_or, drop, Option, option_map, refl, sym, ap, subst, ◌∙◌, arith}
use Rattle.std.specs.Ordering.{eq_by_cmp}
use Rattle.std.proofs.lemmas.List.{drop_all}
use Rattle.std.specs.Prelude.{Vec, vec_len}
use Rattle.kfs_model.specs.Header.{Header}
use Rattle.kfs_model.specs.Limits.{block_size}
use Rattle.kfs_model.specs.Placement.{Placement}
use Rattle.kfs_model.specs.Table.{Table, pairs, numbers, get, changed, insert}
use Rattle.kfs_model.specs.Tree.{NameTable, name_order}
use Rattle.kfs_model.proofs.TableLaws.{same_table, get-changed}
use Rattle.kfs_model.specs.Device.Device.{Devices}
use Rattle.kfs_model.specs.Device.ShownTree.{DeviceImage, IsLawful, shown_tree}
use Rattle.kfs_types.specs.declared.plan.NameRow.{NameRow}
use Rattle.kfs_types.specs.declared.plan.NodeRow.{NodeRow}
use Rattle.kfs_types.specs.Views.{header_of}
use Rattle.kfs_maps.specs.Chunks.Edits.{KeysAscend}
use Rattle.kfs_maps.specs.Chunks.Overlays.{Say, overlaid}
use Rattle.kfs_maps.specs.Chunks.Tables.{table_after}
use Rattle.kfs_maps.proofs.ChunksLemmas.Overlays.{overlaid_none, table_after_said}
use Rattle.kfs_image.specs.declared.tier.tiers.NewBlock.{NewBlock}
use Rattle.kfs_image.specs.Tier.Tiers.{with_blocks}
use Rattle.kfs_image.proofs.TierLemmas.TierLists.{rest_at}
use Rattle.kfs_image.specs.Blocks.Blocks.{CanChange, changed as changed_blocks}
use Rattle.kfs_image.specs.Blocks.Moves.{BlockEdit}
use Rattle.kfs_image_nodes.specs.Change.{after_rows, led_to, renamed, reheaded}
use Rattle.kfs_image.specs.declared.edit.Edit.{Edit}
use Rattle.kfs_image.specs.declared.edit.Edit.TheVariants as edits
use Rattle.kfs_image.specs.declared.edit.Parts.{Parts}
use Rattle.kfs_image.specs.Edit.{CanEdit, edited, edited_all}
use Rattle.kfs_image.specs.Image.{blocks_of, contents_of, image_with, place_at}
use Rattle.kfs_image.specs.Parts.{PartsAreOf, BlocksAreWhole, above_zero, plain, with_parts}
use Rattle.kfs_image.proofs.NetTables.{led_back}

-- ---- one more row, or block

pub one_name : (names : NameTable) (rows : List (NameRow (List ℕ))) (row : NameRow (List ℕ)) → renamed names (rows ++ row ∷ []) ≡ changed (renamed names rows) (row.dir, row.name) (led_to row.number)
one_name names [] row = refl
one_name names (r ∷ rows) row = one_name (changed names (r.dir, r.name) (led_to r.number)) rows row

pub one_node : (heads : Table numbers Header) (rows : List NodeRow) (row : NodeRow) → reheaded heads (rows ++ row ∷ []) ≡ changed (reheaded heads rows) row.number (option_map header_of row.now)
one_node heads [] row = refl
one_node heads (r ∷ rows) row = one_node (changed heads r.number (option_map header_of r.now)) rows row

pub one_block : {A : Type 0} (devices : Devices) (blocks : List (NewBlock A)) (block : NewBlock A) → with_blocks (blocks ++ block ∷ []) devices ≡ insert (with_blocks blocks devices) (block.place.tier, block.place.place) block.bytes.items
unfolding with_blocks
one_block devices [] block = refl
one_block devices (b ∷ blocks) block = one_block (insert devices (b.place.tier, b.place.place) b.bytes.items) blocks block

-- ---- edits, one after the other

-- the first image has the tables of the other one, but no name that leads to 0
record IsPlain (image other : DeviceImage) : Type 0 where
  sizes : image.sizes ≡ other.sizes
  heads : image.heads ≡ other.heads
  names : (key : ℕ × List ℕ) → get image.names key ≡ above_zero (get other.names key)
  placement : image.placement ≡ other.placement
  devices : image.devices ≡ other.devices

above_either : (b : Bool) (x y : Option ℕ) → cond b (above_zero x) (above_zero y) ≡ above_zero (cond b x y)
above_either true x y = refl
above_either false x y = refl

module _ {A : Type 0} where
  -- without an edit the parts say nothing
  pub none_said : (parts : Parts A) → PartsAreOf [] parts → (image : DeviceImage) → with_parts parts image ≡ image
  unfolding edited_all
  none_said parts of = of.make

  -- and parts that say nothing are those of no edit
  pub nothing_edited : (parts : Parts A) → parts.names.items ≡ [] → parts.nodes.items ≡ [] → parts.block_places.latest.entries ≡ [] → parts.written.items ≡ [] → PartsAreOf [] parts
  unfolding edited_all with_blocks
  nothing_edited parts names nodes block_places written = record {
    make = λ image i. record {
      sizes = image.sizes;
      heads = reheaded image.heads (nodes i);
      names = renamed image.names (names i);
      placement = overlaid_none image.placement parts.block_places.latest.entries block_places i;
      devices = with_blocks (written i) image.devices;
    };
    whole = λ sizes whole. subst (BlocksAreWhole sizes) (sym written) (λ k d below. absurd (omega (arith, below)));
  }

  pub edit_made : (edits : List (Edit A)) (i : ℕ) (edit : Edit A) (image : DeviceImage) → i < length edits → edit ≡ get_or edits i edit
      → edited_all (map plain (drop (i + 1) edits)) (edited (plain edit) image) ≡ edited_all (map plain (drop i edits)) image
  unfolding edited_all
  edit_made edits i edit image below here = ap (λ rest. edited_all (map plain rest) image) (sym (rest_at edits i edit below here))

  pub edits_made : (edits : List (Edit A)) (i : ℕ) (image : DeviceImage) → length edits ≤ i → image ≡ edited_all (map plain (drop i edits)) image
  unfolding edited_all
  edits_made edits i image past = sym (ap (λ rest. edited_all (map plain rest) image) (drop_all i edits past))

  plain_one : (e : Edit A) (image other : DeviceImage) → IsPlain image other → IsPlain (edited (plain e) image) (edited e other)
  plain_one (edits.Header number header) image other alike = record {
    sizes = alike.sizes;
    heads = ap (λ (heads : Table numbers Header). changed heads number (option_map header_of header)) alike.heads;
    names = alike.names;
    placement = alike.placement;
    devices = alike.devices;
  }
  plain_one (edits.Name dir name number) image other alike = record {
    sizes = alike.sizes;
    heads = alike.heads;
    names = λ key.
        get-changed image.names (dir, name) (above_zero number) key
        ∙ ap (cond (eq_by_cmp name_order.compare key (dir, name)) (above_zero number)) (alike.names key)
        ∙ above_either (eq_by_cmp name_order.compare key (dir, name)) number (get other.names key)
        ∙ ap above_zero (sym (get-changed other.names (dir, name) number key));
    placement = alike.placement;
    devices = alike.devices;
  }
  plain_one (edits.Map number block pair) image other alike = record {
    sizes = alike.sizes;
    heads = alike.heads;
    names = alike.names;
    placement = ap (λ (placement : Placement). changed placement (number, block) (option_map place_at pair)) alike.placement;
    devices = alike.devices;
  }
  plain_one (edits.Bytes tier place bytes) image other alike = record {
    sizes = alike.sizes;
    heads = alike.heads;
    names = alike.names;
    placement = alike.placement;
    devices = ap (λ (devices : Devices). insert devices (tier, place) bytes.items) alike.devices;
  }

  plain_all : (es : List (Edit A)) (image other : DeviceImage) → IsPlain image other → IsPlain (edited_all (map plain es) image) (edited_all es other)
  unfolding edited_all
  plain_all [] image other alike = alike
  plain_all (e ∷ es) image other alike = plain_all es (edited (plain e) image) (edited e other) (plain_one e image other alike)

  -- from a lawful image to a lawful image no name comes to lead to 0
  plain_is : (es : List (Edit A)) (image : DeviceImage) → IsLawful image → IsLawful (edited_all es image) → edited_all (map plain es) image ≡ edited_all es image
  plain_is es image lawful lawful_after =
      let back = led_back (shown_tree image) lawful.tree.sound in
      let alike = plain_all es image image (record { sizes = refl; heads = refl; names = λ key. sym (back key); placement = refl; devices = refl }) in
      let after = edited_all es image in
      λ i. record {
        sizes = alike.sizes i;
        heads = alike.heads i;
        names = same_table (edited_all (map plain es) image).names after.names (λ key. alike.names key ∙ led_back (shown_tree after) lawful_after.tree.sound key) i;
        placement = alike.placement i;
        devices = alike.devices i;
      }

-- ---- the parts of edits, put into an image

-- these are the rows of edits, and the edits of the blocks
pub record AreMade {A : Type 0} (edits : List (Edit A)) (parts : Parts A) (names : List (NameRow (List ℕ))) (nodes : List NodeRow) (places : List BlockEdit) : Type 0 where
  pub of : PartsAreOf edits parts
  pub names_are : names ≡ parts.names.items
  pub nodes_are : nodes ≡ parts.nodes.items
  pub ascend : KeysAscend (pairs numbers numbers).compare places
  pub block_places : Say (pairs numbers numbers).compare places parts.block_places.latest

module _ {A : Type 0} (edits : List (Edit A)) (parts : Parts A) (names : List (NameRow (List ℕ))) (nodes : List NodeRow) (places : List BlockEdit) (are : AreMade edits parts names nodes places)
    (image : DeviceImage) (lawful : IsLawful image) (can : CanEdit edits image) where
  placed : table_after image.placement places ≡ overlaid image.placement parts.block_places.latest.entries
  placed = table_after_said image.placement places parts.block_places.latest are.block_places

  -- nodes, names and blocks together are those of the image after
  pub edited_is : image_with (after_rows (contents_of image) names nodes) (changed_blocks places parts.written.items (blocks_of image)) ≡ edited_all edits image
  edited_is =
      (λ i. record {
        sizes = image.sizes;
        heads = reheaded image.heads (are.nodes_are i);
        names = renamed image.names (are.names_are i);
        placement = placed i;
        devices = with_blocks parts.written.items image.devices;
      })
      ∙ are.of.make image
      ∙ plain_is edits image lawful can.lawful

  pub edited_lawful : IsLawful (image_with (after_rows (contents_of image) names nodes) (changed_blocks places parts.written.items (blocks_of image)))
  edited_lawful = subst IsLawful (sym edited_is) can.lawful

  pub can_change : CanChange (blocks_of image) places parts.written.items
  can_change = record {
    ascend = are.ascend;
    laid = edited_lawful.placed.laid;
    in_tier = λ k d below. (are.of.whole image.sizes can.whole k d below).0;
    whole = λ k d below. (are.of.whole image.sizes can.whole k d below).1;
  }

-- a copy of a whole block is whole
pub whole_copy : {A : Type 0} (copy bytes : Vec ℕ A) → copy.items ≡ bytes.items → vec_len bytes ≡ block_size → vec_len copy ≡ block_size
whole_copy copy bytes same whole = let long : length copy.items ≡ length bytes.items = ap length same in omega (arith, copy.ok.0, bytes.ok.0, long, whole)
