-- A tree whose files have the bytes that they had, or none, is shown by its headers, its names and the blocks that stay.
use Rattle.std.proofs.Common.{◌≡◌, ℕ, zero, suc, ◌+◌, ◌<◌, ◌/◌, ◌%◌, ◌⊎◌, inl, inr, ⊎_elim, Bool, true, false, cond, List, [], ◌∷◌, length, map, Option, Some, None, option_map, IsTrue, refl, sym, ap, subst, ◌∙◌, arith, lt-ltb, ltb-true}
use Rattle.kfs_model.specs.Header.{Kind, File, Directory, Header}
use Rattle.kfs_model.specs.Limits.{block_size}
use Rattle.kfs_model.specs.Table.{Table, numbers, get}
use Rattle.kfs_model.proofs.TableLaws.{same_table, get-mapped, get-retain}
use Rattle.kfs_model.specs.Tree.{Tree, Node, Body, FileBody, DirectoryBody, NameTable, headers, node_header, kind_of, size_of, content_of, body_over, node_over, tree_over}
use Rattle.kfs_model.specs.Sight.{is_file}
use Rattle.kfs_model.specs.Soundness.{AreSound, IsSound}
use Rattle.kfs_model.specs.Placement.{Place, Placement, IsBlock, block_count, numbers_from, tier_size}
use Rattle.kfs_model.proofs.Heads.{get-headers}
use Rattle.kfs_model.proofs.WrittenBlocks.{begins_below}
use Rattle.kfs_model.specs.Device.Device.{Devices, byte_on}
use Rattle.kfs_model.specs.Device.ShownTree.{DeviceImage, IsLawful, file_byte, file_bytes, shown_tree}
use Rattle.kfs_model.proofs.DeviceLemmas.ShownHeads.{length-file_bytes}
use Rattle.kfs_image.specs.Net.{blocks_in, is_block, cut}

-- each file of the tree after has the bytes that it had before, or none
pub record AreKept {B : Type 0} (before after : Tree B) : Type 0 where
  pub each : (number : ℕ) → (content_of (get after.nodes number) ≡ content_of (get before.nodes number)) ⊎ (content_of (get after.nodes number) ≡ [])

-- the image after: the headers and names of the tree after, and the blocks that its files still have
abbrev pub image_kept : DeviceImage → Tree ℕ → DeviceImage
image_kept image after = record image { heads = headers after; names = after.names; placement = cut (headers after) image.placement }

-- ---- bytes

alike_below : (f g : ℕ → ℕ) (first count : ℕ) → ((position : ℕ) → position < first + count → f position ≡ g position) → map f (numbers_from first count) ≡ map g (numbers_from first count)
alike_below f g first zero same = refl
alike_below f g first (suc count) same = λ i. same first (omega arith) i ∷ alike_below f g (first + 1) count (λ position less. same position (omega arith)) i

-- a byte below the size is in a block that begins below it
block_below : (position size : ℕ) → position < size → position / block_size < block_count size
block_below position size less = omega arith

module _ (heads : Table numbers Header) (placement : Placement) where
  same_block : (block : ℕ × ℕ) → is_block heads block ≡ true → get (cut heads placement) block ≡ get placement block
  same_block block is = get-retain (is_block heads) placement block ∙ ap (λ b. cond b (get placement block) None) is

  -- what lies somewhere after the cut lay there before
  pub from_cut : (block : ℕ × ℕ) (place : Place) → get (cut heads placement) block ≡ Some place → (is_block heads block ≡ true) × (get placement block ≡ Some place)
  from_cut block place is = by (is_block heads block) (sym (get-retain (is_block heads) placement block) ∙ is)
    where
      by : (b : Bool) → cond b (get placement block) None ≡ Some place → (b ≡ true) × (get placement block ≡ Some place)
      by true is = (refl, is)
      by false is = cc

  -- a file of this size has the same bytes
  pub same_bytes : (devices : Devices) (number size : ℕ) → blocks_in (get heads number) ≡ block_count size → file_bytes (cut heads placement) devices number size ≡ file_bytes placement devices number size
  same_bytes devices number size many = alike_below (file_byte (cut heads placement) devices number) (file_byte placement devices number) 0 size each
    where
      each : (position : ℕ) → position < 0 + size → file_byte (cut heads placement) devices number position ≡ file_byte placement devices number position
      each position less =
          let inside : position / block_size < blocks_in (get heads number) = subst (λ count. position / block_size < count) (sym many) (block_below position size (omega (arith, less))) in
          ap (λ o. elim o [ None ↦ 0 | Some place ↦ byte_on devices place (position % block_size) ]) (same_block (number, position / block_size) (lt-ltb _ _ inside))

-- ---- what the files have

module _ (image : DeviceImage) (number : ℕ) where
  -- no bytes, or all of a file of some size
  abbrev HasAll : Option (Node ℕ) → Type 0
  HasAll found = (content_of found ≡ []) ⊎ ((size : ℕ) × (content_of found ≡ file_bytes image.placement image.devices number size))

  all_before : HasAll (get (shown_tree image).nodes number)
  all_before = subst HasAll (sym (get-mapped (node_over (file_bytes image.placement image.devices)) image.heads number)) (by (get image.heads number))
    where
      of_kind : (h : Header) (kind : Kind) → HasAll (Some (node_over (file_bytes image.placement image.devices) number (record h { kind = kind })))
      of_kind h File = inr (h.size, refl)
      of_kind h Directory = inl refl

      by : (found : Option Header) → HasAll (option_map (node_over (file_bytes image.placement image.devices) number) found)
      by None = inl refl
      by (Some h) = of_kind h h.kind

module _ (image : DeviceImage) (after : Tree ℕ) (kept : AreKept (shown_tree image) after) where
  abbrev shown_bytes : ℕ → ℕ → List ℕ
  shown_bytes = file_bytes (cut (headers after) image.placement) image.devices

  file_kept : (number : ℕ) (cells : List ℕ) → content_of (get after.nodes number) ≡ cells → blocks_in (get (headers after) number) ≡ block_count (length cells) → shown_bytes number (length cells) ≡ cells
  file_kept number cells is many =
      ⊎_elim
      (λ same. ⊎_elim (λ none. nothing (sym is ∙ same ∙ none)) (λ some. whole some.0 (sym is ∙ same ∙ some.1)) (all_before image number))
      (λ none. nothing (sym is ∙ none))
      (kept.each number)
    where
      nothing : cells ≡ [] → shown_bytes number (length cells) ≡ cells
      nothing none = ap (λ cells. shown_bytes number (length cells)) none ∙ sym none

      whole : (size : ℕ) → cells ≡ file_bytes image.placement image.devices number size → shown_bytes number (length cells) ≡ cells
      whole size bytes =
          let long : length cells ≡ size = ap length bytes ∙ length-file_bytes image.placement image.devices number size in
          same_bytes (headers after) image.placement image.devices number (length cells) many
          ∙ ap (file_bytes image.placement image.devices number) long
          ∙ sym bytes

  body_kept : (number : ℕ) (node : Node ℕ) → get after.nodes number ≡ Some node → body_over shown_bytes number (kind_of node.body) (size_of node.body) ≡ node.body
  body_kept number node is = by node.body (ap content_of is) (ap blocks_in (get-headers after number ∙ ap (option_map (node_header after.names number)) is))
    where
      with_body : Body ℕ → Node ℕ
      with_body body = record { mode = node.mode; uid = node.uid; gid = node.gid; body = body }

      by : (body : Body ℕ) → content_of (get after.nodes number) ≡ content_of (Some (with_body body)) → blocks_in (get (headers after) number) ≡ blocks_in (Some (node_header after.names number (with_body body))) → body_over shown_bytes number (kind_of body) (size_of body) ≡ body
      by (FileBody cells) is many = ap FileBody (file_kept number cells is many)
      by DirectoryBody is many = refl

  node_kept : (number : ℕ) (found : Option (Node ℕ)) → get after.nodes number ≡ found → option_map (node_over shown_bytes number) (option_map (node_header after.names number) found) ≡ found
  node_kept number None is = refl
  node_kept number (Some node) is = λ i. Some (record { mode = node.mode; uid = node.uid; gid = node.gid; body = body_kept number node is i })

  nodes_kept : (shown_tree (image_kept image after)).nodes ≡ after.nodes
  nodes_kept = same_table _ after.nodes (λ number.
      get-mapped (node_over shown_bytes) (headers after) number
      ∙ ap (option_map (node_over shown_bytes number)) (get-headers after number)
      ∙ node_kept number (get after.nodes number) refl)

-- ---- what blocks are left

file_of_block : (found : Option Header) (block : ℕ) → block < blocks_in found → (h : Header) × (found ≡ Some h) × IsTrue (is_file (Some h)) × (block < block_count h.size)
file_of_block None block less = absurd (omega arith)
file_of_block (Some h) block less = by (is_file (Some h)) refl less
  where
    by : (b : Bool) → is_file (Some h) ≡ b → block < cond b (block_count h.size) 0 → (found : Header) × (Some h ≡ Some found) × IsTrue (is_file (Some found)) × (block < block_count found.size)
    by true file less = (h, refl, file, less)
    by false file less = absurd (omega arith)

-- a block that the cut leaves begins below the size of its file
pub block_of_file : (heads : Table numbers Header) (number block : ℕ) → is_block heads (number, block) ≡ true → IsBlock (get heads) number block
block_of_file heads number block is =
    let (h, shown, file, less) = file_of_block (get heads number) block (ltb-true _ _ is) in
    record { header = h; shown = shown; file = file; begins = begins_below block h.size less }

-- ---- headers, whatever bytes a file has

module _ (placement : Placement) (devices : Devices) where
  header_again : (names : NameTable) (number : ℕ) (node : Node ℕ) → node_header names number (node_over (file_bytes placement devices) number (node_header names number node)) ≡ node_header names number node
  header_again names number node = by node.body
    where
      by : (body : Body ℕ) → node_header names number (node_over (file_bytes placement devices) number (node_header names number (record node { body = body }))) ≡ node_header names number (record node { body = body })
      by (FileBody cells) = λ i. record (node_header names number (record node { body = FileBody cells })) { size = length-file_bytes placement devices number (length cells) i }
      by DirectoryBody = refl

  -- the tree of a tree's headers and names has these headers
  headers_again : (t : Tree ℕ) → headers (tree_over (file_bytes placement devices) (headers t) t.names) ≡ headers t
  headers_again t =
      same_table _ _ (λ key.
      get-headers (tree_over (file_bytes placement devices) (headers t) t.names) key
      ∙ ap (option_map (node_header t.names key)) (get-mapped (node_over (file_bytes placement devices)) (headers t) key ∙ ap (option_map (node_over (file_bytes placement devices) key)) (get-headers t key))
      ∙ by key (get t.nodes key)
      ∙ sym (get-headers t key))
    where
      by : (key : ℕ) (o : Option (Node ℕ)) → option_map (node_header t.names key) (option_map (node_over (file_bytes placement devices) key) (option_map (node_header t.names key) o)) ≡ option_map (node_header t.names key) o
      by key None = refl
      by key (Some node) = ap Some (header_again t.names key node)

module _ (image : DeviceImage) (lawful : IsLawful image) (after : Tree ℕ) (sound : IsSound after) where
  abbrev left : Placement
  left = cut (headers after) image.placement

  apart_after : (block other : ℕ × ℕ) (place : Place) → get left block ≡ Some place → get left other ≡ Some place → block ≡ other
  apart_after block other place is also =
      let first = from_cut (headers after) image.placement block place is in
      let second = from_cut (headers after) image.placement other place also in
      lawful.placed.laid.apart block other place first.1 second.1

  in_tier_after : (block : ℕ × ℕ) (place : Place) → get left block ≡ Some place → place.place < tier_size image.sizes place.tier
  in_tier_after block place is = lawful.placed.laid.in_tier block place (from_cut (headers after) image.placement block place is).1

  of_files_after : (number block : ℕ) (place : Place) → get left (number, block) ≡ Some place → IsBlock (get (headers after)) number block
  of_files_after number block place is = block_of_file (headers after) number block (from_cut (headers after) image.placement (number, block) place is).0

  pub kept_is_lawful : IsLawful (image_kept image after)
  kept_is_lawful =
      let again = headers_again left image.devices after in
      record {
        sizes = lawful.sizes;
        tree = record { sound = subst (λ (heads : Table numbers Header). AreSound (get heads) after.names) (sym again) sound; counted = again };
        placed = record { laid = record { apart = apart_after; in_tier = in_tier_after }; of_files = of_files_after };
        blocks = lawful.blocks;
      }

-- the image shows the tree after
pub kept_is_shown : (image : DeviceImage) (after : Tree ℕ) → AreKept (shown_tree image) after → shown_tree (image_kept image after) ≡ after
kept_is_shown image after kept = λ i. record { nodes = nodes_kept image after kept i; names = after.names }
