-- A landing whose fill has the log's blocks leaves a lawful image, which shows the tree after the log.
use Rattle.std.proofs.Common.{◌≡◌, ℕ, ◌+◌, ◌*◌, ◌/◌, ◌%◌, ◌<◌, ◌&&◌, not, true, false, cond, List, length, map, get_or, Option, Some, None, option_map, Result, Ok, refl, sym, ap, subst, ◌∙◌, ⊎_elim, arith, lt-ltb}
use Rattle.std.specs.Prelude.{vec_len, zip}
use Rattle.std.specs.List.{list_any}
use Rattle.std.proofs.lemmas.Bool.{cases_Bool}
use Rattle.std.proofs.lemmas.List.{get_or-map, length-map}
use Rattle.std.proofs.lemmas.List.Elements.{All-from_recursion}
use Rattle.std.proofs.lemmas.Option.{slice_get-get_or}
use Rattle.kfs_model.specs.Access.{Client}
use Rattle.kfs_model.specs.Entry.{Entry}
use Rattle.kfs_model.specs.Header.{Header}
use Rattle.kfs_model.specs.Judgement.{State}
use Rattle.kfs_model.specs.Limits.{block_size}
use Rattle.kfs_model.specs.Machine.{are_chosen, placed, placement_after, stays}
use Rattle.kfs_model.specs.Placement.{IsBlock, Place, Placement, below, block_count, cleared_blocks, in_first_tier, is_free, tier_size, written_blocks}
use Rattle.kfs_model.specs.Plan.{ArePieces, is_base, mark_at}
use Rattle.kfs_model.specs.PlanRow.{Piece}
use Rattle.kfs_model.specs.Run.{EntryFault, Mark, Zero, byte_at, byte_of, looked_up, marked, over_bytes, over_marks, run}
use Rattle.kfs_model.specs.Sight.{ClientSight}
use Rattle.kfs_model.specs.Soundness.{IsSound}
use Rattle.kfs_model.specs.Table.{Table, get, numbers, pairs, retain}
use Rattle.kfs_model.specs.Tree.{Body, DirectoryBody, FileBody, Node, Tree, content_of, node_header, headers, tree_over}
use Rattle.kfs_model.proofs.Cells.{headers-recut, recut}
use Rattle.kfs_model.proofs.Heads.{get-headers}
use Rattle.kfs_model.proofs.Marks.{marks_give_bytes}
use Rattle.kfs_model.proofs.OldBytes.{old_bytes_stand}
use Rattle.kfs_model.proofs.TableLaws.{get-retain}
use Rattle.kfs_model.proofs.WrittenBlocks.{written_in_files}
use Rattle.kfs_model.specs.Device.Device.{Devices, byte_on}
use Rattle.kfs_model.specs.Device.ShownTree.{DeviceImage, IsLawful, file_byte, file_bytes, shown_tree}
use Rattle.kfs_image.specs.declared.blocks.fill.BlockRow.{BlockRow}
use Rattle.kfs_image.specs.Blocks.Fill.{less}
use Rattle.kfs_image.specs.declared.net.Fill.{Fill}
use Rattle.kfs_image_nodes.specs.declared.net.Net.{Net}
use Rattle.kfs_image.specs.Net.{CanApply, after_net, applied, blocks_in, cut, is_block}
use Rattle.kfs_image.proofs.FilledImages.{Fit, can_apply_free, free_has_none, still_placed}
use Rattle.kfs_image.proofs.KeptTrees.{image_kept, kept_is_lawful}
use Rattle.kfs_desk.specs.Fill.Fill.{AreCleared, AreRowsOf, block_after, byte_after}
use Rattle.kfs_desk.proofs.FillLemmas.ChosenPlaces.{chosen_apart, chosen_free, chosen_many}
use Rattle.kfs_desk.proofs.FillLemmas.LandedBytes.{byte_after_is, shown_byte}
use Rattle.kfs_desk.proofs.FillLemmas.LandedPlacement.{block_of, left_is, mapped_is, no_row, own_blocks, row_block, row_of, rows_many, rows_placed, rows_written, stays_is, with_bytes, with_place}
use Rattle.kfs_desk.proofs.FillLemmas.ListedBlocks.{cleared_is, cleared_mark, is_same, kept_mark, written_is, written_once}
use Rattle.kfs_desk.proofs.FillLemmas.OldMarks.{content-recut, old_bytes_stood}
use Rattle.kfs_desk.proofs.FillLemmas.PutRows.{HaveOwnKeys, IsNoKey, get-inserted, get-inserted_elsewhere, inserted}
use Rattle.kfs_desk.proofs.FillLemmas.TreesOver.{get_or-numbers_from, length-numbers_from, made_again, tree_again}

-- A log ran on the tree of a lawful image, and its plan's pieces are right. The net makes the names and headers of the tree after,
-- which is sound. The fill's rows have the written blocks, at the places that were chosen, and its runs the cleared ones.
pub record IsLanding {A : Type 0} (image : DeviceImage) (s : State) (client : Client) (before : ClientSight) (entries : List Entry) (after : Tree ℕ) (marked_after : Tree Mark) (pieces : List Piece) (net : Net A (List ℕ)) (fill : Fill A) (places : List ℕ) : Type 0 where
  pub lawful : IsLawful image
  pub tree : s.tree ≡ shown_tree image
  pub placement : s.placement ≡ image.placement
  pub sizes : s.sizes ≡ image.sizes
  pub ran : run over_bytes client before s.tree entries ≡ Ok after
  pub marks : run over_marks client before (marked s.tree) entries ≡ Ok marked_after
  pub sound : IsSound after
  pub right : ArePieces marked_after pieces
  pub heads : (after_net net image).heads ≡ headers after
  pub names : (after_net net image).names ≡ after.names
  pub chosen : are_chosen s (written_blocks marked_after) places ≡ true
  pub rows : AreRowsOf s.tree entries pieces (written_blocks marked_after) places fill.rows.items
  pub cleared : AreCleared after marked_after fill.zero.items

-- ---- blocks of files

block_in : (heads : Table numbers Header) (number block : ℕ) → IsBlock (get heads) number block → is_block heads (number, block) ≡ true
block_in heads number block is =
    let begins = is.begins in
    let inside : block < block_count is.header.size = omega (arith, begins) in
    let many : blocks_in (get heads number) ≡ block_count is.header.size = ap blocks_in is.shown ∙ ap (λ file. cond file (block_count is.header.size) 0) is.file in
    lt-ltb block (blocks_in (get heads number)) (subst (λ count. block < count) (sym many) inside)

-- a byte below the end of a file is in one of its blocks
block_there : (t : Tree ℕ) (number place : ℕ) → place < length (content_of (get t.nodes number)) → is_block (headers t) (number, place / block_size) ≡ true
block_there t number place below = lt-ltb _ _ (subst (λ found. place / block_size < blocks_in found) (sym (get-headers t number)) (at (get t.nodes number) below))
  where
    of_body : (mode uid gid : ℕ) (body : Body ℕ) → place < length (content_of (Some (record { mode = mode; uid = uid; gid = gid; body = body })))
        → place / block_size < blocks_in (Some (node_header t.names number (record { mode = mode; uid = uid; gid = gid; body = body })))
    of_body mode uid gid (FileBody cells) below = omega (arith, below)
    of_body mode uid gid DirectoryBody below = absurd (omega (arith, below))

    at : (found : Option (Node ℕ)) → place < length (content_of found) → place / block_size < blocks_in (option_map (node_header t.names number) found)
    at None below = absurd (omega (arith, below))
    at (Some node) below = of_body node.mode node.uid node.gid node.body below

module _ {A : Type 0} (image : DeviceImage) (s : State) (client : Client) (before : ClientSight) (entries : List Entry) (after : Tree ℕ) (marked_after : Tree Mark) (pieces : List Piece) (net : Net A (List ℕ)) (fill : Fill A) (places : List ℕ)
    (landing : IsLanding image s client before entries after marked_after pieces net fill places) where
  abbrev rows : List (BlockRow A)
  rows = fill.rows.items

  abbrev blocks : List (ℕ × ℕ)
  blocks = written_blocks marked_after

  abbrev byte : Mark → ℕ
  byte = byte_of s.tree entries

  -- ---- the tree after, by its marks

  bytes_are : recut byte marked_after ≡ after
  bytes_are =
      let both : ◌≡◌ {A = Result (Tree ℕ) EntryFault} (Ok (recut byte marked_after)) (Ok after) =
      ap (looked_up byte) (sym landing.marks) ∙ marks_give_bytes client before s.tree entries ∙ landing.ran in
      cc

  heads_alike : headers marked_after ≡ headers after
  heads_alike = sym (headers-recut byte marked_after) ∙ ap (λ (t : Tree ℕ). headers t) bytes_are

  cells_are : (number : ℕ) → content_of (get after.nodes number) ≡ map byte (content_of (get marked_after.nodes number))
  cells_are number = ap (λ (t : Tree ℕ). content_of (get t.nodes number)) (sym bytes_are) ∙ content-recut byte marked_after number

  -- ---- where the rows lie

  own : HaveOwnKeys (pairs numbers numbers) with_place rows
  own = own_blocks rows blocks landing.rows.keys (written_once marked_after)

  row_place : (k : ℕ) (d : BlockRow A) → k < length rows → (get_or rows k d).place ≡ in_first_tier (get_or places k 0)
  row_place k d inside =
      sym (get_or-map (λ (r : BlockRow A). r.place) rows k d (in_first_tier 0) inside)
      ∙ ap (λ (ps : List Place). get_or ps k (in_first_tier 0)) landing.rows.laid
      ∙ get_or-map in_first_tier places k 0 (in_first_tier 0) (omega (arith, inside, rows_many rows blocks landing.rows.keys, chosen_many s blocks places landing.chosen))

  -- the blocks that are left before the rows are made
  abbrev left : Placement
  left = cut (after_net net image).heads (less fill.zero.items image.placement)

  left_stays : left ≡ retain (stays after marked_after) image.placement
  left_stays = ap (λ heads. cut heads (less fill.zero.items image.placement)) landing.heads ∙ left_is after marked_after fill.zero.items landing.cleared image.placement

  -- Blocks lie where the machine has them after the log.
  pub landed_placement : (applied net fill image).placement ≡ placement_after s after marked_after places
  landed_placement =
      mapped_is rows left
      ∙ rows_placed rows places left own landing.rows.laid
      ∙ (λ i. placed (zip (landing.rows.keys i) places) ((left_stays ∙ ap (retain (stays after marked_after)) (sym landing.placement)) i))

  -- ---- the image after is lawful

  rows_fit : Fit (still_placed net image) rows
  rows_fit = record {
    each = λ k d inside.
        let place = row_place k d inside in
        let (free, low) = chosen_free s blocks places landing.chosen k 0 (omega (arith, inside, many)) in
        let block = row_block rows blocks landing.rows.keys k d (0, 0) inside in
        record {
          in_tier = subst (λ (p : Place). p.place < tier_size image.sizes p.tier) (sym place) (subst (λ sizes. get_or places k 0 < tier_size sizes 0) landing.sizes low);
          free = ap (is_free image.placement) place ∙ ap (λ placement. is_free placement (in_first_tier (get_or places k 0))) (sym landing.placement) ∙ free;
          of_file = (λ i. is_block (landing.heads i) (block i)) ∙ of_file k (omega (arith, inside, rows_many rows blocks landing.rows.keys));
          whole = whole k d inside;
        };
    apart = λ i j d less inside same.
        chosen_apart s blocks places landing.chosen i j 0 less (omega (arith, inside, many))
        (ap (λ (p : Place). p.place) (sym (row_place i d (omega (arith, less, inside))) ∙ same ∙ row_place j d inside));
  }
    where
      many : length places ≡ length rows
      many = chosen_many s blocks places landing.chosen ∙ sym (rows_many rows blocks landing.rows.keys)

      of_file : (k : ℕ) → k < length blocks → is_block (headers after) (get_or blocks k (0, 0)) ≡ true
      of_file k inside =
          let is = All-from_recursion (λ block. IsBlock (get (headers marked_after)) block.0 block.1) blocks (written_in_files marked_after) k (0, 0) inside in
          block_in (headers after) (get_or blocks k (0, 0)).0 (get_or blocks k (0, 0)).1 (subst (λ heads. IsBlock (get heads) (get_or blocks k (0, 0)).0 (get_or blocks k (0, 0)).1) heads_alike is)

      long : (f : ℕ → ℕ) (count : ℕ) → length (map f (below count)) ≡ count
      long f count = length-map (below count) f ∙ length-numbers_from 0 count

      whole : (k : ℕ) (d : BlockRow A) → k < length rows → vec_len (get_or rows k d).bytes ≡ block_size
      whole k d inside =
          let row : BlockRow A = get_or rows k d in
          let items : length row.bytes.items ≡ block_size = ap length (landing.rows.bytes k d inside) ∙ long (λ j. byte_after s.tree entries pieces row.number (row.block * block_size + j)) block_size in
          omega (arith, row.bytes.ok.0, items)

  net_is_lawful : IsLawful (after_net net image)
  net_is_lawful =
      let same : image_kept image after ≡ after_net net image =
      λ i. record { sizes = image.sizes; heads = sym landing.heads i; names = sym landing.names i; placement = cut (sym landing.heads i) image.placement; devices = image.devices } in
      subst IsLawful same (kept_is_lawful image landing.lawful after landing.sound)

  -- The net and the fill can be applied: the image after is lawful.
  pub landed_lawful : CanApply net fill image
  landed_lawful = can_apply_free net fill image net_is_lawful rows_fit

  -- ---- the bytes of a file

  abbrev landed_byte : (number place : ℕ) → ℕ
  landed_byte number place = file_byte (applied net fill image).placement (applied net fill image).devices number place

  abbrev byte_there : Devices → ℕ → Option Place → ℕ
  byte_there devices place found = elim found as (λ _. ℕ) [ None ↦ 0 | Some there ↦ byte_on devices there (place % block_size) ]

  module _ (number place : ℕ) (inside : place < length (content_of (get marked_after.nodes number))) where
    abbrev block : ℕ × ℕ
    block = (number, place / block_size)

    abbrev marks : List Mark
    marks = content_of (get marked_after.nodes number)

    there : mark_at marked_after number place ≡ Some (get_or marks place Zero)
    there = slice_get-get_or marks place Zero inside

    in_file : place / block_size < block_count (length marks)
    in_file = omega (arith, inside)

    of_file : is_block (headers after) block ≡ true
    of_file = block_there after number place (let long = ap length (cells_are number) ∙ length-map marks byte in omega (arith, inside, long))

    -- in a block that is written
    in_written : list_any (is_same block) blocks ≡ true → landed_byte number place ≡ byte (get_or marks place Zero)
    in_written listed =
        let (k, row, below, at, same) = row_of rows blocks landing.rows.keys block listed in
        let lies : get (applied net fill image).placement block ≡ Some row.place =
        ap (λ (t : Placement). get t block) (mapped_is rows left)
        ∙ ap (get (inserted (pairs numbers numbers) with_place rows left)) (sym same ∙ ap block_of (sym at))
        ∙ get-inserted (pairs numbers numbers) with_place rows left own k row below
        ∙ ap (λ (r : BlockRow A). Some r.place) at in
        let stands : get (applied net fill image).devices (row.place.tier, row.place.place) ≡ Some row.bytes.items =
        ap (λ (t : Devices). get t (row.place.tier, row.place.place)) (rows_written rows image.devices)
        ∙ ap (λ (r : BlockRow A). get (inserted (pairs numbers numbers) with_bytes rows image.devices) (r.place.tier, r.place.place)) (sym at)
        ∙ get-inserted (pairs numbers numbers) with_bytes rows image.devices own_places k row below
        ∙ ap (λ (r : BlockRow A). Some r.bytes.items) at in
        let bytes : row.bytes.items ≡ block_after s.tree entries pieces row.number row.block = subst (λ (r : BlockRow A). r.bytes.items ≡ block_after s.tree entries pieces r.number r.block) at (landing.rows.bytes k row below) in
        let small : place % block_size < block_size = omega arith in
        let sum : place / block_size * block_size + (0 + place % block_size) ≡ place = omega arith in
        ap (byte_there (applied net fill image).devices place) lies
        ∙ ap (λ (found : Option (List ℕ)). elim found as (λ _. ℕ) [ None ↦ 0 | Some items ↦ get_or items (place % block_size) 0 ]) stands
        ∙ ap (λ items. get_or items (place % block_size) 0) bytes
        ∙ get_or-numbers_from (λ j. byte_after s.tree entries pieces row.number (row.block * block_size + j)) 0 block_size (place % block_size) small
        ∙ ap (λ (b : ℕ × ℕ). byte_after s.tree entries pieces b.0 (b.1 * block_size + (0 + place % block_size))) same
        ∙ ap (byte_after s.tree entries pieces number) sum
        ∙ byte_after_is s.tree entries marked_after pieces landing.right (old_bytes_stand client before s.tree entries marked_after landing.marks) number place inside
      where
        own_places : HaveOwnKeys (pairs numbers numbers) with_bytes rows
        own_places i j d less below = λ same. rows_fit.apart i j d less below (λ k. record { tier = (same k).0; place = (same k).1 })

    -- a block that isn't written lies where it is left
    unwritten_lies : list_any (is_same block) blocks ≡ false → get (applied net fill image).placement block ≡ cond (not (list_any (is_same block) (cleared_blocks marked_after))) (get image.placement block) None
    unwritten_lies unlisted =
        ap (λ (t : Placement). get t block) (mapped_is rows left)
        ∙ get-inserted_elsewhere (pairs numbers numbers) with_place rows left block (no_row rows blocks landing.rows.keys block unlisted)
        ∙ ap (λ (t : Placement). get t block) left_stays
        ∙ get-retain (stays after marked_after) image.placement block
        ∙ ap (λ b. cond b (get image.placement block) None) (stays_is after marked_after block ∙ ap (λ b. b && not (list_any (is_same block) (cleared_blocks marked_after))) of_file)

    -- in a block that is cleared
    in_cleared : list_any (is_same block) blocks ≡ false → list_any (is_same block) (cleared_blocks marked_after) ≡ true → landed_byte number place ≡ byte (get_or marks place Zero)
    in_cleared unlisted cleared =
        ap (byte_there (applied net fill image).devices place) (unwritten_lies unlisted ∙ ap (λ b. cond (not b) (get image.placement block) None) cleared)
        ∙ ap byte (sym (cleared_mark marks place inside (sym (cleared_is marked_after number (place / block_size) in_file) ∙ cleared)))

    -- in a block that stays as it was
    in_kept : list_any (is_same block) blocks ≡ false → list_any (is_same block) (cleared_blocks marked_after) ≡ false → landed_byte number place ≡ byte (get_or marks place Zero)
    in_kept unlisted uncleared =
        ap (byte_there (applied net fill image).devices place) (unwritten_lies unlisted ∙ ap (λ b. cond (not b) (get image.placement block) None) uncleared)
        ∙ same_bytes (get image.placement block) refl
        ∙ by (get_or marks place Zero) there
        (kept_mark marks place inside (sym (written_is marked_after number (place / block_size) in_file) ∙ unlisted) (sym (cleared_is marked_after number (place / block_size) in_file) ∙ uncleared))
      where
        -- no row lies at its place
        same_bytes : (found : Option Place) → get image.placement block ≡ found → byte_there (applied net fill image).devices place found ≡ byte_there image.devices place found
        same_bytes None is = refl
        same_bytes (Some lies) is =
            let none : IsNoKey (pairs numbers numbers) with_bytes rows (lies.tier, lies.place) = λ i d below same.
            free_has_none image.placement (get_or rows i d).place (rows_fit.each i d below).free block (is ∙ (λ k. Some (record { tier = (same k).0; place = (same k).1 }))) in
            ap (λ (found : Option (List ℕ)). elim found as (λ _. ℕ) [ None ↦ 0 | Some items ↦ get_or items (place % block_size) 0 ])
            (ap (λ (t : Devices). get t (lies.tier, lies.place)) (rows_written rows image.devices) ∙ get-inserted_elsewhere (pairs numbers numbers) with_bytes rows image.devices (lies.tier, lies.place) none)

        by : (mark : Mark) → mark_at marked_after number place ≡ Some mark → is_base mark ≡ true → file_byte image.placement image.devices number place ≡ byte mark
        by (Mark.Base n p) is base =
            let (file, at) = old_bytes_stand client before s.tree entries marked_after landing.marks number place n p is in
            let stood = old_bytes_stood s.tree client before entries marked_after landing.marks number place n p is in
            let short : place < length (content_of (get (shown_tree image).nodes number)) =
            subst (λ (t : Tree ℕ). place < length (content_of (get t.nodes number))) landing.tree (subst (λ n. place < length (content_of (get s.tree.nodes n))) file (subst (λ p. p < length (content_of (get s.tree.nodes n))) at stood)) in
            sym (shown_byte image number place short)
            ∙ ap (λ (t : Tree ℕ). byte_at (content_of (get t.nodes number)) place) (sym landing.tree)
            ∙ (λ i. byte (Mark.Base (sym file i) (sym at i)))
        by Mark.Zero is base = cc
        by (Mark.Payload e p) is base = cc

    landed_byte_is : landed_byte number place ≡ byte (get_or marks place Zero)
    landed_byte_is =
        ⊎_elim in_written
        (λ unlisted. ⊎_elim (in_cleared unlisted) (in_kept unlisted) (cases_Bool (list_any (is_same block) (cleared_blocks marked_after))))
        (cases_Bool (list_any (is_same block) blocks))

  file_landed : (number : ℕ) → file_bytes (applied net fill image).placement (applied net fill image).devices number (length (content_of (get after.nodes number))) ≡ content_of (get after.nodes number)
  file_landed number =
      let marks = content_of (get marked_after.nodes number) in
      let long : length (content_of (get after.nodes number)) ≡ length marks = ap length (cells_are number) ∙ length-map marks byte in
      made_again (landed_byte number) 0 (content_of (get after.nodes number)) (λ place below.
      let inside : place < length marks = omega (arith, below, long) in
      let from_none : 0 + place ≡ place = omega arith in
      ap (landed_byte number) from_none
      ∙ landed_byte_is number place inside
      ∙ sym (ap (λ bytes. get_or bytes place 0) (cells_are number) ∙ get_or-map byte marks place Zero 0 inside))

  -- The image after shows the tree after.
  pub landed_tree : shown_tree (applied net fill image) ≡ after
  landed_tree =
      (λ i. tree_over (file_bytes (applied net fill image).placement (applied net fill image).devices) (landing.heads i) (landing.names i))
      ∙ tree_again (file_bytes (applied net fill image).placement (applied net fill image).devices) after file_landed
