-- A fill's rows, block by block and place by place: where blocks lie after a landing.
use Rattle.std.proofs.Common.{◌≡◌, ℕ, ◌<◌, ◌&&◌, ◌||◌, not, Bool, true, false, cond, List, [], ◌∷◌, length, map, get_or, drop, Option, Some, None, refl, sym, ap, subst, ◌∙◌, arith, ltb-true}
use Rattle.std.specs.Prelude.{nat_lt, zip}
use Rattle.std.specs.List.{list_any}
use Rattle.std.proofs.lemmas.Bool.{both_ways, false_from_ne_true}
use Rattle.std.proofs.lemmas.List.{get_or-map, length-map}
use Rattle.std.proofs.lemmas.List.Folds.{Any-from_list_any, list_any_at}
use Rattle.kfs_model.specs.Header.{Header}
use Rattle.kfs_model.specs.Table.{numbers, pairs, get, insert, retain, changed}
use Rattle.kfs_model.proofs.TableLaws.{same_table, get-retain}
use Rattle.kfs_model.specs.Tree.{Tree, headers}
use Rattle.kfs_model.specs.Sight.{is_file}
use Rattle.kfs_model.specs.Check.{is_some_and}
use Rattle.kfs_model.specs.Run.{Mark}
use Rattle.kfs_model.specs.Placement.{Place, Placement, block_count, cleared_blocks, in_first_tier}
use Rattle.kfs_model.specs.Machine.{placed, stays}
use Rattle.kfs_model.specs.Device.Device.{Devices}
use Rattle.kfs_image.specs.declared.blocks.fill.BlockRow.{BlockRow}
use Rattle.kfs_image.specs.declared.blocks.fill.BlockRun.{BlockRun}
use Rattle.kfs_image.specs.Blocks.Fill.{is_in_one, less, mapped_by, written_by}
use Rattle.kfs_image.specs.Net.{blocks_in, cut, is_block}
use Rattle.kfs_desk.specs.Fill.Fill.{AreCleared}
use Rattle.kfs_desk.proofs.FillLemmas.ListedBlocks.{AreOnce, is_same, is_same-itself, once_at, same_is}
use Rattle.kfs_desk.proofs.FillLemmas.PutRows.{HaveOwnKeys, IsNoKey, inserted, inserted_last, own_first, own_rest}

-- ---- rows as entries of tables

module _ {A : Type 0} where
  -- the file's number and the block
  abbrev pub block_of : BlockRow A → ℕ × ℕ
  block_of row = (row.number, row.block)

  abbrev pub with_place : BlockRow A → (ℕ × ℕ) × Place
  with_place row = (block_of row, row.place)

  abbrev pub with_bytes : BlockRow A → (ℕ × ℕ) × List ℕ
  with_bytes row = ((row.place.tier, row.place.place), row.bytes.items)

  pub mapped_is : (rows : List (BlockRow A)) (placement : Placement) → mapped_by rows placement ≡ inserted (pairs numbers numbers) with_place rows placement
  unfolding mapped_by inserted changed
  mapped_is [] placement = refl
  mapped_is (row ∷ rows) placement = mapped_is rows (insert placement (block_of row) row.place)

  pub rows_written : (rows : List (BlockRow A)) (devices : Devices) → written_by rows devices ≡ inserted (pairs numbers numbers) with_bytes rows devices
  unfolding written_by inserted
  rows_written [] devices = refl
  rows_written (row ∷ rows) devices = rows_written rows (insert devices (row.place.tier, row.place.place) row.bytes.items)

  -- rows of different blocks put each block at its place, in whatever order
  pub rows_placed : (rows : List (BlockRow A)) (places : List ℕ) (base : Placement) → HaveOwnKeys (pairs numbers numbers) with_place rows → map (λ (r : BlockRow A). r.place) rows ≡ map in_first_tier places
      → inserted (pairs numbers numbers) with_place rows base ≡ placed (zip (map block_of rows) places) base
  unfolding inserted
  rows_placed [] places base own laid = refl
  rows_placed (row ∷ rows) [] base own laid = cc
  rows_placed (row ∷ rows) (place ∷ places) base own laid =
      let here : row.place ≡ in_first_tier place = ap (λ (ps : List Place). get_or ps 0 row.place) laid in
      let later = rows_placed rows places base (own_rest (pairs numbers numbers) with_place row rows own) (ap (drop 1) laid) in
      inserted_last (pairs numbers numbers) with_place rows base (block_of row) row.place (own_first (pairs numbers numbers) with_place row rows own)
      ∙ (λ i. insert (later i) (block_of row) (here i))

-- ---- the row of a block

list_any-map : {X Y : Type 0} (test : Y → Bool) (f : X → Y) (xs : List X) → list_any test (map f xs) ≡ list_any (λ x. test (f x)) xs
list_any-map test f [] = refl
list_any-map test f (x ∷ xs) = ap (λ b. test (f x) || b) (list_any-map test f xs)

module _ {A : Type 0} (rows : List (BlockRow A)) (blocks : List (ℕ × ℕ)) (keys : map (λ (r : BlockRow A). (r.number, r.block)) rows ≡ blocks) where
  pub rows_many : length rows ≡ length blocks
  rows_many = sym (length-map rows block_of) ∙ ap length keys

  pub row_block : (k : ℕ) (d : BlockRow A) (e : ℕ × ℕ) → k < length rows → block_of (get_or rows k d) ≡ get_or blocks k e
  row_block k d e below = sym (get_or-map block_of rows k d e below) ∙ ap (λ bs. get_or bs k e) keys

  -- no block has two rows
  pub own_blocks : AreOnce blocks → HaveOwnKeys (pairs numbers numbers) with_place rows
  own_blocks once i j d less below = λ same.
      once_at blocks once i j (0, 0) less (omega (arith, below, rows_many)) (sym (row_block i d (0, 0) (omega (arith, less, below))) ∙ same ∙ row_block j d (0, 0) below)

  -- a block that is listed has a row
  pub row_of : (block : ℕ × ℕ) → list_any (is_same block) blocks ≡ true → (k : ℕ) × (row : BlockRow A) × (k < length rows) × (get_or rows k row ≡ row) × (block_of row ≡ block)
  row_of block listed =
      let (k, row, below, at, same) = Any-from_list_any (λ row. is_same block (block_of row)) rows (sym (list_any-map (is_same block) block_of rows) ∙ ap (list_any (is_same block)) keys ∙ listed) in
      (k, row, below, at, same_is block (block_of row) same)

  -- and one that isn't has none
  pub no_row : (block : ℕ × ℕ) → list_any (is_same block) blocks ≡ false → IsNoKey (pairs numbers numbers) with_place rows block
  no_row block none i d below = λ same.
      both_ways (list_any (is_same block) blocks) none
      (list_any_at (is_same block) blocks i (0, 0) (omega (arith, below, rows_many)) (subst (λ other. is_same block other ≡ true) (same ∙ row_block i d (0, 0) below) (is_same-itself block)))

-- ---- the blocks that stay

none_below : (block : ℕ) → nat_lt block 0 ≡ false
none_below block = false_from_ne_true _ (λ below. let under : block < 0 = ltb-true block 0 below in absurd (omega (arith, under)))

-- the block is one of the file that stands there
has_block : (found : Option Header) (block : ℕ) → is_some_and found (λ h. is_file (Some h) && nat_lt block (block_count h.size)) ≡ nat_lt block (blocks_in found)
has_block None block = sym (none_below block)
has_block (Some h) block = by (is_file (Some h))
  where
    by : (file : Bool) → (file && nat_lt block (block_count h.size)) ≡ nat_lt block (cond file (block_count h.size) 0)
    by true = refl
    by false = sym (none_below block)

module _ (after : Tree ℕ) (marked_after : Tree Mark) where
  -- a block stays that is one of its file and wasn't cleared
  pub stays_is : (block : ℕ × ℕ) → stays after marked_after block ≡ (is_block (headers after) block && not (list_any (is_same block) (cleared_blocks marked_after)))
  stays_is block = ap (λ b. b && not (list_any (is_same block) (cleared_blocks marked_after))) (has_block (get (headers after) block.0) block.1)

  -- the blocks that are left before the rows are made are those that stay
  pub left_is : (runs : List BlockRun) → AreCleared after marked_after runs → (placement : Placement) → cut (headers after) (less runs placement) ≡ retain (stays after marked_after) placement
  left_is runs cleared placement =
      same_table _ _ (λ block.
      get-retain (is_block (headers after)) (less runs placement) block
      ∙ ap (λ slot. cond (is_block (headers after) block) slot None) (get-retain (λ block. not (is_in_one runs block)) placement block)
      ∙ by block (is_block (headers after) block) refl
      ∙ ap (λ b. cond b (get placement block) None) (sym (stays_is block))
      ∙ sym (get-retain (stays after marked_after) placement block))
    where
      by : (block : ℕ × ℕ) (of_file : Bool) → is_block (headers after) block ≡ of_file
          → cond of_file (cond (not (is_in_one runs block)) (get placement block) None) None ≡ cond (of_file && not (list_any (is_same block) (cleared_blocks marked_after))) (get placement block) None
      by block true is = ap (λ b. cond (not b) (get placement block) None) (cleared block is)
      by block false is = refl
