-- The blocks once runs of them are unmapped, and those of rows are mapped and written.
use Rattle.std.proofs.Common.{◌≡◌, ℕ, ◌+◌, ◌<◌, ◌≤◌, ◌||◌, not, Bool, true, false, cond, All, List, [], ◌∷◌, ◌++◌, map, length, get_or, drop, append_assoc, append-nil, Option, Some, None, refl, sym, ap, subst, ◌∙◌, arith}
use Rattle.std.specs.Prelude.{vec_len}
use Rattle.std.proofs.lemmas.List.{drop_all, at_drop_more, get_or-map, length-map, map-append}
use Rattle.kfs_model.specs.Limits.{block_size}
use Rattle.kfs_model.specs.Table.{pairs, numbers, get, changed, insert}
use Rattle.kfs_model.specs.Placement.{Place, Placement, tier_size, IsLaid}
use Rattle.kfs_model.proofs.TableLaws.{same_table, get-retain}
use Rattle.kfs_model.specs.Device.Device.{Devices}
use Rattle.kfs_maps.specs.Chunks.Edits.{KeysAscend}
use Rattle.kfs_maps.specs.Chunks.Tables.{table_after}
use Rattle.kfs_image.specs.declared.tier.tiers.NewBlock.{NewBlock}
use Rattle.kfs_image.specs.Tier.Tiers.{with_blocks}
use Rattle.kfs_image.proofs.TierLemmas.TierLists.{rest_at}
use Rattle.kfs_image.specs.declared.blocks.fill.BlockRun.{BlockRun}
use Rattle.kfs_image.specs.declared.blocks.fill.BlockRow.{BlockRow}
use Rattle.kfs_image.specs.Blocks.Blocks.{BlocksShown, CanChange, changed as changed_blocks}
use Rattle.kfs_image.specs.Blocks.Fill.{is_in, is_in_one, less, mapped_by, written_by, placement_after, filled, CanFill, row_edit, row_part, new_part}
use Rattle.kfs_image.specs.Blocks.Moves.{BlockEdit}

-- ---- less the blocks in runs

less_nothing : (t : Placement) → less [] t ≡ t
less_nothing t = same_table (less [] t) t (get-retain (λ block. not (is_in_one [] block)) t)

less_further : (run : BlockRun) (runs : List BlockRun) (t : Placement) → less runs (less (run ∷ []) t) ≡ less (run ∷ runs) t
less_further run runs t =
    same_table (less runs (less (run ∷ []) t)) (less (run ∷ runs) t) (λ q.
    get-retain (λ block. not (is_in_one runs block)) (less (run ∷ []) t) q
    ∙ ap (λ slot. cond (not (is_in_one runs q)) slot None) (get-retain (λ block. not (is_in_one (run ∷ []) block)) t q)
    ∙ at (is_in run q) (is_in_one runs q) (get t q)
    ∙ sym (get-retain (λ block. not (is_in_one (run ∷ runs) block)) t q))
  where
    at : (here later : Bool) (slot : Option Place) → cond (not later) (cond (not (here || false)) slot None) None ≡ cond (not (here || later)) slot None
    at true true slot = refl
    at true false slot = refl
    at false true slot = refl
    at false false slot = refl

module _ (released : List BlockRun) (i : ℕ) where
  pub less_run : (d : BlockRun) (old new all : Placement) → i < length released → new ≡ less (get_or released i d ∷ []) old → less (drop i released) old ≡ all → less (drop (i + 1) released) new ≡ all
  less_run d old new all below unmapped so_far =
      ap (less (drop (i + 1) released)) unmapped
      ∙ less_further (get_or released i d) (drop (i + 1) released) old
      ∙ sym (at_drop_more (λ runs. less runs old) released i d below)
      ∙ so_far

  -- what isn't mapped isn't once there is less
  pub still_unmapped : (d : BlockRun) (old new : Placement) → new ≡ less (get_or released i d ∷ []) old → (q : ℕ × ℕ) → get old q ≡ None → get new q ≡ None
  still_unmapped d old new unmapped q none =
      let run : BlockRun = get_or released i d in
      ap (λ (t : Placement). get t q) unmapped
      ∙ get-retain (λ block. not (is_in_one (run ∷ []) block)) old q
      ∙ ap (λ slot. cond (not (is_in_one (run ∷ []) q)) slot None) none
      ∙ at (not (is_in_one (run ∷ []) q))
    where
      at : (b : Bool) → ◌≡◌ {A = Option Place} (cond b None None) None
      at true = refl
      at false = refl

  pub less_all : (now all : Placement) → length released ≤ i → less (drop i released) now ≡ all → now ≡ all
  less_all now all past so_far = sym (less_nothing now) ∙ sym (ap (λ runs. less runs now) (drop_all i released past)) ∙ so_far

-- ---- mapped by rows, and made of them

module _ {A : Type 0} where
  -- the rows' edits map their blocks, one after the other
  pub edits_map : (rows : List (BlockRow A)) (t : Placement) → table_after t (map row_edit rows) ≡ mapped_by rows t
  unfolding table_after mapped_by
  edits_map [] t = refl
  edits_map (row ∷ rows) t = edits_map rows (changed t (row.number, row.block) (Some row.place))

  -- one row more has become a block
  pub next_row : (row : BlockRow A) (block : NewBlock A) (old new : List (NewBlock A)) (left later : List (BlockRow A)) (all : List (Place × List ℕ)) → left ≡ row ∷ later → new ≡ old ++ block ∷ [] → new_part block ≡ row_part row
      → map new_part old ++ map row_part left ≡ all
      → map new_part new ++ map row_part later ≡ all
  next_row row block old new left later all is added alike so_far =
      ap (λ blocks. map new_part blocks ++ map row_part later) added
      ∙ ap (λ parts. parts ++ map row_part later) (map-append new_part old (block ∷ []))
      ∙ append_assoc (map new_part old) (new_part block ∷ []) (map row_part later)
      ∙ ap (λ part. map new_part old ++ part ∷ map row_part later) alike
      ∙ ap (λ rest. map new_part old ++ map row_part rest) (sym is)
      ∙ so_far

  pub no_row_left : (blocks : List (NewBlock A)) (left : List (BlockRow A)) (all : List (Place × List ℕ)) → left ≡ [] → map new_part blocks ++ map row_part left ≡ all → map new_part blocks ≡ all
  no_row_left blocks left all none so_far = sym (ap (λ rest. map new_part blocks ++ map row_part rest) none ∙ append-nil (map new_part blocks)) ∙ so_far

module _ {A : Type 0} (rows : List (BlockRow A)) (i : ℕ) where
  pub mapped_row : (row : BlockRow A) (old new all : Placement) → i < length rows → row ≡ get_or rows i row → new ≡ changed old (row.number, row.block) (Some row.place) → mapped_by (drop i rows) old ≡ all
      → mapped_by (drop (i + 1) rows) new ≡ all
  unfolding mapped_by
  mapped_row row old new all below here set so_far =
      ap (mapped_by (drop (i + 1) rows)) set ∙ ap (λ rest. mapped_by rest old) (sym (rest_at rows i row below here)) ∙ so_far

  pub mapped_all : (now all : Placement) → length rows ≤ i → mapped_by (drop i rows) now ≡ all → now ≡ all
  unfolding mapped_by
  mapped_all now all past so_far = sym (ap (λ rest. mapped_by rest now) (drop_all i rows past)) ∙ so_far

  pub copied_row : (row : BlockRow A) (block : NewBlock A) (old new : List (NewBlock A)) (all : List (Place × List ℕ)) → i < length rows → row ≡ get_or rows i row → new ≡ old ++ block ∷ [] → new_part block ≡ row_part row
      → map new_part old ++ map row_part (drop i rows) ≡ all
      → map new_part new ++ map row_part (drop (i + 1) rows) ≡ all
  copied_row row block old new all below here = next_row row block old new (drop i rows) (drop (i + 1) rows) all (rest_at rows i row below here)

  pub copied_all : (blocks : List (NewBlock A)) (all : List (Place × List ℕ)) → length rows ≤ i → map new_part blocks ++ map row_part (drop i rows) ≡ all → map new_part blocks ≡ all
  copied_all blocks all past = no_row_left blocks (drop i rows) all (drop_all i rows past)

-- ---- as one change of the blocks

module _ {A : Type 0} where
  -- blocks with the parts of the rows write the same
  same_written : (blocks : List (NewBlock A)) (rows : List (BlockRow A)) (devices : Devices) → map new_part blocks ≡ map row_part rows → with_blocks blocks devices ≡ written_by rows devices
  unfolding with_blocks written_by
  same_written [] [] devices alike = refl
  same_written [] (row ∷ rows) devices alike = cc
  same_written (block ∷ blocks) [] devices alike = cc
  same_written (block ∷ blocks) (row ∷ rows) devices alike =
      let first : new_part block ≡ row_part row = ap (λ parts. get_or parts 0 (new_part block)) alike in
      ap (λ (part : Place × List ℕ). with_blocks blocks (insert devices (part.0.tier, part.0.place) part.1)) first
      ∙ same_written blocks rows (insert devices (row.place.tier, row.place.place) row.bytes.items) (ap (drop 1) alike)

  -- and what holds of each row's parts holds of theirs
  of_parts : (P : Place × List ℕ → Type 0) (blocks : List (NewBlock A)) (rows : List (BlockRow A)) → map new_part blocks ≡ map row_part rows → All (λ r. P (row_part r)) rows → All (λ b. P (new_part b)) blocks
  of_parts P blocks rows alike holds k d below = at rows alike holds
    where
      at : (rows : List (BlockRow A)) → map new_part blocks ≡ map row_part rows → All (λ r. P (row_part r)) rows → P (new_part (get_or blocks k d))
      at [] alike holds = let long : length (map new_part blocks) ≡ 0 = ap length alike in absurd (omega (arith, below, long, length-map blocks new_part))
      at (row ∷ rows) alike holds =
          let long : length (map new_part blocks) ≡ length (map row_part (row ∷ rows)) = ap length alike in
          let within : k < length (row ∷ rows) = omega (arith, below, long, length-map blocks new_part, length-map (row ∷ rows) row_part) in
          subst P (sym (get_or-map row_part (row ∷ rows) k row (new_part d) within) ∙ ap (λ parts. get_or parts k (new_part d)) (sym alike) ∙ get_or-map new_part blocks k d (new_part d) below) (holds k row within)

  -- they are whole where those of the rows are
  whole_blocks : (blocks : List (NewBlock A)) (rows : List (BlockRow A)) → map new_part blocks ≡ map row_part rows → All (λ (r : BlockRow A). vec_len r.bytes ≡ block_size) rows → All (λ (b : NewBlock A). vec_len b.bytes ≡ block_size) blocks
  whole_blocks blocks rows alike whole k d below =
      let block : NewBlock A = get_or blocks k d in
      let items : length block.bytes.items ≡ block_size = of_parts (λ part. length part.1 ≡ block_size) blocks rows alike rows_whole k d below in
      omega (arith, block.bytes.ok.0, items)
    where
      rows_whole : All (λ (r : BlockRow A). length r.bytes.items ≡ block_size) rows
      rows_whole k d below = let row : BlockRow A = get_or rows k d in omega (arith, row.bytes.ok.0, whole k d below)

  module _ (released : List BlockRun) (rows : List (BlockRow A)) (old : BlocksShown) (edits : List BlockEdit) (blocks : List (NewBlock A))
      (placed : table_after old.placement edits ≡ placement_after released rows old.placement) (alike : map new_part blocks ≡ map row_part rows) where
    pub can_change : KeysAscend (pairs numbers numbers).compare edits → CanFill old released rows → CanChange old edits blocks
    can_change ascend can = record {
      ascend = ascend;
      laid = subst (IsLaid old.sizes) (sym placed) can.laid;
      in_tier = of_parts (λ part. part.0.place < tier_size old.sizes part.0.tier) blocks rows alike can.in_tier;
      whole = whole_blocks blocks rows alike can.whole;
    }

    pub changed_is : changed_blocks edits blocks old ≡ filled released rows old
    changed_is = λ i. record { sizes = old.sizes; placement = placed i; devices = same_written blocks rows old.devices alike i }
