-- Runs as extents: a run of one block, a run that goes on by a block, and one that ends.
use Rattle.std.proofs.Common.{◌≡◌, ℕ, ◌+◌, ◌*◌, ◌≤◌, ◌==◌, ◌&&◌, Bool, true, false, cond, List, [], ◌∷◌, ◌++◌, map, None, refl, sym, ap, subst, ◌∙◌, arith, append_assoc, eqb-true, eq-eqb}
use Rattle.std.proofs.lemmas.Bool.{and_from}
use Rattle.std.specs.declared.ops.Bound.{Bound}
use Rattle.std.specs.declared.ops.Bound.TheVariants.{Excluded, Unbounded}
use Rattle.kfs_model.specs.Limits.{block_size}
use Rattle.kfs_model.specs.Header.{Header}
use Rattle.kfs_model.specs.Table.{Table, pairs, numbers, get}
use Rattle.kfs_model.specs.Tree.{Tree, content_of}
use Rattle.kfs_model.specs.Placement.{Place}
use Rattle.kfs_model.proofs.CleanIsAllowed.{left, right}
use Rattle.kfs_maps.specs.Chunks.Starts.{is_from, IsNextEntry}
use Rattle.kfs_model.specs.Device.ShownTree.{DeviceImage, IsLawful, shown_tree}
use Rattle.kfs_model.specs.Device.RawImage.{ExtentRow}
use Rattle.kfs_model.specs.Device.Spelling.{greatest_block}
use Rattle.kfs_model.specs.Device.Canonical.{block_of, block_extent, goes_on, as_one, with_extent, joined_extents, extents_of}
use Rattle.kfs_model.proofs.DeviceLemmas.JoinedExtents.{GoesOn, it_goes_on}
use Rattle.kfs_image.specs.declared.encode.run.Run.{Run}
use Rattle.kfs_image.specs.Encode.Rows.{entries_from}
use Rattle.kfs_image.specs.Encode.Runs.{part_of, run_extent, run_from, last_block, is_next, next_entry, extents_from, Ends}
use Rattle.kfs_image.proofs.EncodeLemmas.Sizes.{part_more}
use Rattle.kfs_image.proofs.EncodeLemmas.Walks.{next_from, nothing_from, all_from}

-- ---- one run more

-- the bytes of a run and of the block behind it
pub bytes_more : (content : List ℕ) (block more : ℕ) → part_of content (block * block_size) (more * block_size) ++ block_of content (block + more) ≡ part_of content (block * block_size) ((more + 1) * block_size)
bytes_more content block more =
    ap (λ start. part_of content (block * block_size) (more * block_size) ++ part_of content start block_size) {x = (block + more) * block_size} {y = block * block_size + more * block_size} (omega arith)
    ∙ part_more content (block * block_size) (more * block_size) block_size
    ∙ ap (part_of content (block * block_size)) {x = more * block_size + block_size} {y = (more + 1) * block_size} (omega arith)

one_block : (tree : Tree ℕ) (entry : (ℕ × ℕ) × Place) → block_extent tree entry ≡ run_extent tree (run_from entry)
one_block tree entry =
    let one : 1 ≡ 0 + 1 = omega arith in
    let size : block_size ≡ (0 + 1) * block_size = omega arith in
    λ i. record {
      number = entry.0.0;
      block = entry.0.1;
      tier = entry.1.tier;
      place = entry.1.place;
      count = one i;
      bytes = part_of (content_of (get tree.nodes entry.0.0)) (entry.0.1 * block_size) (size i);
    }

one_more : (tree : Tree ℕ) (run : Run) → as_one (run_extent tree run) (block_extent tree (next_entry run)) ≡ run_extent tree (record run { more = run.more + 1 })
one_more tree run = λ i. record {
  number = run.number;
  block = run.block;
  tier = run.tier;
  place = run.place;
  count = run.more + 1 + 1;
  bytes = bytes_more (content_of (get tree.nodes run.number)) run.block (run.more + 1) i;
}

next_is_next : (run : Run) → is_next run (next_entry run) ≡ true
next_is_next run =
    and_from _ _
    (and_from _ _
    (and_from _ _ (eq-eqb run.number run.number refl) (eq-eqb (run.block + (run.more + 1)) (run.block + (run.more + 1)) refl))
    (eq-eqb run.tier run.tier refl))
    (eq-eqb (run.place + (run.more + 1)) (run.place + (run.more + 1)) refl)

is_next_entry : (run : Run) (entry : (ℕ × ℕ) × Place) → is_next run entry ≡ true → entry ≡ next_entry run
is_next_entry run entry is =
    let number = eqb-true entry.0.0 run.number (left _ _ (left _ _ (left _ _ is))) in
    let block = eqb-true entry.0.1 (run.block + (run.more + 1)) (right _ _ (left _ _ (left _ _ is))) in
    let tier = eqb-true entry.1.tier run.tier (right _ _ (left _ _ is)) in
    let place = eqb-true entry.1.place (run.place + (run.more + 1)) (right _ _ is) in
    λ i. ((number i, block i), record { tier = tier i; place = place i })

-- ---- extents one by one

-- what goes on from the next one goes on from both as one
goes_on_both : (row next third : ExtentRow) → GoesOn row next → goes_on (as_one row next) third ≡ goes_on next third
goes_on_both row next third on =
    let block : row.block + (row.count + next.count) ≡ next.block + next.count = let there = on.block in omega (arith, there) in
    let place : row.place + (row.count + next.count) ≡ next.place + next.count = let there = on.place in omega (arith, there) in
    λ i. (third.number == sym on.number i) && (third.block == block i) && (third.tier == sym on.tier i) && (third.place == place i)

three_as_one : (row next third : ExtentRow) → as_one row (as_one next third) ≡ as_one (as_one row next) third
three_as_one row next third =
    let count : row.count + (next.count + third.count) ≡ row.count + next.count + third.count = omega arith in
    λ i. record row { count = count i; bytes = sym (append_assoc row.bytes next.bytes third.bytes) i }

-- an extent that goes on from the one before it is one with that, whatever comes behind
joined_before : (row next : ExtentRow) (rows : List ExtentRow) → goes_on row next ≡ true → with_extent row (with_extent next rows) ≡ with_extent (as_one row next) rows
joined_before row next [] on = ap (λ b. cond b (as_one row next ∷ []) (row ∷ next ∷ [])) on
joined_before row next (third ∷ rows) on = at (goes_on next third) refl
  where
    also : goes_on (as_one row next) third ≡ goes_on next third
    also = goes_on_both row next third (it_goes_on row next on)

    at : (b : Bool) → goes_on next third ≡ b → with_extent row (cond b (as_one next third ∷ rows) (next ∷ third ∷ rows)) ≡ with_extent (as_one row next) (third ∷ rows)
    at true is =
        ap (λ b. cond b (as_one row (as_one next third) ∷ rows) (row ∷ as_one next third ∷ rows)) on
        ∙ ap (λ one. one ∷ rows) (three_as_one row next third)
        ∙ sym (ap (λ b. cond b (as_one (as_one row next) third ∷ rows) (as_one row next ∷ third ∷ rows)) (also ∙ is))
    at false is =
        ap (λ b. cond b (as_one row next ∷ third ∷ rows) (row ∷ next ∷ third ∷ rows)) on
        ∙ sym (ap (λ b. cond b (as_one (as_one row next) third ∷ rows) (as_one row next ∷ third ∷ rows)) (also ∙ is))

-- an extent stands for itself where the next one doesn't go on from it
apart_before : (row next : ExtentRow) (rows : List ExtentRow) → goes_on row next ≡ false → with_extent row (with_extent next rows) ≡ row ∷ with_extent next rows
apart_before row next [] off = ap (λ b. cond b (as_one row next ∷ []) (row ∷ next ∷ [])) off
apart_before row next (third ∷ rows) off = at (goes_on next third)
  where
    at : (b : Bool) → with_extent row (cond b (as_one next third ∷ rows) (next ∷ third ∷ rows)) ≡ row ∷ cond b (as_one next third ∷ rows) (next ∷ third ∷ rows)
    at true = ap (λ b. cond b (as_one row (as_one next third) ∷ rows) (row ∷ as_one next third ∷ rows)) off
    at false = ap (λ b. cond b (as_one row next ∷ third ∷ rows) (row ∷ next ∷ third ∷ rows)) off

-- ---- the walk over a placement

-- the run begins the extents from the start on, with those of the blocks behind it
pub record Begins (image : DeviceImage) (start : Bound (ℕ × ℕ)) (run : Run) : Type 0 where
  pub begins : extents_from image start ≡ with_extent (run_extent (shown_tree image) run) (extents_from image (Excluded (last_block run)))
  pub small : run.block + run.more ≤ greatest_block

module _ (image : DeviceImage) where
  -- where entries are left, the first of them begins the extents
  pub first_run : (start : Bound (ℕ × ℕ)) (entry : (ℕ × ℕ) × Place) → IsNextEntry (pairs numbers numbers).compare start image.placement.entries entry.0 entry.1
      → extents_from image start ≡ with_extent (run_extent (shown_tree image) (run_from entry)) (extents_from image (Excluded (last_block (run_from entry))))
  unfolding joined_extents
  first_run start entry next =
      ap (λ entries. joined_extents (map (block_extent (shown_tree image)) entries)) (next_from (pairs numbers numbers) start image.placement entry.0 entry.1 next)
      ∙ ap (λ row. with_extent row (extents_from image (Excluded entry.0))) (one_block (shown_tree image) entry)
      ∙ ap (λ block. with_extent (run_extent (shown_tree image) (run_from entry)) (extents_from image (Excluded (entry.0.0, block)))) {x = entry.0.1} {y = entry.0.1 + 0} (omega arith)

  -- no entry is left
  pub no_run : (start : Bound (ℕ × ℕ)) → ((q : ℕ × ℕ) → is_from (pairs numbers numbers).compare start q ≡ true → get image.placement q ≡ None) → extents_from image start ≡ []
  unfolding joined_extents
  no_run start nothing = ap (λ entries. joined_extents (map (block_extent (shown_tree image)) entries)) (nothing_from (pairs numbers numbers) start image.placement nothing)

  module _ (run : Run) where
    -- a block that goes on from a run makes it longer
    pub longer_run : entries_from (Excluded (last_block run)) image.placement ≡ next_entry run ∷ entries_from (Excluded (next_entry run).0) image.placement
        → with_extent (run_extent (shown_tree image) run) (extents_from image (Excluded (last_block run)))
        ≡ with_extent (run_extent (shown_tree image) (record run { more = run.more + 1 })) (extents_from image (Excluded (last_block (record run { more = run.more + 1 }))))
    unfolding joined_extents
    longer_run next =
        let row = run_extent (shown_tree image) run in
        let rest = extents_from image (Excluded (next_entry run).0) in
        ap (λ entries. with_extent row (joined_extents (map (block_extent (shown_tree image)) entries))) next
        ∙ joined_before row (block_extent (shown_tree image) (next_entry run)) rest (next_is_next run)
        ∙ ap (λ one. with_extent one rest) (one_more (shown_tree image) run)

    -- where the next mapped block goes on from a run, it is the block behind it
    pub run_goes_on : (entry : (ℕ × ℕ) × Place) → IsNextEntry (pairs numbers numbers).compare (Excluded (last_block run)) image.placement.entries entry.0 entry.1 → is_next run entry ≡ true
        → entries_from (Excluded (last_block run)) image.placement ≡ next_entry run ∷ entries_from (Excluded (next_entry run).0) image.placement
    run_goes_on entry next on =
        subst (λ (e : (ℕ × ℕ) × Place). entries_from (Excluded (last_block run)) image.placement ≡ e ∷ entries_from (Excluded e.0) image.placement) (is_next_entry run entry on)
        (next_from (pairs numbers numbers) (Excluded (last_block run)) image.placement entry.0 entry.1 next)

    -- where none goes on, the run's extent stands for itself
    pub run_ends : (entry : (ℕ × ℕ) × Place) → IsNextEntry (pairs numbers numbers).compare (Excluded (last_block run)) image.placement.entries entry.0 entry.1 → is_next run entry ≡ false → Ends image run
    unfolding joined_extents
    run_ends entry next off =
        let row = run_extent (shown_tree image) run in
        let left = next_from (pairs numbers numbers) (Excluded (last_block run)) image.placement entry.0 entry.1 next in
        ap (λ entries. with_extent row (joined_extents (map (block_extent (shown_tree image)) entries))) left
        ∙ apart_before row (block_extent (shown_tree image) entry) (extents_from image (Excluded entry.0)) off
        ∙ sym (ap (λ entries. row ∷ joined_extents (map (block_extent (shown_tree image)) entries)) left)

    pub run_is_last : ((q : ℕ × ℕ) → is_from (pairs numbers numbers).compare (Excluded (last_block run)) q ≡ true → get image.placement q ≡ None) → Ends image run
    unfolding joined_extents
    run_is_last nothing =
        let row = run_extent (shown_tree image) run in
        let none = nothing_from (pairs numbers numbers) (Excluded (last_block run)) image.placement nothing in
        ap (λ entries. with_extent row (joined_extents (map (block_extent (shown_tree image)) entries))) none
        ∙ sym (ap (λ entries. row ∷ joined_extents (map (block_extent (shown_tree image)) entries)) none)

  -- a mapped block can be numbered within a file
  pub is_small : IsLawful image → (start : Bound (ℕ × ℕ)) (entry : (ℕ × ℕ) × Place) → IsNextEntry (pairs numbers numbers).compare start image.placement.entries entry.0 entry.1 → entry.0.1 ≤ greatest_block
  unfolding get
  is_small lawful start entry next =
      let own = lawful.placed.of_files entry.0.0 entry.0.1 entry.1 next.found in
      let range = lawful.tree.sound.ranges entry.0.0 own.header (ap (λ (t : Table numbers Header). get t entry.0.0) lawful.tree.counted ∙ own.shown) in
      omega (arith, own.begins, range.size)

  -- and so can one that goes on from a run
  pub next_is_small : IsLawful image → (run : Run) (entry : (ℕ × ℕ) × Place) → IsNextEntry (pairs numbers numbers).compare (Excluded (last_block run)) image.placement.entries entry.0 entry.1 → is_next run entry ≡ true
      → run.block + (run.more + 1) ≤ greatest_block
  next_is_small lawful run entry next on =
      let block : entry.0.1 ≡ run.block + (run.more + 1) = eqb-true entry.0.1 (run.block + (run.more + 1)) (right _ _ (left _ _ (left _ _ on))) in
      omega (arith, block, is_small lawful (Excluded (last_block run)) entry next)

  -- without a start, the extents are all of the placement's
  pub all_extents : extents_from image Unbounded ≡ extents_of (shown_tree image) image.placement
  all_extents = ap (λ entries. joined_extents (map (block_extent (shown_tree image)) entries)) (all_from (pairs numbers numbers) image.placement)
