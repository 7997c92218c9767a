-- Extents that fit the format still do when they are joined, and don't become more.
use Rattle.std.proofs.Common.{◌≡◌, ℕ, ◌+◌, ◌-◌, ◌*◌, ◌<◌, ◌≤◌, ◌^◌, Bool, true, false, cond, List, [], ◌∷◌, length, take, drop, replicate, refl, arith}
use Rattle.std.specs.List.{AllByRecursion}
use Rattle.std.proofs.lemmas.List.{length-append, length-take, length-replicate}
use Rattle.kfs_model.specs.Limits.{block_size}
use Rattle.kfs_model.specs.Device.RawImage.{ExtentRow}
use Rattle.kfs_model.specs.Device.Spelling.{IsExtentRow}
use Rattle.kfs_model.specs.Device.Canonical.{block_of, goes_on, as_one, with_extent, joined_extents}
use Rattle.kfs_model.proofs.DeviceLemmas.JoinedExtents.{it_goes_on}

-- the blocks and the places of the extent may exist, and each block has all its bytes
pub record Fits (row : ExtentRow) : Type 0 where
  pub number : row.number < 2 ^ 32
  pub blocks : row.block + row.count ≤ 1048576
  pub tier : row.tier ≤ 2
  pub places : row.place + row.count ≤ 65536
  pub some : 1 ≤ row.count
  pub whole : length row.bytes ≡ row.count * 4096

pub is_extent : (row : ExtentRow) → Fits row → IsExtentRow row
is_extent row fits = (
  fits.number,
  omega (arith, fits.blocks, fits.some),
  fits.tier,
  omega (arith, fits.places, fits.some),
  fits.some,
  omega (arith, fits.places),
  fits.whole,
)

one_fits : (row next : ExtentRow) → goes_on row next ≡ true → Fits row → Fits next → Fits (as_one row next)
one_fits row next is fits also =
    let on = it_goes_on row next is in
    record {
      number = fits.number;
      blocks = omega (arith, on.block, also.blocks);
      tier = fits.tier;
      places = omega (arith, on.place, also.places);
      some = omega (arith, fits.some);
      whole = omega (arith, length-append row.bytes next.bytes, fits.whole, also.whole);
    }

fit_with : (row : ExtentRow) (rows : List ExtentRow) → Fits row → AllByRecursion Fits rows → AllByRecursion Fits (with_extent row rows)
fit_with row [] fits all = (fits, tt)
fit_with row (next ∷ rows) fits all = at (goes_on row next) refl
  where
    at : (b : Bool) → goes_on row next ≡ b → AllByRecursion Fits (cond b (as_one row next ∷ rows) (row ∷ next ∷ rows))
    at true is = (one_fits row next is fits all.0, all.1)
    at false is = (fits, all)

fit_joined : (rows : List ExtentRow) → AllByRecursion Fits rows → AllByRecursion Fits (joined_extents rows)
unfolding joined_extents
fit_joined [] all = tt
fit_joined (row ∷ rows) all = fit_with row (joined_extents rows) all.0 (fit_joined rows all.1)

all_extents : (rows : List ExtentRow) → AllByRecursion Fits rows → AllByRecursion IsExtentRow rows
all_extents [] all = tt
all_extents (row ∷ rows) all = (is_extent row all.0, all_extents rows all.1)

-- extents that fit are extents when they are joined
pub joined_fit : (rows : List ExtentRow) → AllByRecursion Fits rows → AllByRecursion IsExtentRow (joined_extents rows)
joined_fit rows all = all_extents (joined_extents rows) (fit_joined rows all)

with_one_more : (row : ExtentRow) (rows : List ExtentRow) → length (with_extent row rows) ≤ length rows + 1
with_one_more row [] = omega arith
with_one_more row (next ∷ rows) = at (goes_on row next)
  where
    at : (b : Bool) → length (cond b (as_one row next ∷ rows) (row ∷ next ∷ rows)) ≤ length (next ∷ rows) + 1
    at true = omega arith
    at false = omega arith

-- joined, they aren't more
pub no_more_joined : (rows : List ExtentRow) → length (joined_extents rows) ≤ length rows
unfolding joined_extents
no_more_joined [] = omega arith
no_more_joined (row ∷ rows) = omega (arith, with_one_more row (joined_extents rows), no_more_joined rows)

-- a block has all its bytes
pub length-block_of : (content : List ℕ) (block : ℕ) → length (block_of content block) ≡ block_size
length-block_of content block =
    let part = take block_size (drop (block * block_size) content) in
    let taken = length-take block_size (drop (block * block_size) content) in
    let whole = length-append part (replicate (block_size - length part) 0) in
    let zeros = length-replicate {A = ℕ} (block_size - length part) 0 in
    omega (arith, taken, whole, zeros)
