-- Bytes of a file that were read from one position on, block after block.
use Rattle.std.proofs.Common.{◌≡◌, ℕ, ◌+◌, ◌-◌, ◌*◌, ◌/◌, ◌%◌, ◌<◌, ◌≤◌, ◌++◌, List, length, take, sym, ap, ◌∙◌, arith}
use Rattle.std.specs.Prelude.{slice_index}
use Rattle.std.proofs.lemmas.List.{get_or-take, get_or-append-add, length-take-le}
use Rattle.std.proofs.Math.ListN.{get_or-append}
use Rattle.std.proofs.lemmas.Slice.{take-put_mid}
use borrow.Rule.Slice.PartMut.{put_mid}
use Rattle.kfs_model.specs.Limits.{block_size}
use Rattle.kfs_model.specs.Placement.{Placement}
use Rattle.kfs_model.specs.Device.Device.{Devices}
use Rattle.kfs_model.specs.Device.ShownTree.{file_byte}
use Rattle.kfs_maps.proofs.PagesLemmas.Numbers.{by_less}

module _ (placement : Placement) (devices : Devices) (number start : ℕ) where
  -- the buffer's first bytes, so many, are those of the file
  abbrev pub AreRead : List ℕ → (done : ℕ) → Type 0
  AreRead buffer done = (k : ℕ) → k < done → slice_index buffer k ≡ file_byte placement devices number (start + k)

  -- the next part is read from the block in which it begins
  pub read_further : (buffer part : List ℕ) (done count : ℕ) → done ≤ length buffer → length part ≡ count → AreRead buffer done
      → ((k : ℕ) → k < count → slice_index part k ≡ file_byte placement devices number ((start + done) / block_size * block_size + ((start + done) % block_size + k)))
      → AreRead (put_mid done (done + count - done) buffer part) (done + count)
  read_further buffer part done count within full read next k below =
      sym (get_or-take (done + count) (put_mid done (done + count - done) buffer part) k 0 below)
      ∙ ap (λ bytes. slice_index bytes k) (take-put_mid done (done + count - done) buffer part (done + count) (omega (arith, full)) within)
      ∙ by_less k done
      (λ less. get_or-append (take done buffer) part 0 k (omega (arith, less, before)) ∙ get_or-take done buffer k 0 less ∙ read k less)
      (λ from.
      ap (λ n. slice_index (take done buffer ++ part) n) (omega (arith, from, before))
      ∙ get_or-append-add (take done buffer) part (k - done) 0
      ∙ next (k - done) (omega (arith, from, below))
      ∙ ap (file_byte placement devices number) (omega (arith, from)))
    where
      before : length (take done buffer) ≡ done
      before = length-take-le done buffer within
