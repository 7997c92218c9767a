-- What a read of a file answers: the bytes of its blocks, from the start on.
use Rattle.std.proofs.Common.{◌≡◌, ℕ, zero, suc, ◌+◌, ◌-◌, ◌<◌, ◌≤◌, ◌++◌, min, false, List, [], length, take, drop, option_map, Some, refl, sym, ap, ◌∙◌, arith}
use Rattle.std.specs.Prelude.{slice_index}
use Rattle.std.proofs.lemmas.List.{ext_get_or, get_or-take, get_or-drop, length-take, length-drop}
use Rattle.std.proofs.lemmas.Option.{get_or_from_slice_get}
use Rattle.std.proofs.Math.ListN.{get_or, drop_of_length-le}
use Rattle.kfs_model.specs.Header.{Kind, File, Directory, Header}
use Rattle.kfs_model.specs.Table.{get}
use Rattle.kfs_model.proofs.TableLaws.{get-mapped}
use Rattle.kfs_model.specs.Tree.{content_of, node_over}
use Rattle.kfs_model.specs.Sight.{is_directory}
use Rattle.kfs_model.specs.Device.ShownTree.{DeviceImage, file_byte, file_bytes, shown_tree}
use Rattle.kfs_model.proofs.DeviceLemmas.ShownHeads.{length-file_bytes, bytes_shown}
use Rattle.kfs_image.specs.Read.{bytes_from, FileIsRead}

nothing : (room : ℕ) → ◌≡◌ {A = List ℕ} (take room []) []
nothing zero = refl
nothing (suc room) = refl

module _ (image : DeviceImage) (number : ℕ) (h : Header) (there : get image.heads number ≡ Some h) (file : is_directory (get image.heads number) ≡ false) where
  abbrev cells : List ℕ
  cells = file_bytes image.placement image.devices number h.size

  -- the file's content is the bytes of its blocks
  content_is : content_of (get (shown_tree image).nodes number) ≡ cells
  content_is =
      ap content_of (get-mapped (node_over (file_bytes image.placement image.devices)) image.heads number ∙ ap (option_map (node_over (file_bytes image.placement image.devices) number)) there)
      ∙ by h.kind (sym file ∙ ap is_directory there)
    where
      by : (kind : Kind) → false ≡ is_directory (Some (record h { kind = kind })) → content_of (Some (node_over (file_bytes image.placement image.devices) number (record h { kind = kind }))) ≡ cells
      by File is = refl
      by Directory is = cc

  long : length cells ≡ h.size
  long = length-file_bytes image.placement image.devices number h.size

  cell_is : (position : ℕ) → position < h.size → get_or cells position 0 ≡ file_byte image.placement image.devices number position
  cell_is position less = get_or_from_slice_get cells position _ 0 ((bytes_shown image.placement image.devices number h.size).each position less)

  from_is : (start room : ℕ) → bytes_from image number start room ≡ take room (drop start cells)
  from_is start room = ap (λ content. take room (drop start content)) content_is

  -- nothing is read behind the end
  pub read_past : (start : ℕ) (old : List ℕ) → h.size ≤ start → FileIsRead image number start old old 0
  read_past start old past = record { count_is = sym (ap length none); bytes = sym (ap (λ bytes. bytes ++ old) none) }
    where
      none : bytes_from image number start (length old) ≡ []
      none = from_is start (length old) ∙ ap (take (length old)) (drop_of_length-le cells (omega (arith, past, long))) ∙ nothing (length old)

  -- the part read is as long as there is room and the file has bytes, and its bytes are those of the blocks
  pub read_part : (start count : ℕ) (old part : List ℕ) → count ≡ min (h.size - start) (length old) → length part ≡ count
      → ((k : ℕ) → k < length part → slice_index part k ≡ file_byte image.placement image.devices number (start + k))
      → FileIsRead image number start old (part ++ drop count old) count
  read_part start count old part least many each = record { count_is = sym many ∙ ap length part_is; bytes = ap (λ bytes. bytes ++ drop count old) part_is }
    where
      many_there : length (take (length old) (drop start cells)) ≡ min (length old) (h.size - start)
      many_there = length-take (length old) (drop start cells) ∙ ap (min (length old)) (length-drop start cells ∙ ap (λ n. n - start) long)

      same : (k : ℕ) → k < length part → get_or part k 0 ≡ get_or (take (length old) (drop start cells)) k 0
      same k less =
          each k less
          ∙ sym (cell_is (start + k) (omega (arith, less, many, least)))
          ∙ sym (get_or-drop start cells k 0)
          ∙ sym (get_or-take (length old) (drop start cells) k 0 (omega (arith, less, many, least)))

      part_is : part ≡ bytes_from image number start (length old)
      part_is = ext_get_or 0 part (take (length old) (drop start cells)) (omega (arith, many, least, many_there)) same ∙ sym (from_is start (length old))
