-- Headers that fit their kinds and names are those of the tree that is shown, whatever stands on the devices.
use Rattle.std.proofs.Common.{◌≡◌, ℕ, zero, suc, ◌+◌, ◌<◌, slice_get, true, List, [], ◌∷◌, length, map, Option, Some, None, option_map, refl, sym, ap, ◌∙◌, arith, eqb-true}
use Rattle.std.proofs.lemmas.List.{length-map}
use Rattle.kfs_model.specs.Header.{Kind, File, Directory, Header}
use Rattle.kfs_model.specs.Table.{get}
use Rattle.kfs_model.proofs.TableLaws.{get-mapped, same_table}
use Rattle.kfs_model.specs.Tree.{Node, NameTable, headers, node_header, name_count, body_over, node_over}
use Rattle.kfs_model.specs.Placement.{Placement, numbers_from, below}
use Rattle.kfs_model.proofs.CleanIsAllowed.{left, right}
use Rattle.kfs_model.proofs.Heads.{get-headers}
use Rattle.kfs_model.specs.Device.Device.{Devices}
use Rattle.kfs_model.specs.Device.ShownTree.{DeviceImage, file_byte, file_bytes, shown_tree}
use Rattle.kfs_model.specs.Device.Rules.{kind_fits, names_fit}
use Rattle.kfs_model.specs.Device.Laws.{AreBytesOfBlocks}

length-numbers_from : (first count : ℕ) → length (numbers_from first count) ≡ count
length-numbers_from first zero = refl
length-numbers_from first (suc count) = ap suc (length-numbers_from (first + 1) count)

pub length-file_bytes : (placement : Placement) (devices : Devices) (number size : ℕ) → length (file_bytes placement devices number size) ≡ size
length-file_bytes placement devices number size = length-map (below size) (file_byte placement devices number) ∙ length-numbers_from 0 size

-- links and size are those of a node of this kind with so many names
pub record HeaderFits (names : NameTable) (number : ℕ) (h : Header) : Type 0 where
  pub as_kind : kind_fits h.kind h.links h.size ≡ true
  pub as_named : names_fit h.kind number h.links (name_count names number) ≡ true

module _ (placement : Placement) (devices : Devices) (names : NameTable) (number : ℕ) (h : Header) where
  -- a node of this kind with the bytes of this size
  abbrev node_with : Kind → Node ℕ
  node_with kind = record { mode = h.mode; uid = h.uid; gid = h.gid; body = body_over (file_bytes placement devices) number kind h.size }

  own_header : (kind : Kind) → h.kind ≡ kind → kind_fits kind h.links h.size ≡ true → names_fit kind number h.links (name_count names number) ≡ true → node_header names number (node_with kind) ≡ h
  own_header File is fits named =
      let links : h.links ≡ name_count names number = eqb-true _ _ (right _ _ named) in
      let size = length-file_bytes placement devices number h.size in
      λ i. record { kind = sym is i; mode = h.mode; uid = h.uid; gid = h.gid; links = sym links i; size = size i }
  own_header Directory is fits named =
      let links : h.links ≡ 1 = eqb-true _ _ (left _ _ fits) in
      let size : h.size ≡ 0 = eqb-true _ _ (right _ _ fits) in
      λ i. record { kind = sym is i; mode = h.mode; uid = h.uid; gid = h.gid; links = sym links i; size = sym size i }

  pub header_back : HeaderFits names number h → node_header names number (node_over (file_bytes placement devices) number h) ≡ h
  header_back fits = own_header h.kind refl fits.as_kind fits.as_named

pub heads_shown : (image : DeviceImage) → ((number : ℕ) (h : Header) → get image.heads number ≡ Some h → HeaderFits image.names number h) → headers (shown_tree image) ≡ image.heads
heads_shown image fit = same_table _ _ each
  where
    at : (k : ℕ) (o : Option Header) → get image.heads k ≡ o → option_map (node_header image.names k) (option_map (node_over (file_bytes image.placement image.devices) k) o) ≡ o
    at k None is = refl
    at k (Some h) is = ap Some (header_back image.placement image.devices image.names k h (fit k h is))

    each : (k : ℕ) → get (headers (shown_tree image)) k ≡ get image.heads k
    each k =
        get-headers (shown_tree image) k
        ∙ ap (option_map (node_header image.names k)) (get-mapped (node_over (file_bytes image.placement image.devices)) image.heads k)
        ∙ at k (get image.heads k) refl

-- ---- bytes

number_there : (first count position : ℕ) → position < count → slice_get (numbers_from first count) position ≡ Some (first + position)
number_there first zero position less = absurd (omega arith)
number_there first (suc count) zero less = ap Some (omega arith)
number_there first (suc count) (suc position) less = number_there (first + 1) count position (omega arith) ∙ ap Some (omega arith)

slice_get-map : {X Y : Type 0} (f : X → Y) (xs : List X) (place : ℕ) (x : X) → slice_get xs place ≡ Some x → slice_get (map f xs) place ≡ Some (f x)
slice_get-map f [] place x is = cc
slice_get-map f (y ∷ ys) zero x is = let same : y ≡ x = cc in ap (λ z. Some (f z)) same
slice_get-map f (y ∷ ys) (suc place) x is = slice_get-map f ys place x is

pub bytes_shown : (placement : Placement) (devices : Devices) (number size : ℕ) → AreBytesOfBlocks placement devices number size
bytes_shown placement devices number size = record {
  many = length-file_bytes placement devices number size;
  each = λ position less. slice_get-map (file_byte placement devices number) (below size) position position (number_there 0 size position less ∙ ap Some (omega arith));
}
