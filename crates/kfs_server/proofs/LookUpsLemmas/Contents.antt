-- Bytes of a desk's file, and names of its directory, from its image.
use Rattle.std.proofs.Common.{◌≡◌, ℕ, zero, suc, List, [], length, take, drop, Option, Some, None, option_map, refl, sym, ap, ◌∙◌}
use Rattle.std.specs.Prelude.{IsTrue}
use Rattle.std.proofs.Math.Seq.{take-append_seam}
use Rattle.kfs_model.specs.Header.{Kind, Header, File, Directory}
use Rattle.kfs_model.specs.Sight.{is_directory}
use Rattle.kfs_model.specs.Table.{get}
use Rattle.kfs_model.specs.Tree.{content_of, node_over}
use Rattle.kfs_model.specs.Device.ShownTree.{DeviceImage, file_bytes, shown_tree}
use Rattle.kfs_model.proofs.TableLaws.{get-mapped}
use Rattle.kfs_image.specs.Read.{FileIsRead, bytes_from}
use Rattle.kfs_desk.specs.Machine.{Desk, IsImageOf}

take_nothing : (k : ℕ) → take {A = ℕ} k [] ≡ []
take_nothing zero = refl
take_nothing (suc k) = refl

drop_nothing : (k : ℕ) → drop {A = ℕ} k [] ≡ []
drop_nothing zero = refl
drop_nothing (suc k) = refl

-- what is no file has no content
of_kind : (content : (number size : ℕ) → List ℕ) (number mode uid gid links size : ℕ) (kind : Kind) → IsTrue (is_directory (Some (record { kind = kind; mode = mode; uid = uid; gid = gid; links = links; size = size })))
    → content_of (Some (node_over content number (record { kind = kind; mode = mode; uid = uid; gid = gid; links = links; size = size }))) ≡ []
of_kind content number mode uid gid links size File is = absurd cc
of_kind content number mode uid gid links size Directory is = refl

of_directory : (content : (number size : ℕ) → List ℕ) (number : ℕ) (head : Option Header) → IsTrue (is_directory head) → content_of (option_map (node_over content number) head) ≡ []
of_directory content number None is = refl
of_directory content number (Some h) is = of_kind content number h.mode h.uid h.gid h.links h.size h.kind is

module _ (image : DeviceImage) (number start room : ℕ) where
  abbrev content : Option Header → List ℕ
  content head = content_of (option_map (node_over (file_bytes image.placement image.devices) number) head)

  content_is : content_of (get (shown_tree image).nodes number) ≡ content (get image.heads number)
  content_is = ap content_of (get-mapped (node_over (file_bytes image.placement image.devices)) image.heads number)

  none_of : content (get image.heads number) ≡ [] → [] ≡ bytes_from image number start room
  none_of none = sym (ap (λ (bs : List ℕ). take room (drop start bs)) (content_is ∙ none) ∙ ap (λ (bs : List ℕ). take room bs) (drop_nothing start) ∙ take_nothing room)

  pub bytes_without_node : get image.heads number ≡ None → [] ≡ bytes_from image number start room
  bytes_without_node none = none_of (ap content none)

  pub bytes_of_directory : IsTrue (is_directory (get image.heads number)) → [] ≡ bytes_from image number start room
  bytes_of_directory dir = none_of (of_directory (file_bytes image.placement image.devices) number (get image.heads number) dir)

-- what is read is at the front
pub bytes_read : (image : DeviceImage) (number start : ℕ) (old new : List ℕ) (count : ℕ) → FileIsRead image number start old new count → take count new ≡ bytes_from image number start (length old)
bytes_read image number start old new count said =
    ap (λ (k : ℕ). take k new) said.count_is ∙ ap (λ (bs : List ℕ). take (length (bytes_from image number start (length old))) bs) said.bytes
    ∙ take-append_seam (bytes_from image number start (length old)) (drop count old)

-- the bytes are those of the desk's state
pub bytes_of_state : (image : DeviceImage) (desk : Desk) (number start room : ℕ) → IsImageOf image desk.state → bytes_from image number start room ≡ take room (drop start (content_of (get desk.state.tree.nodes number)))
bytes_of_state image desk number start room is = ap (λ tree. take room (drop start (content_of (get tree.nodes number)))) is.tree
