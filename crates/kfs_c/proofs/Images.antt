-- What a desk's image shows, said of the desk's state.
use Rattle.std.proofs.Common.{◌≡◌, ◌↔◌, ℕ, List, length, take, drop, None, sym, ap, subst, ◌∙◌}
use Rattle.std.specs.Prelude.{IsTrue}
use Rattle.kfs_model.specs.Sight.{is_directory}
use Rattle.kfs_model.specs.Table.{get}
use Rattle.kfs_model.specs.Tree.{content_of, headers}
use Rattle.kfs_model.specs.Device.Canonical.{canonical_bytes, image_bytes}
use Rattle.kfs_model.specs.Device.ShownTree.{DeviceImage, IsLawful, shown_tree}
use Rattle.kfs_image.specs.Read.{FileIsRead}
use Rattle.kfs_desk.specs.Machine.{Desk, IsImageOf}
use Rattle.kfs_c.specs.Reading.{BeginsWith, HasNoNode, IsDirectoryAt, IsRead, saved_bytes}

-- the image's bytes are those of the state
pub saved : (image : DeviceImage) (desk : Desk) (bytes : List ℕ) → IsImageOf image desk.state → bytes ≡ image_bytes image → bytes ≡ saved_bytes desk
saved image desk bytes is said =
    let s = desk.state in
    said
    ∙ ap (λ sizes. canonical_bytes sizes (shown_tree image) image.placement) is.sizes
    ∙ ap (λ tree. canonical_bytes s.sizes tree image.placement) is.tree
    ∙ ap (canonical_bytes s.sizes s.tree) is.placement

module _ (image : DeviceImage) (desk : Desk) (number : ℕ) (lawful : IsLawful image) (is : IsImageOf image desk.state) where
  -- the image's headers are the tree's
  heads : get image.heads number ≡ get (headers desk.state.tree) number
  heads = ap (λ rows. get rows number) (sym lawful.tree.counted) ∙ ap (λ tree. get (headers tree) number) is.tree

  -- what is told exactly by the image's header is told exactly by the tree's
  pub no_node : (Told : Type 0) → (Told ↔ (get image.heads number ≡ None)) → (Told ↔ HasNoNode number desk)
  no_node Told told = subst (λ head. Told ↔ (head ≡ None)) heads told

  pub directory : (Told : Type 0) → (Told ↔ IsTrue (is_directory (get image.heads number))) → (Told ↔ IsDirectoryAt number desk)
  directory Told told = subst (λ head. Told ↔ IsTrue (is_directory head)) heads told

-- bytes of the image's file are bytes of the tree's
pub read : (image : DeviceImage) (desk : Desk) (number start : ℕ) (old new : List ℕ) (count : ℕ) → IsImageOf image desk.state → FileIsRead image number start old new count → IsRead number start old new count desk
read image desk number start old new count is said =
    subst (λ tree. BeginsWith (take (length old) (drop start (content_of (get tree.nodes number)))) old new count) is.tree (said.count_is, said.bytes)
