-- What a lawful image shows is what the cells of its tree show, and its numbers are those that pages have.
use Rattle.std.proofs.Common.{◌≡◌, Option, Some, None, refl, sym, ap, ◌∙◌, arith}
use Rattle.std.specs.Prelude.{pos, IsTrue}
use Rattle.kfs_model.specs.Header.{Header}
use Rattle.kfs_model.specs.Table.{get}
use Rattle.kfs_model.specs.Tree.{target, entry_count, headers}
use Rattle.kfs_model.specs.Sight.{sight, parent_in, is_directory}
use Rattle.kfs_model.specs.Device.ShownTree.{DeviceImage, IsLawful, shown_tree}
use Rattle.kfs_image_nodes.specs.Contents.{sight_of}
use Rattle.kfs_image_nodes.specs.Indexes.{AreInPages}
use Rattle.kfs_image_nodes.specs.NodeEdits.{IsNumber, AreNumbered}
use Rattle.kfs_image_nodes.specs.Rows.{FitPages}
use Rattle.kfs_image.specs.Image.{contents_of}

module _ (image : DeviceImage) (lawful : IsLawful image) where
  pub sight_shown : sight_of (contents_of image) ≡ sight (shown_tree image)
  sight_shown = λ i. record {
    head = get (sym lawful.tree.counted i);
    name = target image.names;
    count = λ directory. pos (entry_count image.names directory);
    parent = parent_in (get (sym lawful.tree.counted i)) image.names;
  }

  numbered : AreNumbered image.heads
  numbered number h found =
      let range = lawful.tree.sound.ranges number h (ap (λ heads. get heads number) lawful.tree.counted ∙ found) in
      let least = range.least in
      let greatest = range.greatest in
      (least, omega (arith, greatest))

  in_pages : AreInPages image.names
  in_pages key number found = at (get (headers (shown_tree image)) key.0) refl (lawful.tree.sound.names_sound key.0 key.1 number found).holder
    where
      at : (o : Option Header) → get (headers (shown_tree image)) key.0 ≡ o → IsTrue (is_directory o) → IsNumber key.0
      at None is held = cc
      at (Some h) is held =
          let range = lawful.tree.sound.ranges key.0 h is in
          let least = range.least in
          let greatest = range.greatest in
          (least, omega (arith, greatest))

  -- a lawful image's nodes, and the directories of its names, have numbers that pages have
  pub lawful_fits : FitPages image.heads image.names
  lawful_fits = (numbered, in_pages)
