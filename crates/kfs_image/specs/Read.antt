-- The answer of a read of a file.
use Rattle.std.specs.Prelude.{◌≡◌, ℕ, ◌++◌, List, length, take, drop}
use Rattle.kfs_model.specs.Table.{get}
use Rattle.kfs_model.specs.Tree.{content_of}
use Rattle.kfs_model.specs.Device.ShownTree.{DeviceImage, shown_tree}

-- the bytes of a file from `start` on: as many as there is room for and the file has
abbrev pub bytes_from : DeviceImage → (number start room : ℕ) → List ℕ
bytes_from image number start room = take room (drop start (content_of (get (shown_tree image).nodes number)))

-- `count` bytes of the file were read to the front of the buffer, and the other bytes are as they were
pub record FileIsRead (image : DeviceImage) (number start : ℕ) (old new : List ℕ) (count : ℕ) : Type 0 where
  pub count_is : count ≡ length (bytes_from image number start (length old))
  pub bytes : new ≡ bytes_from image number start (length old) ++ drop count old
