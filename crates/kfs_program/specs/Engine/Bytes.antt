-- The reply to `read`.
use Rattle.std.specs.Prelude.{ℕ, List, [], ◌∷◌, ◌++◌, take, drop, codes, Vec, Option, Some, None, Result, Ok, Err, if◌then◌else◌}
use Rattle.hex.specs.Hex.{encode_lower}
use Rattle.kfs_model.specs.Header.{Header}
use Rattle.kfs_model.specs.Sight.{is_directory}
use Rattle.kfs_model.specs.Table.{get}
use Rattle.kfs_model.specs.Tree.{Tree, content_of, headers}
use Rattle.kfs_image.specs.declared.read.ReadFault.{ReadFault}
use Rattle.kfs_image.specs.declared.read.ReadFault.TheVariants as faults

abbrev pub hex_text : List ℕ → List ℕ
hex_text [] = codes "-"
hex_text (b ∷ bytes) = encode_lower (b ∷ bytes)

abbrev pub fault_text : ReadFault → List ℕ
fault_text faults.NoSuchNode = codes "read NoSuchNode"
fault_text faults.IsDirectory = codes "read IsDirectory"

abbrev pub answer_text : {Z : Type 0} → Result (Vec ℕ Z) ReadFault → List ℕ
answer_text (Ok bytes) = codes "bytes " ++ hex_text bytes.items
answer_text (Err fault) = fault_text fault

-- the reply for a node with this header and these bytes
abbrev pub text_of_node : Option Header → (bytes : List ℕ) → List ℕ
text_of_node None bytes = fault_text faults.NoSuchNode
text_of_node (Some header) bytes = if is_directory (Some header) then fault_text faults.IsDirectory else codes "bytes " ++ hex_text bytes

-- the reply for at most `count` bytes of a file from `start` on: the bytes, or why there are none
abbrev pub read_text : Tree ℕ → (number start count : ℕ) → List ℕ
read_text t number start count = text_of_node (get (headers t) number) (take count (drop start (content_of (get t.nodes number))))
