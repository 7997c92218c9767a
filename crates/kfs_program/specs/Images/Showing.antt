-- What is written for a line that says an image.
use Rattle.std.specs.Prelude.{◌≡◌, ℕ, List, ◌++◌, codes, Bool, true, false, Option, Some, None, Ok}
use Rattle.std.specs.List.{flat_map}
use Rattle.hex.specs.Hex.{encode_lower}
use Rattle.kfs_model.specs.Device.ShownTree.{DeviceImage}
use Rattle.kfs_model.specs.Device.Finding.{IsWellFormed}
use Rattle.kfs_model.specs.Device.Spelling.{ImageAnswer}
use Rattle.kfs_types.specs.declared.plan.NameRow.{NameRow}
use Rattle.kfs_image.specs.declared.codec.raw.RawImage.{RawImage}
use Rattle.kfs_image.specs.declared.codec.raw.RawNode.{RawNode}
use Rattle.kfs_image.specs.Codec.RawImages.{raw_of}
use Rattle.kfs_program_text.specs.Cut.{cut, space}
use Rattle.kfs_program_text.specs.Decimals.{hexadecimal}
use Rattle.kfs_program_text.specs.Parts.{field_text, line_of}
use Rattle.kfs_program_text.specs.Reading.{only}
use Rattle.kfs_program.specs.Report.{node_text}
use Rattle.kfs_program.specs.Images.Loading.{IsLoaded, SaysWhyNot}

-- the bytes that a line says in hexadecimal, none where it says no bytes
abbrev pub bytes_said : (line : List ℕ) → Option (List ℕ)
bytes_said line = only hexadecimal (cut space line)

-- the line of a node's row
abbrev pub node_row_line : RawNode → List ℕ
node_row_line row = line_of (node_text row.number row.header)

-- the line of a name's row: its directory, its bytes in hexadecimal, the number that it leads to
abbrev pub name_row_line : NameRow (List ℕ) → List ℕ
name_row_line row = line_of (codes "name" ++ (field_text row.dir ++ (codes " " ++ (encode_lower row.name ++ field_text row.number))))

-- a line for each node and then one for each name, in the order of the rows; those of a well formed
-- image ascend
abbrev pub show_text : {A : Type 0} → RawImage A → List ℕ
show_text raw = flat_map node_row_line raw.nodes.items ++ flat_map name_row_line raw.names.items

-- the bytes decode to rows that break no rule, and the text shows them
abbrev pub Shows : (A : Type 0) → (bytes text : List ℕ) → Type 0
Shows A bytes text = (raw : RawImage A) × ImageAnswer bytes (Ok (raw_of raw)) × IsWellFormed (raw_of raw) × (text ≡ show_text raw)

-- the bytes decode to rows that break no rule, and the text says so
abbrev pub Passes : (bytes text : List ℕ) → Type 0
Passes bytes text = (image : DeviceImage) × IsLoaded bytes image × (text ≡ line_of (codes "ok"))

-- what is written for the bytes that a line says: where they make an image, what is said of it, else why
-- they make none; a line that says no bytes is a bad line
abbrev pub AnswersImage : ((bytes text : List ℕ) → Type 0) → Option (List ℕ) → (is_image : Bool) → (text : List ℕ) → Type 0
AnswersImage Says (Some bytes) true text = Says bytes text
AnswersImage Says (Some bytes) false text = (line : List ℕ) × SaysWhyNot bytes line × (text ≡ line_of line)
AnswersImage Says None true text = ⊥
AnswersImage Says None false text = text ≡ line_of (codes "bad line")

-- such a text is appended
abbrev pub AppendsAnswer : ((bytes text : List ℕ) → Type 0) → (line before after : List ℕ) → (is_image : Bool) → Type 0
AppendsAnswer Says line before after is_image = (text : List ℕ) × (after ≡ before ++ text) × AnswersImage Says (bytes_said line) is_image text
