-- The word `plan`: what it says for an image, a client and a log.
use Rattle.std.specs.Prelude.{◌≡◌, ℕ, List, [], ◌∷◌, ◌++◌, Bool, true, false, codes, bytes_eq, Option, Some, None, Ok, Err, if◌then◌else◌}
use Rattle.kfs_model.specs.Access.{Client}
use Rattle.kfs_model.specs.Device.ShownTree.{DeviceImage, shown_tree}
use Rattle.kfs_program_text.specs.Cut.{cut, space}
use Rattle.kfs_program_text.specs.Decimals.{hexadecimal}
use Rattle.kfs_program_text.specs.Parts.{line_of}
use Rattle.kfs_program_text.specs.Reading.{only}
use Rattle.kfs_program_text.specs.Command.{Command, Load, Row, Setup, asked_by}
use Rattle.kfs_program.specs.Images.Loading.{IsLoaded, SaysWhyNot}
use Rattle.kfs_program.specs.Engine.PlanLine.{SaysPlan}
use Rattle.kfs_program.specs.Report.{client_text}

-- the text of a line that isn't the one wanted
abbrev pub bad_line : List ℕ
bad_line = line_of (codes "bad line")

-- ---- the image

-- the line is `image HEX`, and its bytes make this image
abbrev pub IsImageOf : (asked : Option Command) → DeviceImage → Type 0
IsImageOf (Some (Load bytes)) image = IsLoaded bytes image
IsImageOf asked image = ⊥

-- the text says why the line makes no image: its bytes make none, or it is another line
abbrev pub RefusesImage : (asked : Option Command) → (text : List ℕ) → Type 0
RefusesImage (Some (Load bytes)) text = (why : List ℕ) × SaysWhyNot bytes why × (text ≡ line_of why)
RefusesImage asked text = text ≡ bad_line

-- one of both, for an empty text
abbrev pub TakesImage : (asked : Option Command) → Option DeviceImage → (text : List ℕ) → Type 0
TakesImage asked (Some image) text = IsImageOf asked image × (text ≡ [])
TakesImage asked None text = RefusesImage asked text

-- ---- the client

-- the line is `client ..`, and this is the client
abbrev pub IsClientOf : (asked : Option Command) → Client → Type 0
IsClientOf (Some (Setup (Row (Ok row)))) client = client ≡ row
IsClientOf asked client = ⊥

-- the text says why the line makes no client: its client is refused, or it is another line
abbrev pub RefusesClient : (asked : Option Command) → (text : List ℕ) → Type 0
RefusesClient (Some (Setup (Row (Ok row)))) text = ⊥
RefusesClient (Some (Setup (Row (Err fault)))) text = text ≡ line_of (codes "client " ++ client_text fault)
RefusesClient asked text = text ≡ bad_line

abbrev pub TakesClient : (asked : Option Command) → Option Client → (text : List ℕ) → Type 0
TakesClient asked (Some client) text = IsClientOf asked client × (text ≡ [])
TakesClient asked None text = RefusesClient asked text

-- ---- the log

-- the bytes in `log HEX`, none where the words are others
abbrev pub log_in : (words : List (List ℕ)) → Option (List ℕ)
log_in [] = None
log_in (name ∷ words) = if bytes_eq name (codes "log") then only hexadecimal words else None

abbrev pub log_said : (line : List ℕ) → Option (List ℕ)
log_said line = log_in (cut space line)

-- the text says the plan of the client's log for the image, or that there is none; without a log it is a
-- bad line
abbrev pub SaysForLog : DeviceImage → Client → (log : Option (List ℕ)) → (is_log : Bool) → (text : List ℕ) → Type 0
SaysForLog image client None true text = ⊥
SaysForLog image client None false text = text ≡ bad_line
SaysForLog image client (Some log) true text = (line : List ℕ) × SaysPlan client (shown_tree image) log line × (text ≡ line_of line)
SaysForLog image client (Some log) false text = ⊥

-- ---- the word

-- having taken these lines, the word wants a further one: the image, the client of an image, the log of a
-- client
abbrev pub WantsForPlan : (lines : List (List ℕ)) → Type 0
WantsForPlan [] = Unit {0}
WantsForPlan (image_line ∷ []) = (image : DeviceImage) × IsImageOf (asked_by image_line) image
WantsForPlan (image_line ∷ client_line ∷ []) = (image : DeviceImage) × (client : Client) × IsImageOf (asked_by image_line) image × IsClientOf (asked_by client_line) client
WantsForPlan lines = ⊥

-- having taken these lines, the word wants no more, and says this: why the last of them is refused, or the
-- plan
abbrev pub SaysOfPlan : (lines : List (List ℕ)) → (is_log : Bool) → (text : List ℕ) → Type 0
SaysOfPlan (image_line ∷ []) false text = RefusesImage (asked_by image_line) text
SaysOfPlan (image_line ∷ client_line ∷ []) false text = (image : DeviceImage) × IsImageOf (asked_by image_line) image × RefusesClient (asked_by client_line) text
SaysOfPlan (image_line ∷ client_line ∷ log_line ∷ []) is_log text =
    (image : DeviceImage) × (client : Client) × IsImageOf (asked_by image_line) image × IsClientOf (asked_by client_line) client × SaysForLog image client (log_said log_line) is_log text
SaysOfPlan lines is_log text = ⊥
