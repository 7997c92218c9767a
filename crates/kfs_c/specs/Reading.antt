-- What is read from a desk.
use Rattle.std.specs.Prelude.{◌≡◌, ◌⊎◌, ◌<◌, ℕ, List, [], ◌++◌, take, drop, length, false, IsTrue, Some, None}
use Rattle.std.specs.Cmp.Lexicographic.{slice_cmp}
use Rattle.std.specs.Ordering.{is_lt, nat_cmp}
use Rattle.std.specs.declared.cmp.Ordering.TheVariants.{Less}
use Rattle.kfs_model.specs.Access.{Client}
use Rattle.kfs_model.specs.Lease.{row_of}
use Rattle.kfs_model.specs.Sight.{is_directory}
use Rattle.kfs_model.specs.PlanRow.{Plan}
use Rattle.kfs_model.specs.Spelling.{IsName, plan_bytes}
use Rattle.kfs_image.specs.Tier.Unused.{unused_places}
use Rattle.kfs_model.specs.Table.{get}
use Rattle.kfs_model.specs.Tree.{NameTable, content_of, headers, target}
use Rattle.kfs_model.specs.Device.Canonical.{canonical_bytes}
use Rattle.kfs_types.specs.Views.{header_of}
use Rattle.kfs_types.specs.declared.entry.Header.{Header}
use Rattle.kfs_desk.specs.Machine.{Desk}
use Rattle.kfs_plan_maker.specs.PlanMade.{HasNoPlan, IsPlanMade}
use Rattle.kfs_c.specs.declared.numbers.NodeNumbers.{NodeNumbers}
use Rattle.kfs_c.specs.Told.{header_told}

-- the desk's tree has the node, whose header this is
abbrev pub IsNode : (number : ℕ) → NodeNumbers → Desk → Type 0
IsNode number told desk = (h : Header) × (get (headers desk.state.tree) number ≡ Some (header_of h)) × (told ≡ header_told h)

-- the desk's tree has no such node
abbrev pub HasNoNode : (number : ℕ) → Desk → Type 0
HasNoNode number desk = get (headers desk.state.tree) number ≡ None

-- the node with this number is a directory of the desk's tree
abbrev pub IsDirectoryAt : (number : ℕ) → Desk → Type 0
IsDirectoryAt number desk = IsTrue (is_directory (get (headers desk.state.tree) number))

-- the name of the directory leads to the number
abbrev pub LeadsTo : (directory : ℕ) (name : List ℕ) (number : ℕ) → Desk → Type 0
LeadsTo directory name number desk = target desk.state.tree.names directory name ≡ Some number

-- the bytes are a name, and lead nowhere in the directory
abbrev pub LacksName : (directory : ℕ) (name : List ℕ) → Desk → Type 0
LacksName directory name desk = IsName name × (target desk.state.tree.names directory name ≡ None)

-- a buffer begins with these bytes, and is as it was behind them
abbrev pub BeginsWith : (bytes old new : List ℕ) → (count : ℕ) → Type 0
BeginsWith bytes old new count = (count ≡ length bytes) × (new ≡ bytes ++ drop count old)

-- the bytes are longer than the buffer, and this is their length
abbrev pub AreLonger : (bytes buffer : List ℕ) → (count : ℕ) → Type 0
AreLonger bytes buffer count = (count ≡ length bytes) × (length buffer < count)

-- as many bytes of the file from `start` on as the buffer takes and the file has
abbrev pub IsRead : (number start : ℕ) (old new : List ℕ) (count : ℕ) → Desk → Type 0
IsRead number start old new count desk =
    BeginsWith (take (length old) (drop start (content_of (get desk.state.tree.nodes number)))) old new count

-- the bytes of the desk's image, in their one encoding
abbrev pub saved_bytes : Desk → List ℕ
saved_bytes desk = canonical_bytes desk.state.sizes desk.state.tree desk.state.placement

-- the block of the file lies at this place
abbrev pub IsPlaced : (number block tier place : ℕ) → Desk → Type 0
IsPlaced number block tier place desk = get desk.state.placement (number, block) ≡ Some (record { tier = tier; place = place })

-- the block of the file lies nowhere
abbrev pub IsUnplaced : (number block : ℕ) → Desk → Type 0
IsUnplaced number block desk = get desk.state.placement (number, block) ≡ None

-- how many places of the tier hold no block
abbrev pub free_places : (tier : ℕ) → Desk → ℕ
free_places tier desk = length (unused_places desk.state.sizes desk.state.placement tier)

-- the plan of version 1 that says that nothing differs
abbrev pub no_rows : Plan
no_rows = record { version = 1; names = []; nodes = []; pieces = [] }

-- the bytes are a right plan for the log of the desk's client with this number, over the desk's tree
abbrev pub IsPlanFor : (number : ℕ) (log bytes : List ℕ) → Desk → Type 0
IsPlanFor number log bytes desk =
    (client : Client) × (row_of desk.state.clients number ≡ Some client) × IsPlanMade client desk.state.tree log bytes

-- the desk's client has no plan for the log
abbrev pub LacksPlan : Client → (log : List ℕ) → Desk → Type 0
LacksPlan client log desk = HasNoPlan client desk.state.tree log

abbrev pub HasNoPlanFor : (number : ℕ) (log : List ℕ) → Desk → Type 0
HasNoPlanFor number log desk = (client : Client) × (row_of desk.state.clients number ≡ Some client) × LacksPlan client log desk

-- the desk has no such client, or the client has no plan for the log
abbrev pub IsWithoutPlan : (number : ℕ) (log : List ℕ) → Desk → Type 0
IsWithoutPlan number log desk = (row_of desk.state.clients number ≡ None) ⊎ HasNoPlanFor number log desk

-- the plan with which a log is handed in: a right one, or one of no rows where there is none
abbrev pub IsPlanTaken : (number : ℕ) (log bytes : List ℕ) → Desk → Type 0
IsPlanTaken number log bytes desk = IsPlanFor number log bytes desk ⊎ (IsWithoutPlan number log desk × (bytes ≡ plan_bytes no_rows))

-- the buffer begins with such a plan
abbrev pub IsPlanned : (number : ℕ) (log old new : List ℕ) (count : ℕ) → Desk → Type 0
IsPlanned number log old new count desk = (bytes : List ℕ) × IsPlanFor number log bytes desk × BeginsWith bytes old new count

-- such a plan is longer than the buffer
abbrev pub IsPlanLonger : (number : ℕ) (log buffer : List ℕ) (count : ℕ) → Desk → Type 0
IsPlanLonger number log buffer count desk = (bytes : List ℕ) × IsPlanFor number log bytes desk × AreLonger bytes buffer count

-- no bytes, or a name: after these names are listed
abbrev pub IsStart : (after : List ℕ) → Type 0
IsStart after = (length after ≡ 0) ⊎ IsName after

-- the name comes after the bytes: each name does where these are none
abbrev pub IsLater : (after name : List ℕ) → Type 0
IsLater after name = slice_cmp nat_cmp after name ≡ Less

-- the name is the directory's least one after the bytes, and leads to the number
pub record IsNextName (names : NameTable) (directory : ℕ) (after name : List ℕ) (number : ℕ) : Type 0 where
  pub leads : target names directory name ≡ Some number
  pub later : IsLater after name
  pub least : (m : List ℕ) (n : ℕ) → target names directory m ≡ Some n → IsLater after m → is_lt (slice_cmp nat_cmp m name) ≡ false

-- the buffer begins with that name
abbrev pub IsListed : (directory : ℕ) (after old new : List ℕ) (count number : ℕ) → Desk → Type 0
IsListed directory after old new count number desk =
    (name : List ℕ) × IsNextName desk.state.tree.names directory after name number × BeginsWith name old new count

-- that name is longer than the buffer
abbrev pub IsNameLonger : (directory : ℕ) (after buffer : List ℕ) (count : ℕ) → Desk → Type 0
IsNameLonger directory after buffer count desk =
    (name : List ℕ) × (number : ℕ) × IsNextName desk.state.tree.names directory after name number × AreLonger name buffer count

-- no name of the directory comes after the bytes
abbrev pub HasNoNameAfter : NameTable → (directory : ℕ) → (after : List ℕ) → Type 0
HasNoNameAfter names directory after = (name : List ℕ) (number : ℕ) → target names directory name ≡ Some number → IsLater after name → ⊥

abbrev pub HasNoLater : (directory : ℕ) → (after : List ℕ) → Desk → Type 0
HasNoLater directory after desk = HasNoNameAfter desk.state.tree.names directory after
