-- What look-ups are answered from the state of a desk. Numbers are big-endian.
use Rattle.std.specs.Prelude.{◌≡◌, ◌⊎◌, ◌<◌, ◌≤◌, ◌+◌, ◌-◌, ◌==◌, ◌&&◌, if◌then◌else◌, nat_le, nat_lt, ℕ, Bool, true, false, List, [], ◌∷◌, ◌++◌, filter, length, take, drop, min, Option, Some, None, Ok, Err}
use Rattle.std.specs.Cmp.Lexicographic.{slice_cmp}
use Rattle.std.specs.List.{flat_map}
use Rattle.std.specs.Ordering.{is_lt, nat_cmp}
use Rattle.std.specs.declared.cmp.Ordering.TheVariants.{Less}
use Rattle.kfs_model.specs.Access.{Client}
use Rattle.kfs_model.specs.Header.{Header}
use Rattle.kfs_model.specs.Lease.{row_of}
use Rattle.kfs_model.specs.Spelling.{byte, header_bytes, number32, number64}
use Rattle.kfs_model.specs.Table.{get}
use Rattle.kfs_model.specs.Tree.{NameTable, content_of, headers, target}
use Rattle.kfs_model.specs.Placement.{tier_size}
use Rattle.kfs_image.specs.Tier.Unused.{unused_places}
use Rattle.kfs_mode.specs.Access.{Permission, permitted_by_state}
use Rattle.kfs_mode.specs.declared.access.Access.TheVariants.{FindName, ListNames, ReadBytes}
use Rattle.kfs_mode.specs.declared.access.AccessFault.{AccessFault}
use Rattle.kfs_mode.specs.declared.access.AccessFault.TheVariants as faults
use Rattle.kfs_desk.specs.Machine.{Desk}
use Rattle.kfs_call.specs.Call.{lease_kind_bytes}
use Rattle.kfs_lease.specs.LeaseLists.{Ascend, LeaseRow, listed_leases}
use Rattle.kfs_plan_maker.specs.PlanMade.{HasNoPlan, IsPlanMade}
use Rattle.kfs_server.specs.LookUps.LookUp.{LookUp, Node, State, Checkpoint, Find, Names, Read, Places, Leases, Plan}

-- the moment, how many rows the docket has, and how many places are free on each of the three tiers
pub record Figures : Type 0 where
  pub moment : ℕ
  pub rows : ℕ
  pub first : ℕ
  pub second : ℕ
  pub third : ℕ

-- how many places a tier has, and how many of them are free
pub record TierFigures : Type 0 where
  pub size : ℕ
  pub free : ℕ

-- what a look-up finds
pub data Found : Type 0 where
  -- the node's header, or none where there is no such node
  NodeIs : (header : Option Header) → Found
  StateIs : (figures : Figures) → Found
  -- the journal was begun anew
  Renewed : Found
  -- the client may not ask for it
  Denied : (why : AccessFault) → Found
  -- where the name leads, or none where there is no such name
  LeadsTo : (number : Option ℕ) → Found
  -- names with the numbers that they lead to, and whether the directory has more behind them
  NamesAre : (more : Bool) (bytes : List ℕ) → Found
  BytesAre : (bytes : List ℕ) → Found
  PlacesAre : (first second third : TierFigures) → Found
  -- leases of the sender, and whether it has more behind them
  LeasesAre : (more : Bool) (bytes : List ℕ) → Found
  -- the plan of the log; none, where an entry has a fault; or that it is longer than a look-up is answered
  PlanIs : (bytes : List ℕ) → Found
  NoPlan : Found
  PlanTooLong : Found

-- ---- the encoding

-- why a client may not ask
abbrev pub denial_code : AccessFault → ℕ
denial_code faults.UnknownClient = 1
denial_code faults.NoSuchNode = 2
denial_code faults.NotDirectory = 3
denial_code faults.IsDirectory = 4
denial_code faults.NoSearch = 5
denial_code faults.NoRead = 6

abbrev pub number_bytes : Option ℕ → List ℕ
number_bytes None = byte 0
number_bytes (Some number) = byte 1 ++ number32 number

abbrev pub more_byte : Bool → ℕ
more_byte false = 0
more_byte true = 1

abbrev pub tier_bytes : TierFigures → List ℕ
tier_bytes tier = number32 tier.size ++ number32 tier.free

abbrev pub figures_bytes : Figures → List ℕ
figures_bytes figures = number64 figures.moment ++ number32 figures.rows ++ number32 figures.first ++ number32 figures.second ++ number32 figures.third

-- a tag, and then what is found; a header as in a plan
abbrev pub found_bytes : Found → List ℕ
found_bytes (NodeIs header) = byte 1 ++ header_bytes header
found_bytes (StateIs figures) = byte 2 ++ figures_bytes figures
found_bytes Renewed = byte 3
found_bytes (Denied why) = byte 4 ++ byte (denial_code why)
found_bytes (LeadsTo number) = byte 5 ++ number_bytes number
found_bytes (NamesAre more bytes) = byte 6 ++ byte (more_byte more) ++ bytes
found_bytes (BytesAre bytes) = byte 7 ++ bytes
found_bytes (PlacesAre first second third) = byte 8 ++ (tier_bytes first ++ tier_bytes second ++ tier_bytes third)
found_bytes (LeasesAre more bytes) = byte 9 ++ byte (more_byte more) ++ bytes
found_bytes (PlanIs bytes) = byte 10 ++ byte 1 ++ bytes
found_bytes NoPlan = byte 10 ++ byte 0
found_bytes PlanTooLong = byte 10 ++ byte 2

-- ---- names of a directory

-- the name comes after the given one, if one is given
abbrev pub IsBehind : Option (List ℕ) → List ℕ → Type 0
IsBehind None name = Unit {0}
IsBehind (Some before) name = slice_cmp nat_cmp before name ≡ Less

-- the name is the directory's least after the given one, and leads to the number
pub record IsNextName (names : NameTable) (directory : ℕ) (after : Option (List ℕ)) (name : List ℕ) (number : ℕ) : Type 0 where
  pub leads : target names directory name ≡ Some number
  pub behind : IsBehind after name
  pub least : (m : List ℕ) (n : ℕ) → target names directory m ≡ Some n → IsBehind after m → is_lt (slice_cmp nat_cmp m name) ≡ false

-- the directory has no name after the given one
abbrev pub HasNoName : NameTable → (directory : ℕ) → (after : Option (List ℕ)) → Type 0
HasNoName names directory after = (name : List ℕ) (number : ℕ) → target names directory name ≡ Some number → IsBehind after name → ⊥

-- a name and the number that it leads to: number, length, and the name's bytes
abbrev pub listed_bytes : (name : List ℕ) (number : ℕ) → List ℕ
listed_bytes name number = number32 number ++ byte (length name) ++ name

-- so many bytes don't hold the directory's next name, which there is
pub record IsNextLonger (names : NameTable) (directory room : ℕ) (after : Option (List ℕ)) : Type 0 where
  pub name : List ℕ
  pub number : ℕ
  pub is : IsNextName names directory after name number
  pub longer : room < 5 + length name

-- these are the directory's names after the given one, in their order: as many as so many bytes hold. There are more
-- exactly where the next one is longer than what is left
abbrev pub IsListing : NameTable → (directory room : ℕ) → (after : Option (List ℕ)) → List (List ℕ × ℕ) → (more : Bool) → Type 0
IsListing names directory room after [] false = HasNoName names directory after
IsListing names directory room after [] true = IsNextLonger names directory room after
IsListing names directory room after (e ∷ listing) more =
    IsNextName names directory after e.0 e.1 × (5 + length e.0 ≤ room) × IsListing names directory (room - (5 + length e.0)) (Some e.0) listing more

abbrev pub listing_bytes : List (List ℕ × ℕ) → List ℕ
listing_bytes [] = []
listing_bytes (e ∷ listing) = listed_bytes e.0 e.1 ++ listing_bytes listing

-- the bytes are such a listing
pub record IsListedIn (names : NameTable) (directory room : ℕ) (after : Option (List ℕ)) (more : Bool) (bytes : List ℕ) : Type 0 where
  pub listing : List (List ℕ × ℕ)
  pub are : IsListing names directory room after listing more
  pub said : bytes ≡ listing_bytes listing

-- ---- leases of a client

-- whether the lease is the client's, on a node from this number on
abbrev pub is_asked : (client first : ℕ) → LeaseRow → Bool
is_asked client first row = (row.client == client) && nat_le first row.number

-- and whether it is live at the moment, too
abbrev pub is_held : (moment client first : ℕ) → LeaseRow → Bool
is_held moment client first row = is_asked client first row && nat_lt moment row.end

-- a lease of a known client: the node's number, the kind, and the end
abbrev pub held_bytes : LeaseRow → List ℕ
held_bytes row = number32 row.number ++ lease_kind_bytes row.kind ++ number64 row.end

-- so much room doesn't hold the next lease, which there is; or there is none
abbrev pub HasNext : (spare : ℕ) → (more : Bool) → List LeaseRow → Type 0
HasNext spare false left = left ≡ []
HasNext spare true left = (0 < length left) × (spare < 13)

-- the bytes are the first of these leases, as many as so many bytes hold
pub record AreFirst (leases : List LeaseRow) (room : ℕ) (more : Bool) (bytes : List ℕ) : Type 0 where
  pub listed : List LeaseRow
  pub left : List LeaseRow
  pub parts : leases ≡ listed ++ left
  pub said : bytes ≡ flat_map held_bytes listed
  pub fit : length bytes ≤ room
  pub next : HasNext (room - length bytes) more left

-- ---- what is found

-- how many places of the tier are free
abbrev pub free_on : Desk → (tier : ℕ) → ℕ
free_on desk tier = length (unused_places desk.state.sizes desk.state.placement tier)

abbrev pub figures_of : Desk → Figures
figures_of desk = record { moment = desk.state.leases.moment; rows = length desk.docket; first = free_on desk 0; second = free_on desk 1; third = free_on desk 2 }

abbrev pub tier_of : Desk → (tier : ℕ) → TierFigures
tier_of desk tier = record { size = tier_size desk.state.sizes tier; free = free_on desk tier }

-- the most bytes of a file, of names, of leases or of a plan that one look-up is answered
abbrev pub found_limit : ℕ
found_limit = 65536

-- what is found where the client may ask, else why it may not
abbrev pub IsFoundIf : Permission → (Found → Type 0) → Found → Type 0
IsFoundIf (Ok done) Is found = Is found
IsFoundIf (Err why) Is found = found ≡ Denied why

-- the names of the directory
pub record AreNames (desk : Desk) (directory limit : ℕ) (after : Option (List ℕ)) (found : Found) : Type 0 where
  pub more : Bool
  pub bytes : List ℕ
  pub listed : IsListedIn desk.state.tree.names directory (min limit found_limit) after more bytes
  pub said : found ≡ NamesAre more bytes

-- the client's live leases on nodes from this number on. `rows` has all leases of the desk, which ascend by node and then by
-- client; there is one such list
pub record AreLeases (desk : Desk) (client first limit : ℕ) (found : Found) : Type 0 where
  pub rows : List LeaseRow
  pub ascend : Ascend rows
  pub all : listed_leases desk.state.leases.moment rows ≡ desk.state.leases
  pub more : Bool
  pub bytes : List ℕ
  pub held : AreFirst (filter (is_held desk.state.leases.moment client first) rows) (min limit found_limit) more bytes
  pub said : found ≡ LeasesAre more bytes

-- ---- the plan of a log

-- what is told of a plan
abbrev pub plan_told : (plan : List ℕ) → Found
plan_told plan = if nat_lt found_limit (length plan) then PlanTooLong else PlanIs plan

-- of the client's log over the desk's tree a plan is told, such as `make_plan` makes
pub record IsPlanTold (desk : Desk) (client : Client) (log : List ℕ) (found : Found) : Type 0 where
  pub plan : List ℕ
  pub made : IsPlanMade client desk.state.tree log plan
  pub told : found ≡ plan_told plan

-- so it is of the log of the client with this row, or it has none: an entry has a fault, though the client holds every
-- node. Without a row the sender is no client
abbrev pub IsPlanFound : Desk → Option Client → (log : List ℕ) → Found → Type 0
IsPlanFound desk None log found = found ≡ Denied faults.UnknownClient
IsPlanFound desk (Some client) log found = IsPlanTold desk client log found ⊎ (HasNoPlan client desk.state.tree log × (found ≡ NoPlan))

-- the sender's look-up finds this at the desk. Where permission is asked, it is what `View::may_find`, `may_list` and
-- `may_read` answer of the desk's state
abbrev pub IsFound : Desk → (from : ℕ) → LookUp → Found → Type 0
IsFound desk from (Node number) found = found ≡ NodeIs (get (headers desk.state.tree) number)
IsFound desk from State found = found ≡ StateIs (figures_of desk)
IsFound desk from Checkpoint found = found ≡ Renewed
IsFound desk from (Find directory name) found =
    IsFoundIf (permitted_by_state desk.state FindName from directory) (λ it. it ≡ LeadsTo (target desk.state.tree.names directory name)) found
IsFound desk from (Names directory limit after) found = IsFoundIf (permitted_by_state desk.state ListNames from directory) (AreNames desk directory limit after) found
IsFound desk from (Read file start count) found =
    IsFoundIf (permitted_by_state desk.state ReadBytes from file) (λ it. it ≡ BytesAre (take (min count found_limit) (drop start (content_of (get desk.state.tree.nodes file))))) found
IsFound desk from Places found = found ≡ PlacesAre (tier_of desk 0) (tier_of desk 1) (tier_of desk 2)
IsFound desk from (Leases first limit) found = AreLeases desk from first limit found
IsFound desk from (Plan log) found = IsPlanFound desk (row_of desk.state.clients from) log found
