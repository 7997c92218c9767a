-- What is checked at each entry, in order, and the first fault.
use Rattle.std.specs.Prelude.{ℕ, ◌+◌, ◌==◌, ◌&&◌, ◌||◌, not, nat_le, nat_lt, pos, Bool, true, false, List, [], ◌∷◌, ◌++◌, map, length, Option, Some, None, is_some, is_none, if◌then◌else◌}
use Rattle.std.specs.Ordering.{int_eq}
use Rattle.kfs_model.specs.Limits.{link_limit, size_limit}
use Rattle.kfs_model.specs.Header.{Kind, Header}
use Rattle.kfs_model.specs.Header.Kind.{File, Directory}
use Rattle.kfs_model.specs.Access.{Client, Want, Search, may_header, may_set_group, owns, is_sticky, is_granted}
use Rattle.kfs_model.specs.Entry.{Entry, Create, Write, Truncate, Link, Unlink, Rename, Chmod, Regroup}
use Rattle.kfs_model.specs.Sight.{Sight, ClientSight, Cell, HeaderOf, NameIn, CountOf, ParentOf, LeaseOn, is_directory, is_file, kind_shown, climb_limit, climb_meets, climbed}

-- why an entry is refused
pub data Reason : Type 0 where
  NoSuchNode NotDirectory IsDirectory NoSuchName NameTaken NumberTaken NumberNotGranted NotEmpty BelowItself TooManyLinks TooBig NoSearch NoWrite NotOwner Sticky NotInGroup : Reason
  NoLease : (number : ℕ) → Reason
  deriving Discrete as Reason-discrete

-- the point at which an entry is judged: the client, what it saw before the log, what it sees now, and
-- the numbers that the log has created
pub record EntryContext : Type 0 where
  pub client : Client
  pub before : ClientSight
  pub now : Sight
  pub created : ℕ → Bool

pub data Check : Type 0 where
  Exists IsADirectory IsAFile MaySearch MayWrite IsOwned IsLeased HasNoNames HasRoomForLink NumberIsGranted NumberIsFree : (number : ℕ) → Check
  NameIsThere NameIsFree : (directory : ℕ) (name : List ℕ) → Check
  -- the client may take a name of the node out of the directory (POSIX.1-2017, XBD 4.3, Directory
  -- Protection)
  MayRemove : (directory number : ℕ) → Check
  -- the client may make this a node's group
  MaySetGroup : (group : ℕ) → Check
  -- a file may end at this byte
  EndIsInRange : (end : ℕ) → Check
  -- the node isn't the directory and doesn't lie above it
  IsNotAbove : (node directory : ℕ) → Check
  -- a check that never fails: it only records that the checks behind it depend on the cell
  Sees : Cell → Check

abbrev pub is_some_and : {X : Type 0} → Option X → (X → Bool) → Bool
is_some_and None test = false
is_some_and (Some x) test = test x

-- no reason where the test passes, else the reason
abbrev pub unless : Bool → Reason → Option Reason
unless true reason = None
unless false reason = Some reason

-- whether the client may use the node in this way
abbrev pub is_permitted : EntryContext → Want → ℕ → Bool
is_permitted context want n = is_some_and (context.now.head n) (λ h. may_header context.client h want)

-- whether the client may write the node, or the log created it as a file
abbrev pub may_write : EntryContext → ℕ → Bool
may_write context n = (context.created n && is_file (context.now.head n)) || is_permitted context Want.Write n

-- whether the client owns the node, or is privileged
abbrev pub is_owner : Client → Option Header → Bool
is_owner client header = is_some_and header (λ h. owns client h.uid)

-- whether the directory isn't sticky, or the client owns the directory or the node, or is privileged
abbrev pub may_remove : Client → (directory node : Option Header) → Bool
may_remove client directory node = (is_some_and directory (λ h. not (is_sticky h.mode)) || is_owner client directory) || is_owner client node

-- whether the client holds a live write lease on the node, or the log created it
abbrev pub is_leased : EntryContext → ℕ → Bool
is_leased context n = context.created n || context.before.held n

-- whether the number was no node's before the log, is none's now, and wasn't created by the log
abbrev pub is_number_free : EntryContext → ℕ → Bool
is_number_free context n = is_none (context.before.sight.head n) && is_none (context.now.head n) && not (context.created n)

-- the reason for which a check fails, if it fails
unfoldable pub fault : EntryContext → Check → Option Reason
fault context (Exists n) = unless (is_some (context.now.head n)) NoSuchNode
fault context (IsADirectory n) = unless (is_directory (context.now.head n)) NotDirectory
fault context (IsAFile n) = unless (not (is_directory (context.now.head n))) IsDirectory
fault context (MaySearch n) = unless (is_permitted context Search n) NoSearch
fault context (MayWrite n) = unless (may_write context n) NoWrite
fault context (IsOwned n) = unless (is_owner context.client (context.now.head n)) NotOwner
fault context (IsLeased n) = unless (is_leased context n) (NoLease n)
fault context (HasNoNames n) = unless (int_eq (context.now.count n) (pos 0)) NotEmpty
fault context (HasRoomForLink n) = unless (is_some_and (context.now.head n) (λ h. nat_lt h.links link_limit)) TooManyLinks
fault context (NumberIsGranted n) = unless (is_granted context.client n) NumberNotGranted
fault context (NumberIsFree n) = unless (is_number_free context n) NumberTaken
fault context (NameIsThere d m) = unless (is_some (context.now.name d m)) NoSuchName
fault context (NameIsFree d m) = unless (is_none (context.now.name d m)) NameTaken
fault context (MayRemove d n) = unless (may_remove context.client (context.now.head d) (context.now.head n)) Sticky
fault context (MaySetGroup group) = unless (may_set_group context.client group) NotInGroup
fault context (EndIsInRange end) = unless (nat_le end size_limit) TooBig
fault context (IsNotAbove n d) = unless (not (climb_meets context.now.parent climb_limit n d)) BelowItself
fault context (Sees cell) = None

-- the cells that a check looks at
unfoldable pub cells : EntryContext → Check → List Cell
cells context (Exists n) = HeaderOf n ∷ []
cells context (IsADirectory n) = HeaderOf n ∷ []
cells context (IsAFile n) = HeaderOf n ∷ []
cells context (MaySearch n) = HeaderOf n ∷ []
cells context (MayWrite n) = HeaderOf n ∷ []
cells context (IsOwned n) = HeaderOf n ∷ []
cells context (IsLeased n) = LeaseOn n ∷ []
cells context (HasNoNames n) = CountOf n ∷ []
cells context (HasRoomForLink n) = HeaderOf n ∷ []
cells context (NumberIsGranted n) = []
cells context (NumberIsFree n) = HeaderOf n ∷ []
cells context (NameIsThere d m) = NameIn d m ∷ []
cells context (NameIsFree d m) = NameIn d m ∷ []
cells context (MayRemove d n) = HeaderOf d ∷ HeaderOf n ∷ []
cells context (MaySetGroup group) = []
cells context (EndIsInRange end) = []
cells context (IsNotAbove n d) = map ParentOf (climbed context.now.parent climb_limit d)
cells context (Sees cell) = cell ∷ []

-- the checks of a directory that the entry changes
abbrev pub may_change_directory : ℕ → List Check
may_change_directory d = MaySearch d ∷ MayWrite d ∷ IsLeased d ∷ []

abbrev pub is_directory_node : ℕ → List Check
is_directory_node d = Exists d ∷ IsADirectory d ∷ []

abbrev pub is_file_node : ℕ → List Check
is_file_node n = Exists n ∷ IsAFile n ∷ []

-- the checks of a node that loses its name in a directory by Unlink, or that a Rename replaces there: it
-- has the wanted kind, may be removed, is leased, and is empty where it is a directory
abbrev pub may_go : Kind → (directory number : ℕ) → List Check
may_go File d t = IsAFile t ∷ MayRemove d t ∷ IsLeased t ∷ []
may_go Directory d t = IsADirectory t ∷ MayRemove d t ∷ IsLeased t ∷ HasNoNames t ∷ []

abbrev pub on_number : Option ℕ → (ℕ → List Check) → List Check
on_number None checks = []
on_number (Some n) checks = checks n

-- the check of a Write's end; a Write without bytes has none
abbrev pub payload_fits : ℕ → List ℕ → List Check
payload_fits offset [] = []
payload_fits offset (b ∷ bs) = EndIsInRange (offset + length (b ∷ bs)) ∷ []

-- the checks of where a Rename moves a node: a directory doesn't go below itself, and a node that is
-- replaced has the same kind
abbrev pub arrival_checks : Kind → (moved directory : ℕ) → Option ℕ → List Check
arrival_checks File s e there = on_number there (may_go File e)
arrival_checks Directory s e there = IsNotAbove s e ∷ on_number there (may_go Directory e)

abbrev pub move_checks : EntryContext → (d e moved : ℕ) → Option ℕ → List Check
move_checks context d e s there =
    MayWrite d ∷ MayWrite e ∷ MayRemove d s ∷ IsLeased d ∷ IsLeased e ∷ IsLeased s ∷ Sees (HeaderOf s)
    ∷ arrival_checks (kind_shown (context.now.head s)) s e there

-- the further checks of a Rename, given what its two names lead to; there are none where that is one
-- node
abbrev pub rename_checks : EntryContext → (d e : ℕ) → (from to : Option ℕ) → List Check
rename_checks context d e None to = []
rename_checks context d e (Some s) None = move_checks context d e s None
rename_checks context d e (Some s) (Some t) = if t == s then [] else move_checks context d e s (Some t)

-- the checks of an entry, in order
unfoldable pub checks_of : EntryContext → Entry → List Check
checks_of context (Create d m n kind mode) = is_directory_node d ++ (may_change_directory d ++ (NameIsFree d m ∷ NumberIsGranted n ∷ NumberIsFree n ∷ []))
checks_of context (Write n offset payload) = is_file_node n ++ (MayWrite n ∷ IsLeased n ∷ payload_fits offset payload)
checks_of context (Truncate n size) = is_file_node n ++ (MayWrite n ∷ IsLeased n ∷ EndIsInRange size ∷ [])
checks_of context (Link n d m) = is_file_node n ++ (is_directory_node d ++ (may_change_directory d ++ (IsLeased n ∷ NameIsFree d m ∷ HasRoomForLink n ∷ [])))
checks_of context (Unlink d m kind) = is_directory_node d ++ (may_change_directory d ++ (NameIsThere d m ∷ on_number (context.now.name d m) (may_go kind d)))
checks_of context (Rename d m e k) =
    is_directory_node d ++ (is_directory_node e ++ (MaySearch d ∷ MaySearch e ∷ NameIsThere d m ∷ Sees (NameIn e k)
    ∷ rename_checks context d e (context.now.name d m) (context.now.name e k)))
checks_of context (Chmod n mode) = Exists n ∷ IsOwned n ∷ IsLeased n ∷ []
checks_of context (Regroup n group) = Exists n ∷ IsOwned n ∷ MaySetGroup group ∷ IsLeased n ∷ []

-- the reason of the first check that fails
unfoldable pub first_failing : EntryContext → List Check → Option Reason
first_failing context [] = None
first_failing context (check ∷ checks) = elim (fault context check) [ None ↦ first_failing context checks | Some reason ↦ Some reason ]

abbrev pub first_fault : EntryContext → Entry → Option Reason
first_fault context entry = first_failing context (checks_of context entry)

-- the cells of the checks up to the first that fails
unfoldable pub looked : EntryContext → List Check → List Cell
looked context [] = []
looked context (check ∷ checks) = cells context check ++ elim (fault context check) [ None ↦ looked context checks | Some reason ↦ [] ]

abbrev pub entry_cells : EntryContext → Entry → List Cell
entry_cells context entry = looked context (checks_of context entry)
