-- What an entry needs: facts about the client, its leases, the tree and the numbers created so far,
-- with no order among them.
use Rattle.std.specs.Prelude.{◌≡◌, ◌≤◌, ◌⊎◌, not, ℕ, List, Some, IsTrue}
use Rattle.kfs_model.specs.Header.{Header}
use Rattle.kfs_model.specs.Access.{Want, may_header, is_in_group, owns, is_sticky, Search}
use Rattle.kfs_model.specs.Entry.{Entry, Create, Write, Truncate, Link, Unlink, Rename, Chmod, Regroup}
use Rattle.kfs_model.specs.Check.{EntryContext}

-- the client may use the node in this way
abbrev pub IsGrantedBit : EntryContext → Want → ℕ → Type 0
IsGrantedBit context want n = (h : Header) × (context.now.head n ≡ Some h) × IsTrue (may_header context.client h want)

-- the log created the node, or the client holds a live write lease on it
abbrev pub IsLeasedTo : EntryContext → ℕ → Type 0
IsLeasedTo context n = IsTrue (context.created n) ⊎ IsTrue (context.before.held n)

-- the client owns the node, or is privileged
abbrev pub IsOwner : EntryContext → ℕ → Type 0
IsOwner context n = (h : Header) × (context.now.head n ≡ Some h) × IsTrue (owns context.client h.uid)

abbrev pub IsNotSticky : EntryContext → ℕ → Type 0
IsNotSticky context n = (h : Header) × (context.now.head n ≡ Some h) × IsTrue (not (is_sticky h.mode))

pub record MayChangeDirectory (context : EntryContext) (directory : ℕ) : Type 0 where
  pub search : IsGrantedBit context Search directory
  pub write : IsGrantedBit context Want.Write directory
  pub leased : IsLeasedTo context directory

pub record MayChangeFile (context : EntryContext) (number : ℕ) : Type 0 where
  pub write : IsGrantedBit context Want.Write number ⊎ IsTrue (context.created number)
  pub leased : IsLeasedTo context number

-- the node may lose a name in the directory: it is leased, and the directory isn't sticky or the client
-- owns the one or the other (POSIX.1-2017, XBD 4.3, Directory Protection)
pub record MayLoseName (context : EntryContext) (directory number : ℕ) : Type 0 where
  pub unprotected : IsNotSticky context directory ⊎ (IsOwner context directory ⊎ IsOwner context number)
  pub leased : IsLeasedTo context number

-- the name leads to this node
abbrev pub NameLeadsTo : EntryContext → ℕ → List ℕ → ℕ → Type 0
NameLeadsTo context directory name number = context.now.name directory name ≡ Some number

pub record MayCreate (context : EntryContext) (directory number : ℕ) : Type 0 where
  pub in_directory : MayChangeDirectory context directory
  pub least : context.client.first ≤ number
  pub greatest : number ≤ context.client.last

pub record MayLink (context : EntryContext) (number directory : ℕ) : Type 0 where
  pub in_directory : MayChangeDirectory context directory
  pub leased : IsLeasedTo context number

pub record MayUnlink (context : EntryContext) (directory : ℕ) (name : List ℕ) : Type 0 where
  pub in_directory : MayChangeDirectory context directory
  pub removed : (number : ℕ) × NameLeadsTo context directory name number × MayLoseName context directory number

pub record MayMove (context : EntryContext) (d : ℕ) (m : List ℕ) (e : ℕ) (k : List ℕ) : Type 0 where
  pub from : MayChangeDirectory context d
  pub to : MayChangeDirectory context e
  pub moved : (number : ℕ) × NameLeadsTo context d m number × MayLoseName context d number
  pub replaced : (number : ℕ) → NameLeadsTo context e k number → MayLoseName context e number

-- both names lead to the same node, so that a Rename changes nothing
pub record MayKeep (context : EntryContext) (d : ℕ) (m : List ℕ) (e : ℕ) (k : List ℕ) : Type 0 where
  pub same : (number : ℕ) × NameLeadsTo context d m number × NameLeadsTo context e k number
  pub from : IsGrantedBit context Search d
  pub to : IsGrantedBit context Search e

pub record MayChmod (context : EntryContext) (number : ℕ) : Type 0 where
  pub owner : IsOwner context number
  pub leased : IsLeasedTo context number

pub record MayRegroup (context : EntryContext) (number group : ℕ) : Type 0 where
  pub owner : IsOwner context number
  pub member : IsTrue (is_in_group context.client group) ⊎ IsTrue context.client.privileged
  pub leased : IsLeasedTo context number

abbrev pub IsAllowed : EntryContext → Entry → Type 0
IsAllowed context (Create d m n kind mode) = MayCreate context d n
IsAllowed context (Write n offset payload) = MayChangeFile context n
IsAllowed context (Truncate n size) = MayChangeFile context n
IsAllowed context (Link n d m) = MayLink context n d
IsAllowed context (Unlink d m kind) = MayUnlink context d m
IsAllowed context (Rename d m e k) = MayKeep context d m e k ⊎ MayMove context d m e k
IsAllowed context (Chmod n mode) = MayChmod context n
IsAllowed context (Regroup n group) = MayRegroup context n group
