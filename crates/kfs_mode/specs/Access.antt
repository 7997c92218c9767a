-- Who may look a name up in a directory, list its names, or read a file (POSIX.1-2017, XBD 4.5, File Access
-- Permissions, and 4.13, Pathname Resolution).
use Rattle.std.specs.Prelude.{ℕ, Bool, true, false, List, Option, Some, None, Result, Ok, Err, if◌then◌else◌}
use Rattle.kfs_model.specs.Access.{Client, Want, may_header}
use Rattle.kfs_model.specs.Header.{Header}
use Rattle.kfs_model.specs.Judgement.{State}
use Rattle.kfs_model.specs.Lease.{row_of}
use Rattle.kfs_model.specs.Sight.{Sight, is_directory, sight}
use Rattle.kfs_mode.specs.declared.access.Access.{Access}
use Rattle.kfs_mode.specs.declared.access.Access.TheVariants.{FindName, ListNames, ReadBytes}
use Rattle.kfs_mode.specs.declared.access.AccessFault.{AccessFault}
use Rattle.kfs_mode.specs.declared.access.AccessFault.TheVariants.{UnknownClient, NoSuchNode, NotDirectory, IsDirectory, NoSearch, NoRead}

-- that the client may, or why not
abbrev pub Permission : Type 0
Permission = Result (Unit {0}) AccessFault

abbrev pub permitted_if : Bool → AccessFault → Permission
permitted_if true fault = Ok tt
permitted_if false fault = Err fault

-- what a node with this header permits the client: a name of a directory takes search permission on it, all
-- of its names read permission, and so do the bytes of a file
abbrev pub permitted_by_header : Header → Client → Access → Permission
permitted_by_header h client FindName = if is_directory (Some h) then permitted_if (may_header client h Want.Search) NoSearch else Err NotDirectory
permitted_by_header h client ListNames = if is_directory (Some h) then permitted_if (may_header client h Want.Read) NoRead else Err NotDirectory
permitted_by_header h client ReadBytes = if is_directory (Some h) then Err IsDirectory else permitted_if (may_header client h Want.Read) NoRead

-- the same where there may be no such client, or no such node
abbrev pub permitted_between : Option Client → Option Header → Access → Permission
permitted_between None header access = Err UnknownClient
permitted_between (Some client) None access = Err NoSuchNode
permitted_between (Some client) (Some h) access = permitted_by_header h client access

-- what is permitted to the client with this number on the node with that number, by these clients and this sight
abbrev pub permitted_to : List Client → Sight → Access → (client number : ℕ) → Permission
permitted_to clients sight access client number = permitted_between (row_of clients client) (sight.head number) access

-- by a state
abbrev pub permitted_by_state : State → Access → (client number : ℕ) → Permission
permitted_by_state s access client number = permitted_to s.clients (sight s.tree) access client number
