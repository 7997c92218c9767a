-- Clients as rows: the parts of one, and that no two have the same number.
use Rattle.std.specs.Prelude.{ℕ, Bool, List}
use Rattle.kfs_model.specs.Access.{Client}
pub use Rattle.kfs_model.specs.Access.{ClientsAreDistinct}

-- the client with these parts
abbrev pub client_row : (number uid gid : ℕ) (groups : List ℕ) (privileged : Bool) (first last : ℕ) → Client
client_row number uid gid groups privileged first last =
    record { number = number; uid = uid; gid = gid; groups = groups; privileged = privileged; first = first; last = last }
