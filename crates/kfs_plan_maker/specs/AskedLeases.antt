-- The nodes of which a log may ask leases, and what a client sees that holds every node.
use Rattle.std.specs.Prelude.{◌≡◌, ℕ, Bool, true, List, [], ◌∷◌, ◌++◌, Option, Some, None}
use Rattle.kfs_model.specs.Entry.{Entry, Create, Write, Truncate, Link, Unlink, Rename, Chmod, Regroup}
use Rattle.kfs_model.specs.Sight.{ClientSight, client_sight}
use Rattle.kfs_model.specs.Tree.{Tree}
use Rattle.std.specs.List.{AllByRecursion}
use Rattle.kfs_types.specs.Views.{entry_of}
use Rattle.kfs_types.specs.declared.entry.Entry.{Entry as CodeEntry}
use Rattle.kfs_types.specs.declared.entry.Span.{Span}

-- what the client sees of a tree while it holds a lease for writing on every node
abbrev pub sight_with_leases : Tree ℕ → ClientSight
sight_with_leases t = client_sight t (λ number. true)

abbrev pub listed : Option ℕ → List ℕ
listed None = []
listed (Some number) = number ∷ []

-- the numbers that an entry names, and those to which its names lead, if it takes names out
abbrev pub numbers_named : (name : ℕ → List ℕ → Option ℕ) → Entry → List ℕ
numbers_named name (Create d m n kind mode) = d ∷ n ∷ []
numbers_named name (Write n offset payload) = n ∷ []
numbers_named name (Truncate n size) = n ∷ []
numbers_named name (Link n d m) = n ∷ d ∷ []
numbers_named name (Unlink d m kind) = d ∷ listed (name d m)
numbers_named name (Rename d m e k) = d ∷ e ∷ (listed (name d m) ++ listed (name e k))
numbers_named name (Chmod n mode) = n ∷ []
numbers_named name (Regroup n group) = n ∷ []

-- the same of an entry of the code; its payload doesn't matter
abbrev pub named_in : (name : ℕ → List ℕ → Option ℕ) → CodeEntry Span (List ℕ) → List ℕ
named_in name entry = numbers_named name (entry_of [] entry)

-- the client holds these nodes of the entry
abbrev pub HoldsNamed : (held : ℕ → Bool) → (name : ℕ → List ℕ → Option ℕ) → Entry → Type 0
HoldsNamed held name entry = AllByRecursion (λ number. held number ≡ true) (numbers_named name entry)
