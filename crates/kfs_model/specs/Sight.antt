-- What the cells of a state show, apart from the bytes: this is all that a check of an entry looks at.
use Rattle.std.specs.Prelude.{ℕ, zero, suc, ◌==◌, ◌&&◌, not, ℤ, pos, List, [], ◌∷◌, find, Option, Some, None, option_map, if◌then◌else◌, Bool, true, false}
use Rattle.kfs_model.specs.Header.{Kind, Header}
use Rattle.kfs_model.specs.Header.Kind.{File, Directory}
use Rattle.kfs_model.specs.Limits.{greatest_number, root_number}
use Rattle.kfs_model.specs.Table.{Table, numbers, get}
use Rattle.kfs_model.specs.Tree.{Tree, NameTable, headers, target, entry_count}

-- A cell: one thing that a client can look at.
pub data Cell : Type 0 where
  -- the header of a node, or none
  HeaderOf : (number : ℕ) → Cell
  -- the number that a name leads to, or none
  NameIn : (directory : ℕ) (name : List ℕ) → Cell
  -- how many names a directory has
  CountOf : (directory : ℕ) → Cell
  -- the directory that has a directory's name; none for the root and for what is no directory
  ParentOf : (number : ℕ) → Cell
  -- whether the client holds a live write lease on the node
  LeaseOn : (number : ℕ) → Cell

pub record Sight : Type 0 where
  pub head : ℕ → Option Header
  pub name : ℕ → List ℕ → Option ℕ
  pub count : ℕ → ℤ
  pub parent : ℕ → Option ℕ

abbrev pub is_directory : Option Header → Bool
is_directory None = false
is_directory (Some h) = of_kind h.kind
  where
    of_kind : Kind → Bool
    of_kind File = false
    of_kind Directory = true

abbrev pub is_file : Option Header → Bool
is_file None = false
is_file (Some h) = of_kind h.kind
  where
    of_kind : Kind → Bool
    of_kind File = true
    of_kind Directory = false

-- the kind that a header shows; of no node, a file
abbrev pub kind_shown : Option Header → Kind
kind_shown None = File
kind_shown (Some h) = h.kind

-- the directory with the least name that leads to the number
abbrev pub holder : NameTable → ℕ → Option ℕ
holder names number = option_map (λ e. e.0.0) (find (λ e. e.1 == number) names.entries)

abbrev pub parent_in : (ℕ → Option Header) → NameTable → ℕ → Option ℕ
parent_in head names number = if is_directory (head number) && not (number == root_number) then holder names number else None

-- the cells of a tree with these headers and names
abbrev pub sight_over : (heads : Table numbers Header) → (names : NameTable) → Sight
sight_over heads names = record {
  head = get heads;
  name = target names;
  count = λ directory. pos (entry_count names directory);
  parent = parent_in (get heads) names;
}

abbrev pub sight : {B : Type 0} → Tree B → Sight
sight t = sight_over (headers t) t.names

-- the answer at a cell
pub data Answer : Type 0 where
  Head : Option Header → Answer
  Number : Option ℕ → Answer
  Count : ℤ → Answer
  Held : Bool → Answer

-- what one client sees of a state: nodes and names, and on which nodes it holds a live write lease
pub record ClientSight : Type 0 where
  pub sight : Sight
  pub held : ℕ → Bool

-- what a client that holds these nodes sees of a tree
abbrev pub client_sight : {B : Type 0} → Tree B → (held : ℕ → Bool) → ClientSight
client_sight t held = record { sight = sight t; held = held }

abbrev pub answer : ClientSight → Cell → Answer
answer s (HeaderOf n) = Head (s.sight.head n)
answer s (NameIn d m) = Number (s.sight.name d m)
answer s (CountOf d) = Count (s.sight.count d)
answer s (ParentOf n) = Number (s.sight.parent n)
answer s (LeaseOn n) = Held (s.held n)

-- the most steps of a climb: in a sound tree no directory lies deeper than there are numbers
abbrev pub climb_limit : ℕ
climb_limit = greatest_number

-- whether a climb along the parents meets the node; the node where it begins counts
unfoldable pub climb_meets : (ℕ → Option ℕ) → (fuel node from : ℕ) → Bool
climb_meets parent zero node from = from == node
climb_meets parent (suc fuel) node from =
    elim (from == node) [ true ↦ true | false ↦ elim (parent from) [ None ↦ false | Some up ↦ climb_meets parent fuel node up ] ]

-- the nodes that a climb passes, from where it begins on
unfoldable pub climbed : (ℕ → Option ℕ) → (fuel from : ℕ) → List ℕ
climbed parent zero from = from ∷ []
climbed parent (suc fuel) from = from ∷ elim (parent from) [ None ↦ [] | Some up ↦ climbed parent fuel up ]
