-- A sound tree: it has a root, each other directory has one name, and all is in range. This concerns
-- headers and names alone, so it is the same for trees of bytes and of marks.
use Rattle.std.specs.Prelude.{◌≡◌, ◌≢◌, ℕ, zero, suc, ◌<◌, ◌≤◌, ◌^◌, List, Option, Some, IsTrue}
use Rattle.kfs_model.specs.Header.{Header}
use Rattle.kfs_model.specs.Limits.{greatest_mode, greatest_number, link_limit, root_number, size_limit}
use Rattle.kfs_model.specs.Table.{Table, numbers, get}
use Rattle.kfs_model.specs.Tree.{Tree, NameTable, headers, target, name_count}
use Rattle.kfs_model.specs.Sight.{parent_in, is_directory, is_file}
use Rattle.kfs_model.specs.Spelling.{IsName}

-- so many steps up along the parents lead from the one to the other
abbrev pub Climbs : (ℕ → Option ℕ) → (steps from to : ℕ) → Type 0
Climbs parent zero from to = from ≡ to
Climbs parent (suc steps) from to = (up : ℕ) × (parent from ≡ Some up) × Climbs parent steps up to

pub record InRange (number : ℕ) (h : Header) : Type 0 where
  pub least : 1 ≤ number
  pub greatest : number ≤ greatest_number
  pub mode : h.mode ≤ greatest_mode
  pub uid : h.uid < 2 ^ 32
  pub gid : h.gid < 2 ^ 32
  pub size : h.size ≤ size_limit

module _ (head : ℕ → Option Header) (names : NameTable) where
  pub record NameIsSound (directory : ℕ) (name : List ℕ) (number : ℕ) : Type 0 where
    pub spelled : IsName name
    pub holder : IsTrue (is_directory (head directory))
    pub node : (h : Header) × (head number ≡ Some h)
    pub not_root : number ≢ root_number

  pub record AreSound : Type 0 where
    pub root : IsTrue (is_directory (head root_number))
    pub names_sound : (directory : ℕ) (name : List ℕ) (number : ℕ) → target names directory name ≡ Some number → NameIsSound directory name number
    pub directories : (number : ℕ) → IsTrue (is_directory (head number)) → number ≢ root_number → name_count names number ≡ 1
    pub files : (number : ℕ) → IsTrue (is_file (head number)) → (1 ≤ name_count names number) × (name_count names number ≤ link_limit)
    pub reaches : (number : ℕ) → IsTrue (is_directory (head number)) → (steps : ℕ) × Climbs (parent_in head names) steps number root_number
    pub ranges : (number : ℕ) (h : Header) → head number ≡ Some h → InRange number h

abbrev pub IsSound : {B : Type 0} → Tree B → Type 0
IsSound t = AreSound (get (headers t)) t.names

-- the tree is sound, and these are its headers, with the right links and sizes
pub record IsSoundOver {B : Type 0} (heads : Table numbers Header) (t : Tree B) : Type 0 where
  pub sound : IsSound t
  pub counted : headers t ≡ heads
