-- A walk along a path of a sound tree ends at a node of the tree.
use Rattle.std.proofs.Common.{◌≡◌, ℕ, ◌+◌, Bool, true, false, List, [], ◌∷◌, Option, Some, None, Ok, Err, ap, subst, refl, Result}
use Rattle.std.specs.Prelude.{IsSome, is_some}
use Rattle.kfs_model.specs.Header.{Header}
use Rattle.kfs_model.specs.Access.{Client, Search, may_header}
use Rattle.kfs_model.specs.Check.{is_some_and}
use Rattle.kfs_model.specs.Table.{get}
use Rattle.kfs_model.specs.Tree.{Tree, headers}
use Rattle.kfs_model.specs.Sight.{Sight, sight, is_directory}
use Rattle.kfs_model.specs.Soundness.{IsSound}
use Rattle.kfs_model.specs.Lease.{LeaseFault, NotDirectory, NoSearch, NoSuchName, walked}

module _ (s : Sight) (client : Client) (leads : (directory : ℕ) (name : List ℕ) (number : ℕ) → s.name directory name ≡ Some number → IsSome (s.head number)) where
  -- where a step goes by its three tests
  abbrev stepped : (node component : ℕ) (name : List ℕ) (names : List (List ℕ)) → (directory granted : Bool) → Option ℕ → Result ℕ LeaseFault
  stepped node component name names directory granted to = elim directory [
    | false ↦ Err (NotDirectory component)
    | true ↦ elim granted [ false ↦ Err (NoSearch component) | true ↦ elim to [ None ↦ Err (NoSuchName component) | Some next ↦ walked s client next (component + 1) names ] ]
  ]

  -- where names lead to nodes, a walk from a node ends at one
  pub walked_from_node : (names : List (List ℕ)) (node component number : ℕ) → IsSome (s.head node) → walked s client node component names ≡ Ok number → IsSome (s.head number)
  unfolding walked
  walked_from_node [] node component number there ends = let same : node ≡ number = cc in subst (λ n. IsSome (s.head n)) same there
  walked_from_node (name ∷ names) node component number there ends =
      at (is_directory (s.head node)) (is_some_and (s.head node) (λ h. may_header client h Search)) (s.name node name) refl
      (λ next. walked_from_node names next (component + 1) number) ends
    where
      at : (directory granted : Bool) (to : Option ℕ) → s.name node name ≡ to
          → ((next : ℕ) → IsSome (s.head next) → walked s client next (component + 1) names ≡ Ok number → IsSome (s.head number))
          → stepped node component name names directory granted to ≡ Ok number
          → IsSome (s.head number)
      at false granted to is later ends = cc
      at true false to is later ends = cc
      at true true None is later ends = cc
      at true true (Some next) is later ends = later next (leads node name next is) ends

-- in a sound tree the walk from the root ends at a node
pub walked_to_node : {B : Type 0} (t : Tree B) → IsSound t → (client : Client) (names : List (List ℕ)) (number : ℕ) → walked (sight t) client 1 0 names ≡ Ok number → IsSome (get (headers t) number)
walked_to_node t sound client names number ends =
    walked_from_node (sight t) client (λ d m n leads. let node = (sound.names_sound d m n leads).node in ap is_some node.1) names 1 0 number (root_there (get (headers t) 1) sound.root) ends
  where
    root_there : (o : Option Header) → is_directory o ≡ true → IsSome o
    root_there None is = cc
    root_there (Some h) is = refl
