-- A tree is made again of its headers and names where each file is filled with its own bytes.
use Rattle.std.proofs.Common.{◌≡◌, ℕ, zero, suc, ◌+◌, ◌<◌, List, [], ◌∷◌, length, map, get_or, Option, Some, None, option_map, refl, ap, subst, ◌∙◌, arith}
use Rattle.kfs_model.specs.Table.{get}
use Rattle.kfs_model.proofs.TableLaws.{same_table, get-mapped}
use Rattle.kfs_model.specs.Tree.{Tree, Node, Body, FileBody, DirectoryBody, body_over, content_of, node_header, headers, kind_of, node_over, size_of, tree_over}
use Rattle.kfs_model.specs.Placement.{below, numbers_from}
use Rattle.kfs_model.proofs.Heads.{get-headers}

-- ---- lists made of numbers

pub length-numbers_from : (first count : ℕ) → length (numbers_from first count) ≡ count
length-numbers_from first zero = refl
length-numbers_from first (suc count) = ap suc (length-numbers_from (first + 1) count)

pub get_or-numbers_from : (f : ℕ → ℕ) (first count k : ℕ) → k < count → get_or (map f (numbers_from first count)) k 0 ≡ f (first + k)
get_or-numbers_from f first zero k below = absurd (omega (arith, below))
get_or-numbers_from f first (suc count) zero below = let same : first ≡ first + 0 = omega arith in ap f same
get_or-numbers_from f first (suc count) (suc k) below = let same : first + 1 + k ≡ first + suc k = omega arith in get_or-numbers_from f (first + 1) count k (omega (arith, below)) ∙ ap f same

-- a list is made again of what stands at each of its places
pub made_again : (f : ℕ → ℕ) (first : ℕ) (bytes : List ℕ) → ((k : ℕ) → k < length bytes → f (first + k) ≡ get_or bytes k 0) → map f (numbers_from first (length bytes)) ≡ bytes
made_again f first [] each = refl
made_again f first (byte ∷ bytes) each =
    let here : first ≡ first + 0 = omega arith in
    let head : f first ≡ byte = ap f here ∙ each 0 (omega arith) in
    let rest = made_again f (first + 1) bytes (λ k below. let same : first + 1 + k ≡ first + suc k = omega arith in ap f same ∙ each (suc k) (omega (arith, below))) in
    λ i. head i ∷ rest i

-- ---- trees

module _ (content : (number size : ℕ) → List ℕ) (t : Tree ℕ) (each : (number : ℕ) → content number (length (content_of (get t.nodes number))) ≡ content_of (get t.nodes number)) where
  body_again : (number : ℕ) (node : Node ℕ) → get t.nodes number ≡ Some node → body_over content number (kind_of node.body) (size_of node.body) ≡ node.body
  body_again number node is = by node.body (subst (λ found. content number (length (content_of found)) ≡ content_of found) is (each number))
    where
      with_body : Body ℕ → Node ℕ
      with_body body = record { mode = node.mode; uid = node.uid; gid = node.gid; body = body }

      by : (body : Body ℕ) → content number (length (content_of (Some (with_body body)))) ≡ content_of (Some (with_body body)) → body_over content number (kind_of body) (size_of body) ≡ body
      by (FileBody cells) same = ap FileBody same
      by DirectoryBody same = refl

  node_again : (number : ℕ) (found : Option (Node ℕ)) → get t.nodes number ≡ found → option_map (node_over content number) (option_map (node_header t.names number) found) ≡ found
  node_again number None is = refl
  node_again number (Some node) is = λ i. Some (record { mode = node.mode; uid = node.uid; gid = node.gid; body = body_again number node is i })

  pub tree_again : tree_over content (headers t) t.names ≡ t
  tree_again =
      let nodes = same_table (tree_over content (headers t) t.names).nodes t.nodes (λ number.
      get-mapped (node_over content) (headers t) number
      ∙ ap (option_map (node_over content number)) (get-headers t number)
      ∙ node_again number (get t.nodes number) refl) in
      λ i. record { nodes = nodes i; names = t.names }
