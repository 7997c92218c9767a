-- The bytes of a run are the marks of its marked run, looked up.
use Rattle.std.specs.Prelude.{◌≡◌, ℕ, suc, ◌+◌, List, [], ◌∷◌, map, Option, Some, None, option_map, slice_get, Result, Ok, Err, refl}
use Rattle.std.proofs.Common.{ap, ◌∙◌, arith}
use Rattle.kfs_model.specs.Access.{Client}
use Rattle.kfs_model.specs.Sight.{ClientSight}
use Rattle.kfs_model.specs.Table.{get}
use Rattle.kfs_model.proofs.TableLaws.{same_table, get-mapped}
use Rattle.kfs_model.specs.Tree.{Tree, Node, Body, FileBody, DirectoryBody, content_of}
use Rattle.kfs_model.specs.Entry.{Entry}
use Rattle.kfs_model.specs.Run.{Mark, Base, Payload, EntryFault, run, over_bytes, over_marks, marked, byte_at, byte_of, payload_of, places_from, base_marks, mapped_body, looked_up}
use Rattle.kfs_model.proofs.Cells.{recut, on_node, recut_outcome, SamePayloads, run_from-recut}

-- marks of places, looked up where each gives the byte at its place, are the bytes
map-places_from : (byte : Mark → ℕ) (at : ℕ → Mark) (place : ℕ) (bs : List ℕ) → ((j : ℕ) → byte (at (place + j)) ≡ byte_at bs j) → map byte (places_from at place bs) ≡ bs
map-places_from byte at place [] alike = refl
map-places_from byte at place (b ∷ bs) alike =
    let here : place ≡ place + 0 = omega arith in
    let rest = map-places_from byte at (place + 1) bs (λ j. let next : place + 1 + j ≡ place + suc j = omega arith in ap (λ k. byte (at k)) next ∙ alike (suc j)) in
    let first = ap (λ k. byte (at k)) here ∙ alike 0 in
    λ i. first i ∷ rest i

module _ (before : Tree ℕ) (entries : List Entry) where
  marked_nodes : (n : ℕ) → get (recut (byte_of before entries) (marked before)).nodes n ≡ get before.nodes n
  marked_nodes n = get-mapped _ _ n ∙ ap (option_map (on_node (byte_of before entries) n)) (get-mapped _ before.nodes n) ∙ by_node (get before.nodes n) refl
    where
      body_of : (mode uid gid : ℕ) (body : Body ℕ) → get before.nodes n ≡ Some (record { mode = mode; uid = uid; gid = gid; body = body }) → mapped_body (map (byte_of before entries)) (mapped_body (base_marks n 0) body) ≡ body
      body_of mode uid gid (FileBody cells) is = ap FileBody (map-places_from (byte_of before entries) (Base n) 0 cells (λ j. let zero_more : 0 + j ≡ j = omega arith in (λ i. byte_at (content_of (is i)) (zero_more i))))
      body_of mode uid gid DirectoryBody is = refl

      by_node : (found : Option (Node ℕ)) → get before.nodes n ≡ found → option_map (on_node (byte_of before entries) n) (option_map (λ (node : Node ℕ). record { mode = node.mode; uid = node.uid; gid = node.gid; body = mapped_body (base_marks n 0) node.body }) found) ≡ found
      by_node None is = refl
      by_node (Some node) is = ap (λ body. Some (record node { body = body })) (body_of node.mode node.uid node.gid node.body is)

  recut-marked : recut (byte_of before entries) (marked before) ≡ before
  recut-marked = let nodes = same_table _ _ marked_nodes in λ i. record { nodes = nodes i; names = before.names }

  same_payloads : (index : ℕ) (rest : List Entry) → ((j : ℕ) → slice_get entries (index + j) ≡ slice_get rest j) → SamePayloads (byte_of before entries) over_marks over_bytes refl index rest
  same_payloads index [] alike = tt
  same_payloads index (entry ∷ rest) alike =
      let here : index ≡ index + 0 = omega arith in
      let this = ap (slice_get entries) here ∙ alike 0 in (
        map-places_from (byte_of before entries) (Payload index) 0 (payload_of (Some entry)) (λ j. let zero_more : 0 + j ≡ j = omega arith in λ i. byte_at (payload_of (this i)) (zero_more i)),
        same_payloads (index + 1) rest (λ j. let next : index + 1 + j ≡ index + suc j = omega arith in ap (slice_get entries) next ∙ alike (suc j)),
      )

looked_up-is : (before : Tree ℕ) (entries : List Entry) (outcome : Result (Tree Mark) EntryFault) → looked_up (byte_of before entries) outcome ≡ recut_outcome (byte_of before entries) over_marks over_bytes refl outcome
looked_up-is before entries (Ok t) = refl
looked_up-is before entries (Err fault) = refl

pub marks_give_bytes : (client : Client) (before : ClientSight) (tree : Tree ℕ) (entries : List Entry) → looked_up (byte_of tree entries) (run over_marks client before (marked tree) entries) ≡ run over_bytes client before tree entries
marks_give_bytes client before tree entries =
    looked_up-is tree entries (run over_marks client before (marked tree) entries)
    ∙ run_from-recut (byte_of tree entries) over_marks over_bytes refl client before 0 [] (marked tree) entries (same_payloads tree entries 0 entries (λ j. let zero_more : 0 + j ≡ j = omega arith in ap (slice_get entries) zero_more))
    ∙ ap (λ t. run over_bytes client before t entries) (recut-marked tree entries)
