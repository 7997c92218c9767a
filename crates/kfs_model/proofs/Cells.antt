-- A map of cells commutes with a run: what is checked reads no cells, and each change treats them alike.
use Rattle.std.specs.Prelude.{◌≡◌, ℕ, zero, suc, ◌+◌, ◌-◌, ◌==◌, Bool, true, false, cond, ◌||◌, pos, List, [], ◌∷◌, ◌++◌, map, length, take, drop, replicate, Option, Some, None, option_map, Result, Ok, Err, refl}
use Rattle.std.specs.List.{take-map, drop-map}
use Rattle.std.proofs.lemmas.List.{map-append, length-map}
use Rattle.std.proofs.Common.{sym, ap, ◌∙◌}
use Rattle.std.specs.Ordering.{is_eq}
use Rattle.std.specs.declared.cmp.Ordering.{Ordering}
use Rattle.std.specs.declared.cmp.Ordering.TheVariants.{Less, Equal, Greater}
use Rattle.kfs_model.specs.Header.{Kind, File, Directory}
use Rattle.kfs_model.specs.Access.{Client}
use Rattle.kfs_model.specs.Table.{Order, Table, get, insert, retain, mapped, changed_entries}
use Rattle.kfs_model.proofs.TableLaws.{same_table, same_entries_table, get-insert, get-retain, get-mapped}
use Rattle.kfs_model.specs.Tree.{Tree, Node, Body, FileBody, DirectoryBody, NameTable, headers, node_header, name_count, entry_count, target, is_named}
use Rattle.kfs_model.specs.Sight.{sight, parent_in, ClientSight}
use Rattle.kfs_model.specs.Entry.{Entry, Create, Write, Truncate, Link, Unlink, Rename, Chmod, Regroup}
use Rattle.kfs_model.specs.Effect.{Filling, lengthened, overwritten, resized, change_of, effect, without_unnamed, new_body, on_content, changed_node}
use Rattle.kfs_model.specs.Run.{EntryFault, mapped_tree, mapped_body, payload_of, run_from, created_by, entry_context}
use Rattle.kfs_model.specs.Check.{Reason, first_fault}

-- ---- lists

map-replicate : {B C : Type 0} (f : B → C) (n : ℕ) (x : B) → map f (replicate n x) ≡ replicate n (f x)
map-replicate f zero x = refl
map-replicate f (suc n) x = ap (λ zs. f x ∷ zs) (map-replicate f n x)

-- ---- tables

module _ {K X Y : Type 0} {R : Order K} (f : K → X → Y) where
  pub mapped-insert : (t : Table R X) (k : K) (v : X) → mapped f (insert t k v) ≡ insert (mapped f t) k (f k v)
  mapped-insert t k v = same_table _ _ (λ q. get-mapped f (insert t k v) q ∙ ap (option_map (f q)) (get-insert t k v q) ∙ at_key q (R.compare q k) refl ∙ sym (get-insert (mapped f t) k (f k v) q))
    where
      at_key : (q : K) (o : Ordering) → R.compare q k ≡ o → option_map (f q) (cond (is_eq o) (Some v) (get t q)) ≡ cond (is_eq o) (Some (f k v)) (get (mapped f t) q)
      at_key q Less is = sym (get-mapped f t q)
      at_key q Equal is = ap (λ j. Some (f j v)) (R.exact q k is)
      at_key q Greater is = sym (get-mapped f t q)

  pub mapped-retain : (p : K → Bool) (t : Table R X) → mapped f (retain p t) ≡ retain p (mapped f t)
  mapped-retain p t = same_table _ _ (λ q. get-mapped f (retain p t) q ∙ ap (option_map (f q)) (get-retain p t q) ∙ at_test q (p q) ∙ sym (get-retain p (mapped f t) q))
    where
      at_test : (q : K) (kept : Bool) → option_map (f q) (cond kept (get t q) None) ≡ cond kept (get (mapped f t) q) None
      at_test q true = sym (get-mapped f t q)
      at_test q false = refl

-- ---- trees

module _ {B C : Type 0} (f : B → C) where
  abbrev pub on_node : ℕ → Node B → Node C
  on_node n node = record { mode = node.mode; uid = node.uid; gid = node.gid; body = mapped_body (map f) node.body }

  -- each cell changed
  abbrev pub recut : Tree B → Tree C
  recut t = mapped_tree (λ n cells. map f cells) t

  header-on_node : (names : NameTable) (n : ℕ) (node : Node B) → node_header names n (on_node n node) ≡ node_header names n node
  header-on_node names n node = by_body node.body
    where
      by_body : (body : Body B) → node_header names n (record { mode = node.mode; uid = node.uid; gid = node.gid; body = mapped_body (map f) body }) ≡ node_header names n (record node { body = body })
      by_body (FileBody cells) = λ i. record { kind = File; mode = node.mode; uid = node.uid; gid = node.gid; links = name_count names n; size = length-map cells f i }
      by_body DirectoryBody = refl

  header_entries : (names : NameTable) (es : List (ℕ × Node B)) → changed_entries (node_header names) (changed_entries on_node es) ≡ changed_entries (node_header names) es
  header_entries names [] = refl
  header_entries names (e ∷ es) = λ i. (e.0, header-on_node names e.0 e.1 i) ∷ header_entries names es i

  pub headers-recut : (t : Tree B) → headers (recut t) ≡ headers t
  unfolding mapped
  headers-recut t = same_entries_table _ _ (header_entries t.names t.nodes.entries)

  -- what is checked reads no cells
  pub sight-recut : (t : Tree B) → sight (recut t) ≡ sight t
  sight-recut t = λ i. record {
    head = get (headers-recut t i);
    name = target t.names;
    count = λ directory. pos (entry_count t.names directory);
    parent = parent_in (get (headers-recut t i)) t.names;
  }

  without_unnamed-recut : (t : Tree B) → recut (without_unnamed t) ≡ without_unnamed (recut t)
  unfolding without_unnamed
  without_unnamed-recut t = λ i. record { nodes = mapped-retain on_node (λ n. (n == 1) || is_named t.names n) t.nodes i; names = t.names }

  -- a node changed alike on both sides
  changed_node-recut : (change : Node B → Node B) (change' : Node C → Node C) → ((n : ℕ) (node : Node B) → on_node n (change node) ≡ change' (on_node n node)) → (n : ℕ) (t : Tree B) → recut (changed_node change n t) ≡ changed_node change' n (recut t)
  changed_node-recut change change' alike n t = by_node (get t.nodes n) refl ∙ ap at_found (sym (get-mapped on_node t.nodes n))
    where
      at_found : Option (Node C) → Tree C
      at_found found = elim found [ None ↦ recut t | Some node ↦ record { nodes = insert (recut t).nodes n (change' node); names = t.names } ]

      by_node : (found : Option (Node B)) → get t.nodes n ≡ found → recut (elim found [ None ↦ t | Some node ↦ record { nodes = insert t.nodes n (change node); names = t.names } ]) ≡ at_found (option_map (on_node n) (get t.nodes n))
      by_node None is = ap at_found (sym (ap (option_map (on_node n)) is))
      by_node (Some node) is =
          let nodes = mapped-insert on_node t.nodes n (change node) ∙ ap (insert (recut t).nodes n) (alike n node) in
          (λ i. record { nodes = nodes i; names = t.names }) ∙ ap at_found (sym (ap (option_map (on_node n)) is))

-- ---- steps and runs

module _ {B C : Type 0} (f : B → C) (from : Filling B) (to : Filling C) (gap : f from.gap ≡ to.gap) where
  lengthened-map : (size : ℕ) (cells : List B) → map f (lengthened from size cells) ≡ lengthened to size (map f cells)
  lengthened-map size cells =
      let same_length = sym (length-map cells f) in
      map-append f cells (replicate (size - length cells) from.gap)
      ∙ ap (λ xs. map f cells ++ xs) (map-replicate f (size - length cells) from.gap ∙ λ i. replicate (size - same_length i) (gap i))

  overwritten-map : (offset : ℕ) (payload cells : List B) → map f (overwritten from offset payload cells) ≡ overwritten to offset (map f payload) (map f cells)
  unfolding overwritten
  overwritten-map offset [] cells = refl
  overwritten-map offset (b ∷ bs) cells =
      let payload = b ∷ bs in
      let front = map-append f (take offset (lengthened from offset cells)) payload ∙ ap (λ xs. xs ++ map f payload) (sym (take-map f offset (lengthened from offset cells)) ∙ ap (take offset) (lengthened-map offset cells)) in
      let back = sym (drop-map f (offset + length payload) cells) ∙ ap (λ n. drop (offset + n) (map f cells)) (sym (length-map payload f)) in
      map-append f (take offset (lengthened from offset cells) ++ payload) (drop (offset + length payload) cells) ∙ λ i. front i ++ back i

  resized-map : (size : ℕ) (cells : List B) → map f (resized from size cells) ≡ resized to size (map f cells)
  unfolding resized
  resized-map size cells = sym (take-map f size (lengthened from size cells)) ∙ ap (take size) (lengthened-map size cells)

  new_body-map : (kind : Kind) → mapped_body (map f) (new_body from kind) ≡ new_body to kind
  new_body-map File = refl
  new_body-map Directory = refl

  on_cells-map : (change : List B → List B) (change' : List C → List C) → ((cells : List B) → map f (change cells) ≡ change' (map f cells)) → (body : Body B) → mapped_body (map f) (on_content from change body) ≡ on_content to change' (mapped_body (map f) body)
  on_cells-map change change' alike (FileBody cells) = ap FileBody (alike cells)
  on_cells-map change change' alike DirectoryBody = refl

  on_node-cells : (change : List B → List B) (change' : List C → List C) → ((cells : List B) → map f (change cells) ≡ change' (map f cells)) → (n : ℕ) (node : Node B) → on_node f n (record node { body = on_content from change node.body }) ≡ record (on_node f n node) { body = on_content to change' (mapped_body (map f) node.body) }
  on_node-cells change change' alike n node = λ i. record { mode = node.mode; uid = node.uid; gid = node.gid; body = on_cells-map change change' alike node.body i }

  -- the payload of an entry is the same on both sides
  abbrev pub SamePayload : (index : ℕ) → Entry → Type 0
  SamePayload index entry = map f (from.payload index (payload_of (Some entry))) ≡ to.payload index (payload_of (Some entry))

  change_of-recut : (client : Client) (index : ℕ) (entry : Entry) → SamePayload index entry → (t : Tree B) → recut f (change_of from client index entry t) ≡ change_of to client index entry (recut f t)
  unfolding change_of
  change_of-recut client index (Create d m n kind mode) same t =
      let node : Node B = record { mode = mode; uid = client.uid; gid = client.gid; body = new_body from kind } in
      let nodes = mapped-insert (on_node f) t.nodes n node ∙ ap (λ body. insert (recut f t).nodes n (record { mode = mode; uid = client.uid; gid = client.gid; body = body })) (new_body-map kind) in
      λ i. record { nodes = nodes i; names = insert t.names (d, m) n }
  change_of-recut client index (Write n offset payload) same t =
      changed_node-recut f _ _ (on_node-cells (overwritten from offset (from.payload index payload)) (overwritten to offset (to.payload index payload))
      (λ cells. overwritten-map offset (from.payload index payload) cells ∙ ap (λ p. overwritten to offset p (map f cells)) same)) n t
  change_of-recut client index (Truncate n size) same t = changed_node-recut f _ _ (on_node-cells (resized from size) (resized to size) (resized-map size)) n t
  change_of-recut client index (Link n d m) same t = refl
  change_of-recut client index (Unlink d m kind) same t = refl
  change_of-recut client index (Rename d m e k) same t = refl
  change_of-recut client index (Chmod n mode) same t = changed_node-recut f _ _ (λ n node. refl) n t
  change_of-recut client index (Regroup n group) same t = changed_node-recut f _ _ (λ n node. refl) n t

  effect-recut : (client : Client) (index : ℕ) (entry : Entry) → SamePayload index entry → (t : Tree B) → recut f (effect from client index entry t) ≡ effect to client index entry (recut f t)
  effect-recut client index entry same t = without_unnamed-recut f (change_of from client index entry t) ∙ ap without_unnamed (change_of-recut client index entry same t)

  abbrev pub SamePayloads : (index : ℕ) → List Entry → Type 0
  SamePayloads index [] = Unit {0}
  SamePayloads index (entry ∷ entries) = SamePayload index entry × SamePayloads (index + 1) entries

  abbrev pub recut_outcome : Result (Tree B) EntryFault → Result (Tree C) EntryFault
  recut_outcome (Ok t) = Ok (recut f t)
  recut_outcome (Err fault) = Err fault

  pub run_from-recut : (client : Client) (before : ClientSight) (index : ℕ) (created : List ℕ) (t : Tree B) (entries : List Entry) → SamePayloads index entries → recut_outcome (run_from from client before index created t entries) ≡ run_from to client before index created (recut f t) entries
  unfolding run_from
  run_from-recut client before index created t [] same = refl
  run_from-recut client before index created t (entry ∷ entries) same =
      by_fault (run_from-recut client before (index + 1) (created_by entry created) (effect from client index entry t) entries same.1) (first_fault (entry_context client before (sight t) created) entry)
      ∙ ap (λ s. at_fault (first_fault (entry_context client before s created) entry)) (sym (sight-recut f t))
    where
      at_fault : Option Reason → Result (Tree C) EntryFault
      at_fault found = elim found [
        | None ↦ run_from to client before (index + 1) (created_by entry created) (effect to client index entry (recut f t)) entries
        | Some reason ↦ Err (record { entry = index; reason = reason })
      ]

      by_fault : recut_outcome (run_from from client before (index + 1) (created_by entry created) (effect from client index entry t) entries) ≡ run_from to client before (index + 1) (created_by entry created) (recut f (effect from client index entry t)) entries → (found : Option Reason) → recut_outcome (elim found [ None ↦ run_from from client before (index + 1) (created_by entry created) (effect from client index entry t) entries | Some reason ↦ Err (record { entry = index; reason = reason }) ]) ≡ at_fault found
      by_fault rest None = rest ∙ ap (λ u. run_from to client before (index + 1) (created_by entry created) u entries) (effect-recut client index entry same.0 t)
      by_fault rest (Some reason) = refl
