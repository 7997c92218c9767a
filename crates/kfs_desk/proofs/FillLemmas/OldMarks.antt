-- After a run, the mark of a byte from before is of a byte that stood in its file.
use Rattle.std.proofs.Common.{◌≡◌, ℕ, ◌+◌, ◌<◌, ◌≤◌, Bool, true, List, [], ◌∷◌, length, map, Option, Some, None, option_map, Result, Ok, refl, sym, ap, ◌∙◌, arith, lt-ltb, ltb-true}
use Rattle.std.specs.Prelude.{nat_lt, slice_get}
use Rattle.std.proofs.lemmas.Option.{slice_get-map}
use Rattle.kfs_model.specs.Access.{Client}
use Rattle.kfs_model.specs.Table.{get}
use Rattle.kfs_model.proofs.TableLaws.{same_table, get-mapped}
use Rattle.kfs_model.specs.Tree.{Tree, Node, Body, FileBody, DirectoryBody, content_of}
use Rattle.kfs_model.specs.Sight.{ClientSight}
use Rattle.kfs_model.specs.Entry.{Entry}
use Rattle.kfs_model.specs.Effect.{Filling}
use Rattle.kfs_model.specs.Plan.{mark_at}
use Rattle.kfs_model.specs.Run.{Mark, Base, Zero, Payload, EntryFault, base_marks, mapped_body, marked, over_marks, payload_of, places_from, run}
use Rattle.kfs_model.proofs.Cells.{SamePayloads, on_node, recut, recut_outcome, run_from-recut}

-- the content of a file once each cell is changed
pub content-recut : {B C : Type 0} (f : B → C) (t : Tree B) (n : ℕ) → content_of (get (recut f t).nodes n) ≡ map f (content_of (get t.nodes n))
content-recut {B} f t n = ap content_of (get-mapped (on_node f) t.nodes n) ∙ at (get t.nodes n)
  where
    of_body : (mode uid gid : ℕ) (body : Body B) → content_of (Some (on_node f n (record { mode = mode; uid = uid; gid = gid; body = body }))) ≡ map f (content_of (Some (record { mode = mode; uid = uid; gid = gid; body = body })))
    of_body mode uid gid (FileBody cells) = refl
    of_body mode uid gid DirectoryBody = refl

    at : (found : Option (Node B)) → content_of (option_map (on_node f n) found) ≡ map f (content_of found)
    at None = refl
    at (Some node) = of_body node.mode node.uid node.gid node.body

-- ---- each cell as the answer of a test that payloads and gaps pass

abbrev all_pass : Filling Bool
all_pass = record { gap = true; payload = λ index payload. map (λ byte. true) payload }

module _ (test : Mark → Bool) (gap : test Zero ≡ true) (each : (entry place : ℕ) → test (Payload entry place) ≡ true) where
  payload_passes : (index place : ℕ) (payload : List ℕ) → map test (places_from (Payload index) place payload) ≡ map (λ byte. true) payload
  payload_passes index place [] = refl
  payload_passes index place (byte ∷ bytes) = λ i. each index place i ∷ payload_passes index (place + 1) bytes i

  payloads_pass : (index : ℕ) (entries : List Entry) → SamePayloads test over_marks all_pass gap index entries
  payloads_pass index [] = tt
  payloads_pass index (entry ∷ entries) = (payload_passes index 0 (payload_of (Some entry)), payloads_pass (index + 1) entries)

  tested_run : (client : Client) (before : ClientSight) (t : Tree Mark) (entries : List Entry) → recut_outcome test over_marks all_pass gap (run over_marks client before t entries) ≡ run all_pass client before (recut test t) entries
  tested_run client before t entries = run_from-recut test over_marks all_pass gap client before 0 [] t entries (payloads_pass 0 entries)

-- ---- whether a byte from before stood

module _ (tree : Tree ℕ) where
  abbrev stood : Mark → Bool
  stood (Mark.Base number place) = nat_lt place (length (content_of (get tree.nodes number)))
  stood Mark.Zero = true
  stood (Mark.Payload entry place) = true

  abbrev any_mark : Mark → Bool
  any_mark mark = true

  all_stood : (n first : ℕ) (bytes : List ℕ) → first + length bytes ≤ length (content_of (get tree.nodes n)) → map stood (base_marks n first bytes) ≡ map any_mark (base_marks n first bytes)
  all_stood n first [] within = refl
  all_stood n first (byte ∷ bytes) within = λ i. lt-ltb first (length (content_of (get tree.nodes n))) (omega (arith, within)) i ∷ all_stood n (first + 1) bytes (omega (arith, within)) i

  marked_alike : recut stood (marked tree) ≡ recut any_mark (marked tree)
  marked_alike =
      let nodes = same_table (recut stood (marked tree)).nodes (recut any_mark (marked tree)).nodes (λ n. nodes_of stood n ∙ at n (get tree.nodes n) refl ∙ sym (nodes_of any_mark n)) in
      λ i. record { nodes = nodes i; names = tree.names }
    where
      marked_node : ℕ → Node ℕ → Node Mark
      marked_node n node = record { mode = node.mode; uid = node.uid; gid = node.gid; body = mapped_body (base_marks n 0) node.body }

      nodes_of : (test : Mark → Bool) (n : ℕ) → get (recut test (marked tree)).nodes n ≡ option_map (on_node test n) (option_map (marked_node n) (get tree.nodes n))
      nodes_of test n = get-mapped (on_node test) (marked tree).nodes n ∙ ap (option_map (on_node test n)) (get-mapped marked_node tree.nodes n)

      of_body : (n mode uid gid : ℕ) (body : Body ℕ) → get tree.nodes n ≡ Some (record { mode = mode; uid = uid; gid = gid; body = body }) → mapped_body (map stood) (mapped_body (base_marks n 0) body) ≡ mapped_body (map any_mark) (mapped_body (base_marks n 0) body)
      of_body n mode uid gid (FileBody cells) is = let long = ap (λ found. length (content_of found)) is in ap FileBody (all_stood n 0 cells (omega (arith, long)))
      of_body n mode uid gid DirectoryBody is = refl

      at : (n : ℕ) (found : Option (Node ℕ)) → get tree.nodes n ≡ found → option_map (on_node stood n) (option_map (marked_node n) found) ≡ option_map (on_node any_mark n) (option_map (marked_node n) found)
      at n None is = refl
      at n (Some node) is = λ i. Some (record { mode = node.mode; uid = node.uid; gid = node.gid; body = of_body n node.mode node.uid node.gid node.body is i })

  pub old_bytes_stood : (client : Client) (before : ClientSight) (entries : List Entry) (after : Tree Mark) → run over_marks client before (marked tree) entries ≡ Ok after
      → (number place n p : ℕ) → mark_at after number place ≡ Some (Base n p) → p < length (content_of (get tree.nodes n))
  old_bytes_stood client before entries after ran number place n p there =
      let both : ◌≡◌ {A = Result (Tree Bool) EntryFault} (Ok (recut stood after)) (Ok (recut any_mark after)) =
      ap (recut_outcome stood over_marks all_pass refl) (sym ran)
      ∙ tested_run stood refl (λ entry place. refl) client before (marked tree) entries
      ∙ ap (λ t. run all_pass client before t entries) marked_alike
      ∙ sym (tested_run any_mark refl (λ entry place. refl) client before (marked tree) entries)
      ∙ ap (recut_outcome any_mark over_marks all_pass refl) ran in
      let same : recut stood after ≡ recut any_mark after = cc in
      let marks = content_of (get after.nodes number) in
      let cells : map stood marks ≡ map any_mark marks =
      sym (content-recut stood after number) ∙ ap (λ (t : Tree Bool). content_of (get t.nodes number)) same ∙ content-recut any_mark after number in
      let answers : ◌≡◌ {A = Option Bool} (Some (stood (Base n p))) (Some true) =
      ap (option_map stood) (sym there) ∙ sym (slice_get-map stood marks place) ∙ ap (λ (bs : List Bool). slice_get bs place) cells ∙ slice_get-map any_mark marks place ∙ ap (option_map any_mark) there in
      let answer : stood (Base n p) ≡ true = cc in
      ltb-true p (length (content_of (get tree.nodes n))) answer
