-- A clean Chmod, Regroup, Truncate or Write keeps a sound tree sound and moves what the cells show as said.
use Rattle.std.proofs.Common.{◌≡◌, ℕ, ◌+◌, ◌-◌, ◌≤◌, true, false, List, [], ◌∷◌, ◌++◌, length, take, drop, replicate, Option, Some, None, is_some, option_map, IsTrue, refl, sym, ap, ◌∙◌, arith, length-append, length-drop}
use Rattle.std.proofs.lemmas.List.{length-take-le, length-replicate}
use Rattle.std.proofs.lemmas.Bool.{leb-true, not-true}
use Rattle.kfs_model.specs.Header.{File}
use Rattle.kfs_model.specs.Table.{get}
use Rattle.kfs_model.specs.Tree.{Tree, Node, Body, FileBody, DirectoryBody, NameTable, headers, node_header, size_of, name_count}
use Rattle.kfs_model.specs.Entry.{Write, Truncate, Chmod, Regroup}
use Rattle.kfs_model.specs.Sight.{is_directory}
use Rattle.kfs_model.specs.Limits.{size_limit}
use Rattle.kfs_model.specs.Check.{EntryContext, fault, checks_of, payload_fits}
use Rattle.kfs_model.specs.Effect.{Filling, change_of, overwritten, resized, lengthened, on_content}
use Rattle.kfs_model.specs.SeenAfter.{written_size, seen_after}
use Rattle.kfs_model.specs.CleanStep.{IsClean, StaysSound}
use Rattle.kfs_model.proofs.CleanIsAllowed.{AllPass, all_pass, passed}
use Rattle.kfs_model.proofs.CleanFacts.{some_is, at_tree, clean_at}
use Rattle.kfs_model.proofs.Fields.{mode_in_range}
use Rattle.kfs_model.proofs.Heads.{get-headers}
use Rattle.kfs_model.proofs.NodeStep.{node_seen, node_sound}

-- the node of a header that is there
module _ {B : Type 0} (t : Tree B) (n : ℕ) where
  pub node_there : IsTrue (is_some (get (headers t) n)) → (node : Node B) × (get t.nodes n ≡ Some node)
  node_there some = some_is (get t.nodes n) (at (get t.nodes n) (sym (ap is_some (get-headers t n)) ∙ some))
    where
      at : (o : Option (Node B)) → is_some (option_map (node_header t.names n) o) ≡ true → is_some o ≡ true
      at None e = e
      at (Some node) e = refl

-- ---- how long a file is after it

module _ {B : Type 0} (filling : Filling B) where
  lengthened_long : (size : ℕ) (cells : List B) → length (lengthened filling size cells) ≡ length cells + (size - length cells)
  lengthened_long size cells = length-append cells (replicate (size - length cells) filling.gap) ∙ ap (λ n. length cells + n) (length-replicate (size - length cells) filling.gap)

  resized_long : (size : ℕ) (cells : List B) → length (resized filling size cells) ≡ size
  unfolding resized
  resized_long size cells = length-take-le size (lengthened filling size cells) (omega (arith, lengthened_long size cells))

  overwritten_long : (offset : ℕ) (p : List B) (payload : List ℕ) (cells : List B) → length p ≡ length payload → length (overwritten filling offset p cells) ≡ written_size offset payload (length cells)
  unfolding overwritten
  overwritten_long offset [] [] cells same = refl
  overwritten_long offset [] (b ∷ bs) cells same = absurd (omega arith)
  overwritten_long offset (c ∷ cs) [] cells same = absurd (omega arith)
  overwritten_long offset (c ∷ cs) (b ∷ bs) cells same =
      let start = take offset (lengthened filling offset cells) in
      let rest = drop (offset + length (c ∷ cs)) cells in
      let all : length (overwritten filling offset (c ∷ cs) cells) ≡ length (start ++ (c ∷ cs)) + length rest = length-append (start ++ (c ∷ cs)) rest in
      let front : length (start ++ (c ∷ cs)) ≡ length start + length (c ∷ cs) = length-append start (c ∷ cs) in
      let begun : length start ≡ offset = length-take-le offset (lengthened filling offset cells) (omega (arith, lengthened_long offset cells)) in
      let back : length rest ≡ length cells - (offset + length (c ∷ cs)) = length-drop (offset + length (c ∷ cs)) cells in
      omega arith

-- a file whose cells change and its size alone
file_shown : {B : Type 0} (filling : Filling B) (names : NameTable) (n : ℕ) (node : Node B) (change : List B → List B) (size : ℕ → ℕ)
    → is_directory (Some (node_header names n node)) ≡ false → ((cells : List B) → length (change cells) ≡ size (length cells))
    → node_header names n (record node { body = on_content filling change node.body }) ≡ record (node_header names n node) { size = size (size_of node.body) }
file_shown {B} filling names n node change size file long = at node.body file
  where
    at : (body : Body B) → is_directory (Some (node_header names n (record node { body = body }))) ≡ false
        → node_header names n (record node { body = on_content filling change body }) ≡ record (node_header names n (record node { body = body })) { size = size (size_of body) }
    at (FileBody cells) file = λ i. record { kind = File; mode = node.mode; uid = node.uid; gid = node.gid; links = name_count names n; size = long cells i }
    at DirectoryBody file = cc

-- a payload has a cell for each byte
pub record IsFaithful {B : Type 0} (filling : Filling B) : Type 0 where
  pub long : (index : ℕ) (payload : List ℕ) → length (filling.payload index payload) ≡ length payload

module _ {B : Type 0} (filling : Filling B) (context : EntryContext) (index : ℕ) (t : Tree B) where
  pub chmod_kept : (n mode : ℕ) → IsClean context t (Chmod n mode) → StaysSound filling context.client index t (Chmod n mode)
  unfolding checks_of fault change_of seen_after
  chmod_kept n mode h =
      let pass = all_pass (at_tree context t) _ (clean_at context t h) in
      let (node, there) = node_there t n (passed _ _ pass.0) in
      record {
        sound = node_sound t h.sound n node there (λ node. record node { mode = mode }) (λ h. record h { mode = mode }) (λ h. refl) refl
            (λ g is. let old = h.sound.ranges n g is in record { least = old.least; greatest = old.greatest; mode = mode_in_range h.version mode h.entry_fits.1; uid = old.uid; gid = old.gid; size = old.size });
        seen = node_seen t h.sound n node there (λ node. record node { mode = mode }) (λ h. record h { mode = mode }) (λ h. refl) refl;
      }

  pub regroup_kept : (n group : ℕ) → IsClean context t (Regroup n group) → StaysSound filling context.client index t (Regroup n group)
  unfolding checks_of fault change_of seen_after
  regroup_kept n group h =
      let pass = all_pass (at_tree context t) _ (clean_at context t h) in
      let (node, there) = node_there t n (passed _ _ pass.0) in
      record {
        sound = node_sound t h.sound n node there (λ node. record node { gid = group }) (λ h. record h { gid = group }) (λ h. refl) refl
            (λ g is. let old = h.sound.ranges n g is in record { least = old.least; greatest = old.greatest; mode = old.mode; uid = old.uid; gid = h.entry_fits.1.1; size = old.size });
        seen = node_seen t h.sound n node there (λ node. record node { gid = group }) (λ h. record h { gid = group }) (λ h. refl) refl;
      }

  shown_as_file : (n : ℕ) (node : Node B) → get t.nodes n ≡ Some node → is_directory (get (headers t) n) ≡ false → is_directory (Some (node_header t.names n node)) ≡ false
  shown_as_file n node there file = sym (ap is_directory (get-headers t n ∙ ap (option_map (node_header t.names n)) there)) ∙ file

  pub truncate_kept : (n size : ℕ) → IsClean context t (Truncate n size) → StaysSound filling context.client index t (Truncate n size)
  unfolding checks_of fault change_of seen_after
  truncate_kept n size h =
      let pass = all_pass (at_tree context t) _ (clean_at context t h) in
      let (node, there) = node_there t n (passed _ _ pass.0) in
      let file = shown_as_file n node there (not-true _ (passed _ _ pass.1.0)) in
      let fits = leb-true size size_limit (passed _ _ pass.1.1.1.1.0) in
      let shown = file_shown filling t.names n node (resized filling size) (λ _. size) file (resized_long filling size) in
      record {
        sound = node_sound t h.sound n node there (λ node. record node { body = on_content filling (resized filling size) node.body }) (λ h. record h { size = size }) (λ h. refl) shown
            (λ g is. let old = h.sound.ranges n g is in record { least = old.least; greatest = old.greatest; mode = old.mode; uid = old.uid; gid = old.gid; size = fits });
        seen = node_seen t h.sound n node there (λ node. record node { body = on_content filling (resized filling size) node.body }) (λ h. record h { size = size }) (λ h. refl) shown;
      }

  written_fits : (p : EntryContext) (offset : ℕ) (payload : List ℕ) (size : ℕ) → AllPass p (payload_fits offset payload) → size ≤ 4294967296 → written_size offset payload size ≤ 4294967296
  unfolding fault
  written_fits p offset [] size pass fits = fits
  written_fits p offset (b ∷ bs) size pass fits = let ends = leb-true (offset + length (b ∷ bs)) size_limit (passed _ _ pass.0) in omega arith

  pub write_kept : IsFaithful filling → (n offset : ℕ) (payload : List ℕ) → IsClean context t (Write n offset payload) → StaysSound filling context.client index t (Write n offset payload)
  unfolding checks_of fault change_of seen_after
  write_kept faithful n offset payload h =
      let pass = all_pass (at_tree context t) _ (clean_at context t h) in
      let (node, there) = node_there t n (passed _ _ pass.0) in
      let file = shown_as_file n node there (not-true _ (passed _ _ pass.1.0)) in
      let shown = file_shown filling t.names n node (overwritten filling offset (filling.payload index payload)) (written_size offset payload) file (λ cells. overwritten_long filling offset (filling.payload index payload) payload cells (faithful.long index payload)) in
      record {
        sound = node_sound t h.sound n node there (λ node. record node { body = on_content filling (overwritten filling offset (filling.payload index payload)) node.body }) (λ h. record h { size = written_size offset payload h.size }) (λ h. refl) shown
            (λ g is. let old = h.sound.ranges n g is in record { least = old.least; greatest = old.greatest; mode = old.mode; uid = old.uid; gid = old.gid; size = written_fits (at_tree context t) offset payload g.size pass.1.1.1.1 old.size });
        seen = node_seen t h.sound n node there (λ node. record node { body = on_content filling (overwritten filling offset (filling.payload index payload)) node.body }) (λ h. record h { size = written_size offset payload h.size }) (λ h. refl) shown;
      }
