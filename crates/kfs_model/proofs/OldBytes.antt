-- After a run, the mark of a byte from before stands only where the byte stood.
use Rattle.std.proofs.Common.{◌≡◌, ℕ, ◌+◌, Bool, true, false, cond, ◌==◌, ◌&&◌, ◌||◌, leb, ltb, List, [], ◌∷◌, length, get_or, Option, Some, None, option_map, Result, Ok, Err, refl, sym, subst, ◌∙◌, arith, eqb-true}
use Rattle.std.specs.Prelude.{◌-◌, suc, zero}
use Rattle.std.proofs.lemmas.Option.{get_or_from_slice_get}
use Rattle.kfs_model.specs.Header.{Kind, File, Directory}
use Rattle.kfs_model.specs.Table.{get, insert}
use Rattle.kfs_model.proofs.TableLaws.{get-mapped, get-retain}
use Rattle.kfs_model.specs.Tree.{Tree, Node, Body, FileBody, DirectoryBody, content_of, is_named}
use Rattle.kfs_model.specs.Sight.{sight, ClientSight}
use Rattle.kfs_model.specs.Access.{Client}
use Rattle.kfs_model.specs.Entry.{Entry, Create, Write, Truncate, Link, Unlink, Rename, Chmod, Regroup}
use Rattle.kfs_model.specs.Check.{Reason, first_fault}
use Rattle.kfs_model.specs.Effect.{effect, change_of, without_unnamed, changed_node, new_body, on_content, overwritten, resized}
use Rattle.kfs_model.specs.Run.{Mark, Base, Zero, Payload, over_marks, marked, base_marks, mapped_body, EntryFault, entry_context, created_by, run_from, run}
use Rattle.kfs_model.specs.Plan.{OldBytesStay}
use Rattle.kfs_model.proofs.Heads.{stays}
use Rattle.kfs_model.proofs.NameTable.{at_number-insert}
use Rattle.kfs_model.proofs.Tape.{resized_read, overwritten_read}

-- ---- the marks of one file

-- each old byte among the marks of this file is the file's own, where it stood
record AreOwn (number : ℕ) (cells : List Mark) : Type 0 where
  stand : (i n p : ℕ) → get_or cells i Zero ≡ Base n p → (n ≡ number) × (p ≡ i)

none_own : (number : ℕ) → AreOwn number []
none_own number = record { stand = λ i n p is. cc }

base_own : (number : ℕ) (cells : List ℕ) → AreOwn number (base_marks number 0 cells)
base_own number cells = record { stand = λ i n p is. let (same, there) = from number 0 cells i n p is in (same, omega arith) }
  where
    from : (number first : ℕ) (cells : List ℕ) (i n p : ℕ) → get_or (base_marks number first cells) i Zero ≡ Base n p → (n ≡ number) × (p ≡ first + i)
    from number first [] i n p is = cc
    from number first (b ∷ bs) zero n p is = (cc, let e : p ≡ first = cc in omega arith)
    from number first (b ∷ bs) (suc i) n p is = let (same, there) = from number (first + 1) bs i n p is in (same, omega arith)

resized_own : (number size : ℕ) (cells : List Mark) → AreOwn number cells → AreOwn number (resized over_marks size cells)
resized_own number size cells own = record { stand = λ i n p is. at (leb size i) i n p (sym (resized_read size cells i) ∙ is) }
  where
    at : (b : Bool) (i n p : ℕ) → cond b Zero (get_or cells i Zero) ≡ Base n p → (n ≡ number) × (p ≡ i)
    at true i n p is = cc
    at false i n p is = own.stand i n p is

overwritten_own : (number index offset : ℕ) (payload : List ℕ) (cells : List Mark) → AreOwn number cells → AreOwn number (overwritten over_marks offset (over_marks.payload index payload) cells)
overwritten_own number index offset payload cells own =
    record { stand = λ i n p is. at (leb offset i && ltb i (offset + length payload)) (i - offset) i n p (sym (overwritten_read index offset payload cells i) ∙ is) }
  where
    at : (b : Bool) (place i n p : ℕ) → cond b (Payload index place) (get_or cells i Zero) ≡ Base n p → (n ≡ number) × (p ≡ i)
    at true place i n p is = cc
    at false place i n p is = own.stand i n p is

-- ---- of a node, and of a tree

abbrev NodeOwn : ℕ → Option (Node Mark) → Type 0
NodeOwn number found = AreOwn number (content_of found)

record TreeOwn (t : Tree Mark) : Type 0 where
  each : (number : ℕ) → NodeOwn number (get t.nodes number)

marked_own : (before : Tree ℕ) → TreeOwn (marked before)
marked_own before = record { each = λ n. subst (NodeOwn n) (sym (get-mapped _ before.nodes n)) (at n (get before.nodes n)) }
  where
    at_body : (n mode uid gid : ℕ) (body : Body ℕ) → NodeOwn n (Some (record { mode = mode; uid = uid; gid = gid; body = mapped_body (base_marks n 0) body }))
    at_body n mode uid gid (FileBody cells) = base_own n cells
    at_body n mode uid gid DirectoryBody = none_own n

    at : (n : ℕ) (found : Option (Node ℕ)) → NodeOwn n (option_map (λ (node : Node ℕ). record { mode = node.mode; uid = node.uid; gid = node.gid; body = mapped_body (base_marks n 0) node.body }) found)
    at n None = none_own n
    at n (Some node) = at_body n node.mode node.uid node.gid node.body

swept_own : (t : Tree Mark) → TreeOwn t → TreeOwn (without_unnamed t)
unfolding without_unnamed
swept_own t own = record { each = λ k. subst (NodeOwn k) (sym (get-retain (λ n. (n == 1) || is_named t.names n) t.nodes k)) (at k (stays t.names k)) }
  where
    at : (k : ℕ) (b : Bool) → NodeOwn k (cond b (get t.nodes k) None)
    at k true = own.each k
    at k false = none_own k

-- a node put, and a node changed
inserted_own : (t : Tree Mark) (n : ℕ) (node : Node Mark) (k : ℕ) → TreeOwn t → NodeOwn n (Some node) → NodeOwn k (get (insert t.nodes n node) k)
inserted_own t n node k own here = subst (NodeOwn k) (sym (at_number-insert t.nodes n node k)) (at (k == n) refl)
  where
    at : (b : Bool) → (k == n) ≡ b → NodeOwn k (cond b (Some node) (get t.nodes k))
    at true e = subst (λ k. NodeOwn k (Some node)) (sym (eqb-true k n e)) here
    at false e = own.each k

changed_own : (t : Tree Mark) (n : ℕ) (change : Node Mark → Node Mark) → ((node : Node Mark) → NodeOwn n (Some node) → NodeOwn n (Some (change node))) → TreeOwn t → TreeOwn (changed_node change n t)
changed_own t n change keeps own = at (get t.nodes n) (own.each n)
  where
    at : (found : Option (Node Mark)) → NodeOwn n found → TreeOwn (elim found [ None ↦ t | Some node ↦ record { nodes = insert t.nodes n (change node); names = t.names } ])
    at None here = own
    at (Some node) here = record { each = λ k. inserted_own t n (change node) k own (keeps node here) }

cells_own : (n : ℕ) (change : List Mark → List Mark) → ((cells : List Mark) → AreOwn n cells → AreOwn n (change cells)) → (node : Node Mark) → NodeOwn n (Some node) → NodeOwn n (Some (record node { body = on_content over_marks change node.body }))
cells_own n change keeps node own = at node.mode node.uid node.gid node.body own
  where
    at : (mode uid gid : ℕ) (body : Body Mark) → NodeOwn n (Some (record { mode = mode; uid = uid; gid = gid; body = body })) → NodeOwn n (Some (record { mode = mode; uid = uid; gid = gid; body = on_content over_marks change body }))
    at mode uid gid (FileBody cells) own = keeps cells own
    at mode uid gid DirectoryBody own = own

change_own : (client : Client) (index : ℕ) (entry : Entry) (t : Tree Mark) → TreeOwn t → TreeOwn (change_of over_marks client index entry t)
unfolding change_of
change_own client index (Create d m n kind mode) t own = record { each = λ k. inserted_own t n (record { mode = mode; uid = client.uid; gid = client.gid; body = new_body over_marks kind }) k own (empty kind) }
  where
    empty : (kind : Kind) → NodeOwn n (Some (record { mode = mode; uid = client.uid; gid = client.gid; body = new_body over_marks kind }))
    empty File = none_own n
    empty Directory = none_own n
change_own client index (Write n offset payload) t own =
    changed_own t n (λ node. record node { body = on_content over_marks (overwritten over_marks offset (over_marks.payload index payload)) node.body })
    (cells_own n (overwritten over_marks offset (over_marks.payload index payload)) (overwritten_own n index offset payload)) own
change_own client index (Truncate n size) t own = changed_own t n (λ node. record node { body = on_content over_marks (resized over_marks size) node.body }) (cells_own n (resized over_marks size) (resized_own n size)) own
change_own client index (Link n d m) t own = record { each = own.each }
change_own client index (Unlink d m kind) t own = record { each = own.each }
change_own client index (Rename d m e k) t own = record { each = own.each }
change_own client index (Chmod n mode) t own = changed_own t n (λ node. record node { mode = mode }) (λ node here. here) own
change_own client index (Regroup n group) t own = changed_own t n (λ node. record node { gid = group }) (λ node here. here) own

-- ---- of a run

run_own : (client : Client) (before : ClientSight) (index : ℕ) (created : List ℕ) (t : Tree Mark) (entries : List Entry) (after : Tree Mark) → TreeOwn t → run_from over_marks client before index created t entries ≡ Ok after → TreeOwn after
unfolding run_from
run_own client before index created t [] after own is = let same : t ≡ after = cc in subst TreeOwn same own
run_own client before index created t (entry ∷ entries) after own is =
    at (first_fault (entry_context client before (sight t) created) entry)
    (run_own client before (index + 1) (created_by entry created) (effect over_marks client index entry t) entries after (swept_own _ (change_own client index entry t own))) is
  where
    at : (o : Option Reason) → (run_from over_marks client before (index + 1) (created_by entry created) (effect over_marks client index entry t) entries ≡ Ok after → TreeOwn after)
        → ◌≡◌ {A = Result (Tree Mark) EntryFault} (elim o [ None ↦ run_from over_marks client before (index + 1) (created_by entry created) (effect over_marks client index entry t) entries | Some reason ↦ Err (record { entry = index; reason = reason }) ]) (Ok after)
        → TreeOwn after
    at None rest is = rest is
    at (Some reason) rest is = cc

pub old_bytes_stand : (client : Client) (before : ClientSight) (tree : Tree ℕ) (entries : List Entry) (after : Tree Mark) → run over_marks client before (marked tree) entries ≡ Ok after
    → OldBytesStay after
old_bytes_stand client before tree entries after is number place n p there =
    let own = run_own client before 0 [] (marked tree) entries after (marked_own tree) is in
    (own.each number).stand place n p (get_or_from_slice_get (content_of (get after.nodes number)) place (Base n p) Zero there)
