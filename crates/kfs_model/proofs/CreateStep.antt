-- A clean Create keeps a sound tree sound and moves what the cells show as said.
use Rattle.std.proofs.Common.{◌≡◌, ℕ, suc, ◌+◌, ◌≤◌, Bool, true, false, cond, ◌==◌, List, Option, Some, None, option_map, IsTrue, refl, sym, ap, subst, ◌∙◌, arith, eqb-true, eq-eqb, ne_eqb}
use Rattle.std.proofs.lemmas.Bool.{false≢true}
use Rattle.std.proofs.lemmas.Bool.Decides.{nat_tests}
use Rattle.kfs_model.specs.Header.{Kind, File, Directory, Header}
use Rattle.kfs_model.specs.Access.{Client, is_grant}
use Rattle.kfs_model.specs.Table.{get, insert}
use Rattle.kfs_model.specs.Tree.{Tree, Node, NameTable, headers, node_header, target, name_count}
use Rattle.kfs_model.specs.Entry.{Entry, Create}
use Rattle.kfs_model.specs.Sight.{sight, is_directory, is_file, parent_in}
use Rattle.kfs_model.specs.Effect.{Filling, change_of, effect, without_unnamed, new_body}
use Rattle.kfs_model.specs.Check.{EntryContext}
use Rattle.kfs_model.specs.Soundness.{Climbs, InRange, NameIsSound, AreSound, IsSound}
use Rattle.kfs_model.specs.Spelling.{IsEntry, IsName}
use Rattle.kfs_model.specs.SeenAfter.{put_at, put_parent, new_header, seen_after}
use Rattle.kfs_model.specs.CleanStep.{IsClient, IsClean, StaysSound}
use Rattle.kfs_model.proofs.CleanFacts.{at_tree, clean_at, CreateFacts, create_facts}
use Rattle.kfs_model.proofs.Fields.{mode_in_range}
use Rattle.kfs_model.proofs.NameTable.{at_number-insert, target-insert}
use Rattle.kfs_model.proofs.NameAdded.{new_target, kept_target, new_or_old, others_count, own_count, count_shifted}
use Rattle.kfs_model.proofs.Heads.{stays, named_stays, unnamed, root_is_node, get-swept_headers, kept_head, parent_kept, parent_is, parent_of_none, has_parent, climbs_with, put_parent_elsewhere, put_parent_here}

grant_ends : (first last : ℕ) → IsTrue (is_grant first last) → (1 ≤ first) × (last ≤ 65536)
grant_ends first last fits = grind (arith, nat_tests)

-- ---- what shows after it

module _ {B : Type 0} (filling : Filling B) (client : Client) (index : ℕ) (t : Tree B) (d : ℕ) (m : List ℕ) (n : ℕ) (kind : Kind) (mode : ℕ) (sound : IsSound t) (facts : CreateFacts client (sight t) d m n) where
  abbrev entry : Entry
  entry = Create d m n kind mode

  abbrev head : ℕ → Option Header
  head = get (headers t)

  abbrev heads : ℕ → Option Header
  heads = put_at n (Some (new_header client kind mode)) head

  abbrev after : NameTable
  after = insert t.names (d, m) n

  abbrev node : Node B
  node = record { mode = mode; uid = client.uid; gid = client.gid; body = new_body filling kind }

  new_is_named_once : name_count after n ≡ 1
  new_is_named_once = own_count t.names d m n facts.free_name ∙ ap (λ c. c + 1) (unnamed head t.names sound n facts.free_number)

  new_shown : node_header after n node ≡ new_header client kind mode
  new_shown = at kind
    where
      at : (kind : Kind) → node_header after n (record { mode = mode; uid = client.uid; gid = client.gid; body = new_body filling kind }) ≡ new_header client kind mode
      at File = λ i. record { kind = File; mode = mode; uid = client.uid; gid = client.gid; links = new_is_named_once i; size = 0 }
      at Directory = refl

  new_stays : stays after n ≡ true
  new_stays = named_stays after n (omega (arith, new_is_named_once))

  shown_at : (k : ℕ) (b : Bool) → (k == n) ≡ b → option_map (node_header after k) (cond (stays after k) (cond b (Some node) (get t.nodes k)) None) ≡ cond b (Some (new_header client kind mode)) (head k)
  shown_at k true same =
      subst (λ k. option_map (node_header after k) (cond (stays after k) (Some node) None) ≡ Some (new_header client kind mode)) (sym (eqb-true k n same))
      (ap (λ b. option_map (node_header after n) (cond b (Some node) None)) new_stays ∙ ap Some new_shown)
  shown_at k false other = kept_head t sound after k (others_count t.names d m n facts.free_name k other)

  head_after : (k : ℕ) → get (headers (effect filling client index entry t)) k ≡ heads k
  unfolding change_of
  head_after k =
      get-swept_headers (change_of filling client index entry t) k
      ∙ ap (λ o. option_map (node_header after k) (cond (stays after k) o None)) (at_number-insert t.nodes n node k)
      ∙ shown_at k (k == n) refl

  head_new : (k : ℕ) → k ≡ n → heads k ≡ Some (new_header client kind mode)
  head_new k same = ap (λ b. cond b (Some (new_header client kind mode)) (head k)) (eq-eqb k n same)

  head_other : (k : ℕ) → (k == n) ≡ false → heads k ≡ head k
  head_other k other = ap (λ b. cond b (Some (new_header client kind mode)) (head k)) other

  parent_other : (k : ℕ) → (k == n) ≡ false → parent_in heads after k ≡ parent_in head t.names k
  parent_other k other = parent_kept head t.names sound heads after k (head_other k other) (others_count t.names d m n facts.free_name k other) (λ e k' there. kept_target t.names d m n facts.free_name e k' k there)

  parent_new : (kind : Kind) → heads n ≡ Some (new_header client kind mode) → parent_in heads after n ≡ put_parent kind n d (parent_in head t.names) n
  parent_new File new = parent_of_none heads after n (ap is_directory new) ∙ sym (parent_of_none head t.names n (ap is_directory facts.free_number))
  parent_new Directory new =
      parent_is heads after n d m (ap is_directory new) (root_is_node head t.names sound n facts.free_number) new_is_named_once (new_target t.names d m n facts.free_name)
      ∙ sym (put_parent_here n d (parent_in head t.names))

  parent_after : (k : ℕ) → parent_in heads after k ≡ put_parent kind n d (parent_in head t.names) k
  parent_after k = at (k == n) refl
    where
      at : (b : Bool) → (k == n) ≡ b → parent_in heads after k ≡ put_parent kind n d (parent_in head t.names) k
      at true same = subst (λ k. parent_in heads after k ≡ put_parent kind n d (parent_in head t.names) k) (sym (eqb-true k n same)) (parent_new kind (head_new n refl))
      at false other = parent_other k other ∙ sym (put_parent_elsewhere kind n d (parent_in head t.names) k other)

  pub create_seen : sight (effect filling client index entry t) ≡ seen_after client (sight t) entry
  unfolding change_of without_unnamed seen_after
  create_seen = λ i. record {
    head = λ k. head_after k i;
    name = λ e k. target-insert t.names d m n e k i;
    count = λ e. count_shifted t.names d m n facts.free_name e i;
    parent = λ k. (ap (λ heads. parent_in heads after k) (λ i k. head_after k i) ∙ parent_after k) i;
  }

  -- ---- the tree after it is sound

  name_is_sound : (e : ℕ) (k : List ℕ) (number : ℕ) → IsName m → target after e k ≡ Some number → NameIsSound heads after e k number
  name_is_sound e k number spelled there = new_or_old t.names d m n facts.free_name e k number there new old
    where
      apart : (k : ℕ) (h : Option Header) → head k ≡ h → (h ≡ None → ⊥) → (k == n) ≡ false
      apart k h is some = ne_eqb k n (λ same. some (sym is ∙ ap head same ∙ facts.free_number))

      directory_kept : (k : ℕ) → IsTrue (is_directory (head k)) → IsTrue (is_directory (heads k))
      directory_kept k is = ap is_directory (head_other k (apart k (head k) refl (λ none. false≢true (sym (ap is_directory none) ∙ is)))) ∙ is

      new : d ≡ e → m ≡ k → n ≡ number → NameIsSound heads after e k number
      new directory_is name_is number_is = record {
        spelled = subst IsName name_is spelled;
        holder = directory_kept e (subst (λ e. IsTrue (is_directory (head e))) directory_is facts.directory);
        node = (new_header client kind mode, head_new number (sym number_is));
        not_root = λ root. root_is_node head t.names sound n facts.free_number (number_is ∙ root);
      }

      old : target t.names e k ≡ Some number → NameIsSound heads after e k number
      old is =
          let was = sound.names_sound e k number is in
          let (h, shown) = was.node in
          record {
            spelled = was.spelled;
            holder = directory_kept e was.holder;
            node = (h, head_other number (apart number (Some h) shown (λ none. cc)) ∙ shown);
            not_root = was.not_root;
          }

  one_or_old : {P : Type 0} (k : ℕ) (test : Option Header → Bool) → IsTrue (test (heads k)) → ((k ≡ n) → P) → ((k == n) ≡ false → IsTrue (test (head k)) → P) → P
  one_or_old {P} k test holds new old = at (k == n) refl
    where
      at : (b : Bool) → (k == n) ≡ b → P
      at true same = new (eqb-true k n same)
      at false other = old other (ap test (sym (head_other k other)) ∙ holds)

  parent_stays : (k up : ℕ) → parent_in head t.names k ≡ Some up → parent_in heads after k ≡ Some up
  parent_stays k up is = parent_other k (ne_eqb k n (λ same. false≢true (sym (ap is_directory (ap head same ∙ facts.free_number)) ∙ (has_parent head t.names k up is).0))) ∙ is

  reach : (k : ℕ) → IsTrue (is_directory (head k)) → (steps : ℕ) × Climbs (parent_in heads after) steps k 1
  reach k directory = let (steps, climb) = sound.reaches k directory in (steps, climbs_with (parent_in head t.names) (parent_in heads after) parent_stays steps k 1 climb)

  reach_new : (kind' : Kind) → kind ≡ kind' → IsTrue (is_directory (Some (new_header client kind mode))) → (steps : ℕ) × Climbs (parent_in heads after) steps n 1
  reach_new File is directory = absurd (false≢true (sym (ap (λ kind. is_directory (Some (new_header client kind mode))) is) ∙ directory))
  reach_new Directory is directory =
      let (steps, climb) = reach d facts.directory in
      (suc steps, (d, parent_is heads after n d m (ap is_directory (head_new n refl) ∙ directory) (root_is_node head t.names sound n facts.free_number) new_is_named_once (new_target t.names d m n facts.free_name), climb))

  new_in_range : IsClient client → (version : ℕ) → IsEntry version entry → InRange n (new_header client kind mode)
  new_in_range fits version entry_fits = record {
    least = let least = facts.least in let first = (grant_ends client.first client.last fits.grant).0 in omega arith;
    greatest = let greatest = facts.greatest in let last = (grant_ends client.first client.last fits.grant).1 in omega arith;
    mode = mode_in_range version mode entry_fits.3;
    uid = fits.uid;
    gid = fits.gid;
    size = omega arith;
  }

  heads_sound : IsClient client → (version : ℕ) → IsEntry version entry → AreSound heads after
  heads_sound fits version entry_fits = record {
    root = ap is_directory (head_other 1 (ne_eqb 1 n (λ same. root_is_node head t.names sound n facts.free_number (sym same)))) ∙ sound.root;
    names_sound = λ e k number there. name_is_sound e k number entry_fits.1 there;
    directories = λ k directory other.
        one_or_old k is_directory directory (λ same. subst (λ k. name_count after k ≡ 1) (sym same) new_is_named_once) (λ apart old. others_count t.names d m n facts.free_name k apart ∙ sound.directories k old other);
    files = λ k file.
        one_or_old k is_file file (λ same. subst (λ k. (1 ≤ name_count after k) × (name_count after k ≤ 1024)) (sym same) (omega (arith, new_is_named_once), omega (arith, new_is_named_once)))
        (λ apart old. subst (λ c. (1 ≤ c) × (c ≤ 1024)) (sym (others_count t.names d m n facts.free_name k apart)) (sound.files k old));
    reaches = λ k directory.
        one_or_old k is_directory directory
        (λ same. subst (λ k. (steps : ℕ) × Climbs (parent_in heads after) steps k 1) (sym same) (reach_new kind refl (sym (ap is_directory (head_new k same)) ∙ directory)))
        (λ apart old. reach k old);
    ranges = λ k h shown. range_at k h (k == n) refl shown;
  }
    where
      range_at : (k : ℕ) (h : Header) (b : Bool) → (k == n) ≡ b → heads k ≡ Some h → InRange k h
      range_at k h true same shown =
          let header_is : new_header client kind mode ≡ h = cc (head_new k (eqb-true k n same)) in
          subst (λ k. InRange k h) (sym (eqb-true k n same)) (subst (InRange n) header_is (new_in_range fits version entry_fits))
      range_at k h false other shown = sound.ranges k h (sym (head_other k other) ∙ shown)

  pub create_sound : IsClient client → (version : ℕ) → IsEntry version entry → IsSound (effect filling client index entry t)
  unfolding change_of without_unnamed
  create_sound fits version entry_fits = subst (λ heads. AreSound heads after) (λ i k. sym (head_after k) i) (heads_sound fits version entry_fits)

pub create_kept : {B : Type 0} (filling : Filling B) (context : EntryContext) (index : ℕ) (t : Tree B) (d : ℕ) (m : List ℕ) (n : ℕ) (kind : Kind) (mode : ℕ) → IsClean context t (Create d m n kind mode) → StaysSound filling context.client index t (Create d m n kind mode)
create_kept filling context index t d m n kind mode h =
    let facts = create_facts (at_tree context t) d m n kind mode (clean_at context t h) in
    record {
      sound = create_sound filling context.client index t d m n kind mode h.sound facts h.client h.version h.entry_fits;
      seen = create_seen filling context.client index t d m n kind mode h.sound facts;
    }
