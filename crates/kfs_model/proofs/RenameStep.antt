-- A clean Unlink or Rename keeps a sound tree sound and moves what the cells show as said. A Rename over a name takes that
-- name away first, and then moves the other.
use Rattle.std.proofs.Common.{◌≡◌, ◌≢◌, ℕ, zero, suc, Bool, true, false, cond, ◌||◌, ◌==◌, ltb, pos, List, Option, Some, None, option_and_then, IsTrue, refl, sym, ap, ap₂, subst, ◌∙◌, ◌⊎◌, inl, inr, eq-eqb, ne_eqb}
use Rattle.kfs_model.specs.Header.{Kind}
use Rattle.kfs_model.specs.Table.{get, insert, remove}
use Rattle.kfs_model.proofs.TableLaws.{same_table, get-retain}
use Rattle.kfs_model.specs.Tree.{Tree, Node, NameTable, headers, target, entry_count, is_named}
use Rattle.kfs_model.specs.Entry.{Unlink, Rename}
use Rattle.kfs_model.specs.Sight.{Sight, sight, is_directory, climb_limit, climb_meets}
use Rattle.kfs_model.specs.Effect.{Filling, change_of, effect, without_unnamed, with_names, moved_name}
use Rattle.kfs_model.specs.Check.{EntryContext}
use Rattle.kfs_model.specs.Soundness.{IsSound}
use Rattle.kfs_model.specs.Spelling.{IsName}
use Rattle.kfs_model.specs.FirstWrong.{same_place}
use Rattle.kfs_model.specs.SeenAfter.{unlinked, seen_without, seen_moved, seen_renamed, seen_unlinked, seen_after}
use Rattle.kfs_model.specs.CleanStep.{IsClean, StaysSound}
use Rattle.kfs_model.proofs.CleanFacts.{at_tree, clean_at, unlink_facts, RenameFacts, RenameCase, Same, ToNone, Over, rename_facts}
use Rattle.kfs_model.proofs.NameTable.{target-insert, target-remove, is_named_counts}
use Rattle.kfs_model.proofs.NameRemoved as Removed
use Rattle.kfs_model.proofs.Heads.{stays, own_sweep}
use Rattle.kfs_model.proofs.UnlinkStep.{unlink_seen, unlink_sound, holder_apart}
use Rattle.kfs_model.proofs.MoveStep.{move_seen, move_sound, same_count}

same_pos : (a b : ℕ) → pos a ≡ pos b → a ≡ b
same_pos a b e = cc

-- ---- a name moved over another

-- a climb that loses parents meets no more
meets_no_more : (parent fewer : ℕ → Option ℕ) → ((k : ℕ) → (fewer k ≡ None) ⊎ (fewer k ≡ parent k)) → (fuel n from : ℕ) → climb_meets parent fuel n from ≡ false → climb_meets fewer fuel n from ≡ false
unfolding climb_meets
meets_no_more parent fewer each zero n from apart = apart
meets_no_more parent fewer each (suc fuel) n from apart = at (from == n) (parent from) (fewer from) (each from) (meets_no_more parent fewer each fuel n) apart
  where
    at : (b : Bool) (o less : Option ℕ) → (less ≡ None) ⊎ (less ≡ o) → ((up : ℕ) → climb_meets parent fuel n up ≡ false → climb_meets fewer fuel n up ≡ false)
        → ◌≡◌ {A = Bool} (elim b [ true ↦ true | false ↦ elim o [ None ↦ false | Some up ↦ climb_meets parent fuel n up ] ]) false
        → ◌≡◌ {A = Bool} (elim b [ true ↦ true | false ↦ elim less [ None ↦ false | Some up ↦ climb_meets fewer fuel n up ] ]) false
    at true o less is rest apart = apart
    at false o None is rest apart = refl
    at false None (Some up) is rest apart = elim is [ inl none ↦ cc | inr same ↦ cc ]
    at false (Some above) (Some up) is rest apart =
        elim is [ inl none ↦ cc | inr same ↦ let is_above : above ≡ up = cc in rest up (subst (λ up. climb_meets parent fuel n up ≡ false) is_above apart) ]

module _ {B : Type 0} (t : Tree B) (sound : IsSound t) (d : ℕ) (m : List ℕ) (e : ℕ) (k : List ℕ) (n over : ℕ) (there : target t.names d m ≡ Some n) (also : target t.names e k ≡ Some over) (other : over ≢ n)
    (empty : IsTrue (is_directory (get (headers t) over)) → entry_count t.names over ≡ 0) where
  abbrev without : NameTable
  without = remove t.names (e, k)

  -- the tree without the name that is replaced
  abbrev between : Tree B
  between = without_unnamed (with_names without t)

  between_names : NameTable
  between_names = without

  there_still : target without d m ≡ Some n
  there_still = Removed.kept_target t.names e k over also d m n (λ same. other (sym same)) there

  free_now : target without e k ≡ None
  free_now = Removed.gone t.names e k over also

  abbrev at_once : NameTable
  at_once = insert (remove t.names (d, m)) (e, k) n

  abbrev in_two : NameTable
  in_two = insert (remove without (d, m)) (e, k) n

  same_names : at_once ≡ in_two
  same_names = same_table at_once in_two (λ key. same_target key.0 key.1)
    where
      same_target : (f : ℕ) (l : List ℕ) → target at_once f l ≡ target in_two f l
      same_target f l =
          target-insert (remove t.names (d, m)) e k n f l ∙ ap (λ o. cond (same_place (f, l) (e, k)) (Some n) o) (target-remove t.names d m f l)
          ∙ at (same_place (f, l) (e, k))
          ∙ sym (target-insert (remove without (d, m)) e k n f l
          ∙ ap (λ o. cond (same_place (f, l) (e, k)) (Some n) o) (target-remove without d m f l ∙ ap (λ o. cond (same_place (f, l) (d, m)) None o) (target-remove t.names e k f l)))
        where
          at : (b : Bool) → cond b (Some n) (cond (same_place (f, l) (d, m)) None (target t.names f l)) ≡ cond b (Some n) (cond (same_place (f, l) (d, m)) None (cond b None (target t.names f l)))
          at true = refl
          at false = refl

  between_sound : IsSound between
  between_sound = unlink_sound t sound e k over also empty

  -- what stays in the end stays at the first step too
  same_stays : (x : ℕ) → stays in_two x ≡ stays without x
  unfolding without_unnamed
  same_stays x = ap (λ b. (x == 1) || b) (is_named_counts in_two x ∙ ap (ltb 0) (same_count between between_sound d m e k n there_still free_now x) ∙ sym (is_named_counts without x))

  same_tree : without_unnamed (with_names in_two t) ≡ without_unnamed (with_names in_two between)
  unfolding without_unnamed
  same_tree = λ i. record { nodes = same_table (without_unnamed (with_names in_two t)).nodes (without_unnamed (with_names in_two between)).nodes same_node i; names = in_two }
    where
      twice : (b c : Bool) (o : Option (Node B)) → b ≡ c → cond b o None ≡ cond b (cond c o None) None
      twice true true o same = refl
      twice true false o same = cc
      twice false c o same = refl

      same_node : (x : ℕ) → get (without_unnamed (with_names in_two t)).nodes x ≡ get (without_unnamed (with_names in_two between)).nodes x
      same_node x =
          get-retain (λ n. (n == 1) || is_named in_two n) t.nodes x
          ∙ twice (stays in_two x) (stays without x) (get t.nodes x) (same_stays x)
          ∙ sym (get-retain (λ n. (n == 1) || is_named in_two n) between.nodes x ∙ ap (λ o. cond (stays in_two x) o None) (get-retain (λ n. (n == 1) || is_named without n) t.nodes x))

  over_is : without_unnamed (with_names at_once t) ≡ without_unnamed (with_names in_two between)
  over_is = ap (λ names. without_unnamed (with_names names t)) same_names ∙ same_tree

  pub over_seen : sight (without_unnamed (with_names at_once t)) ≡ seen_moved d m e k n (seen_without e k over (sight t))
  unfolding without_unnamed
  over_seen = ap sight over_is ∙ move_seen between between_sound d m e k n there_still free_now ∙ ap (seen_moved d m e k n) (unlink_seen t sound e k over also empty)

  between_seen : sight between ≡ seen_without e k over (sight t)
  between_seen = unlink_seen t sound e k over also empty

  head_elsewhere : (x : ℕ) → (x == over) ≡ false → get (headers between) x ≡ get (headers t) x
  head_elsewhere x apart = ap (λ (s : Sight). s.head x) between_seen ∙ ap (λ b. cond b (option_and_then unlinked (get (headers t) over)) (get (headers t) x)) apart

  fewer_parents : (x : ℕ) → ((sight between).parent x ≡ None) ⊎ ((sight between).parent x ≡ (sight t).parent x)
  fewer_parents x = at (x == over) (ap (λ (s : Sight). s.parent x) between_seen)
    where
      at : (b : Bool) → (sight between).parent x ≡ cond b None ((sight t).parent x) → ((sight between).parent x ≡ None) ⊎ ((sight between).parent x ≡ (sight t).parent x)
      at true is = inl is
      at false is = inr is

  pub over_sound : IsName k → IsTrue (is_directory (get (headers t) e)) → (IsTrue (is_directory (get (headers t) n)) → climb_meets (sight t).parent climb_limit n e ≡ false) → IsSound (without_unnamed (with_names at_once t))
  unfolding without_unnamed
  over_sound spelled directory apart =
      subst IsSound (sym over_is)
      (move_sound between between_sound d m e k n there_still free_now spelled
      (ap is_directory (head_elsewhere e (holder_apart t sound e k over also empty e k over also)) ∙ directory)
      (λ moved. meets_no_more (sight t).parent (sight between).parent fewer_parents climb_limit n e (apart (sym (ap is_directory (head_elsewhere n (ne_eqb n over (λ same. other (sym same))))) ∙ moved))))

-- ---- the entries

-- what a moved name leaves, by what the two names lead to
module _ (names : NameTable) (d : ℕ) (m : List ℕ) (e : ℕ) (k : List ℕ) (n : ℕ) (there : target names d m ≡ Some n) where
  -- whether nothing changes
  abbrev unless : Bool → NameTable
  unless same = elim same [ true ↦ names | false ↦ insert (remove names (d, m)) (e, k) n ]

  moved_to_none : target names e k ≡ None → moved_name names d m e k ≡ insert (remove names (d, m)) (e, k) n
  moved_to_none free = rw (there, moved_name) (rw (free, moved_name) refl)

  moved_over : (t : ℕ) → target names e k ≡ Some t → t ≢ n → moved_name names d m e k ≡ insert (remove names (d, m)) (e, k) n
  moved_over t also other = let apart : (n == t) ≡ false = ne_eqb n t (λ same. other (sym same)) in rw (there, moved_name) (rw (also, moved_name) (ap unless apart))

  moved_nowhere : target names e k ≡ Some n → moved_name names d m e k ≡ names
  moved_nowhere also = let same : (n == n) ≡ true = eq-eqb n n refl in rw (there, moved_name) (rw (also, moved_name) (ap unless same))

module _ {B : Type 0} (filling : Filling B) (context : EntryContext) (index : ℕ) (t : Tree B) where
  pub unlink_kept : (d : ℕ) (m : List ℕ) (kind : Kind) → IsClean context t (Unlink d m kind) → StaysSound filling context.client index t (Unlink d m kind)
  unfolding change_of seen_after
  unlink_kept d m kind h =
      let facts = unlink_facts (at_tree context t) d m kind (clean_at context t h) in
      let empty : (IsTrue (is_directory (get (headers t) facts.number)) → entry_count t.names facts.number ≡ 0) = λ directory. same_pos _ 0 (facts.empty directory) in
      record {
        sound = unlink_sound t h.sound d m facts.number facts.there empty;
        seen = unlink_seen t h.sound d m facts.number facts.there empty ∙ ap (λ o. seen_unlinked d m o (sight t)) (sym facts.there);
      }

  -- the entry's change, where the names are left so
  with_names_left : (d : ℕ) (m : List ℕ) (e : ℕ) (k : List ℕ) (left : NameTable) → moved_name t.names d m e k ≡ left → effect filling context.client index (Rename d m e k) t ≡ without_unnamed (with_names left t)
  unfolding change_of
  with_names_left d m e k left is = ap (λ names. without_unnamed (with_names names t)) is

  renamed_as : (d : ℕ) (m : List ℕ) (e : ℕ) (k : List ℕ) (left : NameTable) (there also : Option ℕ) → moved_name t.names d m e k ≡ left → target t.names d m ≡ there → target t.names e k ≡ also
      → IsSound (without_unnamed (with_names left t)) → sight (without_unnamed (with_names left t)) ≡ seen_renamed d m e k there also (sight t) → StaysSound filling context.client index t (Rename d m e k)
  unfolding seen_after
  renamed_as d m e k left there also is there_is also_is sound seen = record {
    sound = subst IsSound (sym (with_names_left d m e k left is)) sound;
    seen = ap sight (with_names_left d m e k left is) ∙ seen ∙ ap₂ (λ there also. seen_renamed d m e k there also (sight t)) (sym there_is) (sym also_is);
  }

  pub rename_kept : (d : ℕ) (m : List ℕ) (e : ℕ) (k : List ℕ) → IsClean context t (Rename d m e k) → StaysSound filling context.client index t (Rename d m e k)
  rename_kept d m e k h = by_way facts.way
    where
      facts : RenameFacts (sight t) d m e k
      facts = rename_facts (at_tree context t) d m e k (clean_at context t h)

      n : ℕ
      n = facts.number

      by_way : RenameCase (sight t) d m e k n → StaysSound filling context.client index t (Rename d m e k)
      by_way (Same over also same) =
          let also_n = also ∙ ap Some same in
          renamed_as d m e k t.names (Some n) (Some n) (moved_nowhere t.names d m e k n facts.there also_n) facts.there also_n
          (subst IsSound (sym (own_sweep t h.sound)) h.sound)
          (ap sight (own_sweep t h.sound) ∙ ap (λ b. cond b (sight t) (seen_moved d m e k n (seen_without e k n (sight t)))) (sym (eq-eqb n n refl)))
      by_way (ToNone free apart) =
          renamed_as d m e k _ (Some n) None (moved_to_none t.names d m e k n facts.there free) facts.there free
          (move_sound t h.sound d m e k n facts.there free h.entry_fits.3 facts.to apart)
          (move_seen t h.sound d m e k n facts.there free)
      by_way (Over over also other apart empty) =
          let none : (IsTrue (is_directory (get (headers t) over)) → entry_count t.names over ≡ 0) = λ directory. same_pos _ 0 (empty directory) in
          renamed_as d m e k _ (Some n) (Some over) (moved_over t.names d m e k n facts.there over also other) facts.there also
          (over_sound t h.sound d m e k n over facts.there also other none h.entry_fits.3 facts.to apart)
          (over_seen t h.sound d m e k n over facts.there also other none ∙ ap (λ b. cond b (sight t) (seen_moved d m e k n (seen_without e k over (sight t)))) (sym (ne_eqb over n other)))
