-- A name moved to where none was keeps a sound tree sound, where a directory stays out of what lies below it, and moves
-- what the cells show as said.
use Rattle.std.proofs.Common.{◌≡◌, ◌≢◌, ℕ, zero, suc, Bool, true, false, cond, ◌||◌, ◌==◌, ltb, pos, negsuc, List, Option, Some, None, IsTrue, refl, sym, ap, subst, ◌∙◌, arith, eqb-true}
use Rattle.std.proofs.lemmas.Bool.{eqb-false}
use Rattle.kfs_model.specs.Header.{Kind, File, Directory, Header}
use Rattle.kfs_model.specs.Table.{get, insert, remove}
use Rattle.kfs_model.specs.Tree.{Tree, NameTable, headers, target, name_count, entry_count}
use Rattle.kfs_model.specs.Sight.{sight, is_directory, parent_in, climb_limit, climb_meets, kind_shown}
use Rattle.kfs_model.specs.Effect.{without_unnamed, with_names}
use Rattle.kfs_model.specs.Soundness.{Climbs, NameIsSound, IsSound}
use Rattle.kfs_model.specs.Spelling.{IsName}
use Rattle.kfs_model.specs.FirstWrong.{same_place}
use Rattle.kfs_model.specs.SeenAfter.{put_name, put_parent, shifted, seen_moved}
use Rattle.kfs_model.proofs.NameTable.{target-insert, target-remove, target_is_named, is_named_counts}
use Rattle.kfs_model.proofs.NameAdded as Added
use Rattle.kfs_model.proofs.NameRemoved as Removed
use Rattle.kfs_model.proofs.Heads.{stays, kept_head, directory_stays, directory_count, parent_is, parent_kept, parent_of_none, has_parent, put_parent_elsewhere, put_parent_here}
use Rattle.kfs_model.proofs.NameStep.{left_head, left_head_is, NamesKept, names_kept_sound}
use Rattle.kfs_model.proofs.Climb.{short_climb, climb_apart}

module _ {B : Type 0} (t : Tree B) (sound : IsSound t) (d : ℕ) (m : List ℕ) (e : ℕ) (k : List ℕ) (n : ℕ) (there : target t.names d m ≡ Some n) (free : target t.names e k ≡ None) where
  abbrev head : ℕ → Option Header
  head = get (headers t)

  abbrev between : NameTable
  between = remove t.names (d, m)

  abbrev after : NameTable
  after = insert between (e, k) n

  free_between : target between e k ≡ None
  free_between = target-remove t.names d m e k ∙ at (same_place (e, k) (d, m))
    where
      at : (b : Bool) → cond b None (target t.names e k) ≡ None
      at true = refl
      at false = free

  pub same_count : (x : ℕ) → name_count after x ≡ name_count t.names x
  same_count x = at (x == n) refl
    where
      at : (b : Bool) → (x == n) ≡ b → name_count after x ≡ name_count t.names x
      at true same = subst (λ x. name_count after x ≡ name_count t.names x) (sym (eqb-true x n same)) (Added.own_count between e k n free_between ∙ Removed.own_count t.names d m n there)
      at false other = Added.others_count between e k n free_between x other ∙ Removed.others_count t.names d m n there x other

  head_after : (x : ℕ) → left_head t after x ≡ head x
  head_after x = left_head_is t after x ∙ kept_head t sound after x (same_count x)

  name_after : (f : ℕ) (l : List ℕ) → target after f l ≡ put_name e k (Some n) (put_name d m None (target t.names)) f l
  name_after f l = target-insert between e k n f l ∙ ap (λ o. cond (same_place (f, l) (e, k)) (Some n) o) (target-remove t.names d m f l)

  count_after : (f : ℕ) → pos (entry_count after f) ≡ shifted e (pos 1) (shifted d (negsuc 0) (λ d. pos (entry_count t.names d))) f
  count_after f = Added.count_shifted between e k n free_between f ∙ ap (λ count. shifted e (pos 1) count f) (λ i f. Removed.count_shifted t.names d m n there f i)

  kept_target : (f : ℕ) (l : List ℕ) (x : ℕ) → x ≢ n → target t.names f l ≡ Some x → target after f l ≡ Some x
  kept_target f l x other is = Added.kept_target between e k n free_between f l x (Removed.kept_target t.names d m n there f l x other is)

  no_root : n ≢ 1
  no_root = (sound.names_sound d m n there).not_root

  parent_here : (o : Option Header) → head n ≡ o → parent_in head after n ≡ put_parent (kind_shown o) n e (parent_in head t.names) n
  parent_here None is = let none = ap is_directory is in parent_of_none head after n none ∙ sym (parent_of_none head t.names n none)
  parent_here (Some h) is = at h.kind (ap is_directory is)
    where
      at : (kind : Kind) → is_directory (head n) ≡ is_directory (Some (record h { kind = kind })) → parent_in head after n ≡ put_parent kind n e (parent_in head t.names) n
      at File none = parent_of_none head after n none ∙ sym (parent_of_none head t.names n none)
      at Directory directory =
          parent_is head after n e k directory no_root (same_count n ∙ sound.directories n directory no_root) (Added.new_target between e k n free_between)
          ∙ sym (put_parent_here n e (parent_in head t.names))

  parent_after : (x : ℕ) → parent_in head after x ≡ put_parent (kind_shown (head n)) n e (parent_in head t.names) x
  parent_after x = at (x == n) refl
    where
      at : (b : Bool) → (x == n) ≡ b → parent_in head after x ≡ put_parent (kind_shown (head n)) n e (parent_in head t.names) x
      at true same = subst (λ x. parent_in head after x ≡ put_parent (kind_shown (head n)) n e (parent_in head t.names) x) (sym (eqb-true x n same)) (parent_here (head n) refl)
      at false other =
          parent_kept head t.names sound head after x refl (same_count x) (λ f l is. kept_target f l x (eqb-false x n other) is)
          ∙ sym (put_parent_elsewhere (kind_shown (head n)) n e (parent_in head t.names) x other)

  parent_left : (x : ℕ) → parent_in (left_head t after) after x ≡ put_parent (kind_shown (head n)) n e (parent_in head t.names) x
  parent_left x = ap (λ heads. parent_in heads after x) (λ i x. head_after x i) ∙ parent_after x

  pub move_seen : sight (without_unnamed (with_names after t)) ≡ seen_moved d m e k n (sight t)
  unfolding without_unnamed
  move_seen = λ i. record {
    head = λ x. head_after x i;
    name = λ f l. name_after f l i;
    count = λ f. count_after f i;
    parent = λ x. parent_left x i;
  }

  -- ---- the tree after it is sound

  module _ (spelled : IsName k) (directory : IsTrue (is_directory (head e))) (apart : IsTrue (is_directory (head n)) → climb_meets (parent_in head t.names) climb_limit n e ≡ false) where
    abbrev parents : ℕ → Option ℕ
    parents = parent_in (left_head t after) after

    parent_apart : (x up : ℕ) → (x == n) ≡ false → parent_in head t.names x ≡ Some up → parents x ≡ Some up
    parent_apart x up other is = parent_left x ∙ put_parent_elsewhere (kind_shown (head n)) n e (parent_in head t.names) x other ∙ is

    parent_moved : IsTrue (is_directory (head n)) → parents n ≡ Some e
    parent_moved moved =
        ap (λ heads. parent_in heads after n) (λ i x. head_after x i) ∙ parent_is head after n e k moved no_root (same_count n ∙ sound.directories n moved no_root) (Added.new_target between e k n free_between)

    -- the climb from the new directory is as it was
    climb_up : IsTrue (is_directory (head n)) → (steps : ℕ) × Climbs parents steps e 1
    climb_up moved =
        let (steps, climb) = sound.reaches e directory in
        (steps, climb_apart (parent_in head t.names) parents n parent_apart climb_limit steps e (short_climb head t.names sound steps e climb) (apart moved) climb)

    climb_after : (steps x : ℕ) → Climbs (parent_in head t.names) steps x 1 → (more : ℕ) × Climbs parents more x 1
    climb_after zero x climb = (zero, climb)
    climb_after (suc steps) x climb = at (x == n) refl (climb_after steps climb.0 climb.2)
      where
        at : (b : Bool) → (x == n) ≡ b → (more : ℕ) × Climbs parents more climb.0 1 → (more : ℕ) × Climbs parents more x 1
        at true same rest =
            let is = eqb-true x n same in
            let moved = subst (λ x. IsTrue (is_directory (head x))) is (has_parent head t.names x climb.0 climb.1).0 in
            let (up, above) = climb_up moved in
            (suc up, (e, ap parents is ∙ parent_moved moved, above))
        at false other rest = (suc rest.0, (climb.0, parent_apart x climb.0 other climb.1, rest.1))

    stays_on : (x : ℕ) → stays t.names x ≡ true → stays after x ≡ true
    stays_on x stay = ap (λ b. (x == 1) || b) (is_named_counts after x ∙ ap (ltb 0) (same_count x) ∙ sym (is_named_counts t.names x)) ∙ stay

    was_target : (f : ℕ) (l : List ℕ) (x : ℕ) → target between f l ≡ Some x → NameIsSound head t.names f l x
    was_target f l x is = sound.names_sound f l x (Removed.was_target t.names d m n there f l x is)

    holder_is : (f : ℕ) (l : List ℕ) (x : ℕ) → target after f l ≡ Some x → IsTrue (is_directory (head f))
    holder_is f l x is = Added.new_or_old between e k n free_between f l x is (λ e_is k_is n_is. subst (λ f. IsTrue (is_directory (head f))) e_is directory) (λ old. (was_target f l x old).holder)

    names_kept : NamesKept t after
    names_kept = record {
      spelled = λ f l x is. Added.new_or_old between e k n free_between f l x is (λ e_is k_is n_is. subst IsName k_is spelled) (λ old. (was_target f l x old).spelled);
      holder = λ f l x is. let holder = holder_is f l x is in (holder, stays_on f (directory_stays t sound f holder));
      node = λ f l x is.
          let named = target_is_named after f l x is in
          let was = Added.new_or_old between e k n free_between {P = (h : Header) × (head x ≡ Some h) × (x ≢ 1)} f l x is
          (λ e_is k_is n_is. let moved = sound.names_sound d m n there in subst (λ x. (h : Header) × (head x ≡ Some h) × (x ≢ 1)) n_is (moved.node.0, moved.node.1, moved.not_root))
          (λ old. let was = was_target f l x old in (was.node.0, was.node.1, was.not_root)) in
          (was.0, was.1, was.2, named);
      directories = λ x is. let most = directory_count head t.names sound x is in omega (arith, same_count x);
      files = λ x is. let most = (sound.files x is).1 in omega (arith, same_count x);
      reaches = λ x is stay. let (steps, climb) = sound.reaches x is in climb_after steps x climb;
    }

    pub move_sound : IsSound (without_unnamed (with_names after t))
    move_sound = names_kept_sound t after sound names_kept
