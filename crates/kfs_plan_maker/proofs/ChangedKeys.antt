-- A log changes no names but those that its entries give or take, and no headers but those of nodes that
-- are named.
use Rattle.std.proofs.Common.{◌≡◌, ℕ, ◌+◌, ◌==◌, Bool, true, false, List, [], ◌∷◌, Option, Some, None, Result, Ok, Err, refl, sym, ap, subst, ◌∙◌, eqb-true, if◌then◌else◌}
use Rattle.std.specs.List.{AllByRecursion, list_any}
use Rattle.kfs_model.specs.Access.{Client}
use Rattle.kfs_model.specs.CleanStep.{IsClient}
use Rattle.kfs_model.specs.Header.{Header}
use Rattle.kfs_model.specs.Entry.{Entry, Create, Write, Truncate, Link, Unlink, Rename, Chmod, Regroup}
use Rattle.kfs_model.specs.Check.{Reason, first_fault}
use Rattle.kfs_model.specs.Effect.{Filling, effect}
use Rattle.kfs_model.specs.FirstWrong.{same_place}
use Rattle.kfs_model.specs.Run.{EntryFault, entry_context, created_by, run_from}
use Rattle.kfs_model.specs.SeenAfter.{put_at, put_name, seen_after, seen_moved, seen_unlinked, seen_renamed, seen_without}
use Rattle.kfs_model.specs.Sight.{Sight, ClientSight, sight}
use Rattle.kfs_model.specs.Soundness.{IsSound}
use Rattle.kfs_model.specs.Spelling.{IsEntry}
use Rattle.kfs_model.specs.Tree.{Tree}
use Rattle.kfs_model.proofs.CellSteps.{IsFaithful}
use Rattle.kfs_model.proofs.SeenRun.{clean_step}
use Rattle.kfs_plan_maker.specs.AskedLeases.{HoldsNamed, listed}
use Rattle.kfs_plan_maker.proofs.FewRows.{none_first, none_rest}
use Rattle.kfs_plan_maker.proofs.LeasedRuns.{NamesAreKnown, held_now, parts}

-- ---- names

-- the names that an entry gives or takes
abbrev pub names_moved : Entry → List (ℕ × List ℕ)
names_moved (Create d m n kind mode) = (d, m) ∷ []
names_moved (Write n offset payload) = []
names_moved (Truncate n size) = []
names_moved (Link n d m) = (d, m) ∷ []
names_moved (Unlink d m kind) = (d, m) ∷ []
names_moved (Rename d m e k) = (d, m) ∷ (e, k) ∷ []
names_moved (Chmod n mode) = []
names_moved (Regroup n group) = []

module _ (client : Client) (key : ℕ × List ℕ) where
  abbrev pub name_at : Sight → Option ℕ
  name_at s = s.name key.0 key.1

  abbrev pub IsApart : List (ℕ × List ℕ) → Type 0
  IsApart moved = list_any (same_place key) moved ≡ false

  put_apart : (now : Sight) (d : ℕ) (m : List ℕ) (to : Option ℕ) → same_place key (d, m) ≡ false → put_name d m to now.name key.0 key.1 ≡ name_at now
  put_apart now d m to apart = ap (λ b. if b then to else name_at now) apart

  moved_apart : (now : Sight) (d : ℕ) (m : List ℕ) (e : ℕ) (k : List ℕ) (n : ℕ) → same_place key (d, m) ≡ false → same_place key (e, k) ≡ false → name_at (seen_moved d m e k n now) ≡ name_at now
  moved_apart now d m e k n first second = put_apart (record now { name = put_name d m None now.name }) e k (Some n) second ∙ put_apart now d m None first

  unlinked_apart : (now : Sight) (d : ℕ) (m : List ℕ) (o : Option ℕ) → same_place key (d, m) ≡ false → name_at (seen_unlinked d m o now) ≡ name_at now
  unlinked_apart now d m None apart = refl
  unlinked_apart now d m (Some t) apart = put_apart now d m None apart

  renamed_apart : (now : Sight) (d : ℕ) (m : List ℕ) (e : ℕ) (k : List ℕ) (from to : Option ℕ) → same_place key (d, m) ≡ false → same_place key (e, k) ≡ false → name_at (seen_renamed d m e k from to now) ≡ name_at now
  renamed_apart now d m e k None to first second = refl
  renamed_apart now d m e k (Some n) None first second = moved_apart now d m e k n first second
  renamed_apart now d m e k (Some n) (Some t) first second = at (t == n)
    where
      at : (b : Bool) → name_at (if b then now else seen_moved d m e k n (seen_without e k t now)) ≡ name_at now
      at true = refl
      at false = moved_apart (seen_without e k t now) d m e k n first second ∙ put_apart now e k None second

  pub entry_apart : (now : Sight) (entry : Entry) → IsApart (names_moved entry) → name_at (seen_after client now entry) ≡ name_at now
  unfolding seen_after
  entry_apart now (Create d m n kind mode) apart = put_apart now d m (Some n) (none_first _ _ apart)
  entry_apart now (Write n offset payload) apart = refl
  entry_apart now (Truncate n size) apart = refl
  entry_apart now (Link n d m) apart = put_apart now d m (Some n) (none_first _ _ apart)
  entry_apart now (Unlink d m kind) apart = unlinked_apart now d m (now.name d m) (none_first _ _ apart)
  entry_apart now (Rename d m e k) apart = renamed_apart now d m e k (now.name d m) (now.name e k) (none_first _ _ apart) (none_first _ _ (none_rest _ _ apart))
  entry_apart now (Chmod n mode) apart = refl
  entry_apart now (Regroup n group) apart = refl

-- ---- headers

module _ (client : Client) (first : Sight) (held : ℕ → Bool) (n : ℕ) (free : held n ≡ false) where
  other_than : (m : ℕ) → held m ≡ true → (n == m) ≡ false
  other_than m has = at (n == m) refl
    where
      at : (b : Bool) → (n == m) ≡ b → b ≡ false
      at true is = let alike : n ≡ m = eqb-true n m is in let never : true ≡ false = sym (ap held alike ∙ has) ∙ free in absurd cc
      at false is = refl

  put_elsewhere : (m : ℕ) (x : Option Header) (head : ℕ → Option Header) → held m ≡ true → put_at m x head n ≡ head n
  put_elsewhere m x head has = ap (λ b. if b then x else head n) (other_than m has)

  unlinked_elsewhere : (now : Sight) (d : ℕ) (m : List ℕ) (o : Option ℕ) → ((t : ℕ) → o ≡ Some t → held t ≡ true) → (seen_unlinked d m o now).head n ≡ now.head n
  unlinked_elsewhere now d m None has = refl
  unlinked_elsewhere now d m (Some t) has = put_elsewhere t _ now.head (has t refl)

  renamed_elsewhere : (now : Sight) (d : ℕ) (m : List ℕ) (e : ℕ) (k : List ℕ) (from to : Option ℕ) → ((t : ℕ) → to ≡ Some t → held t ≡ true) → (seen_renamed d m e k from to now).head n ≡ now.head n
  renamed_elsewhere now d m e k None to has = refl
  renamed_elsewhere now d m e k (Some s) None has = refl
  renamed_elsewhere now d m e k (Some s) (Some t) has = at (t == s)
    where
      at : (b : Bool) → (if b then now else seen_moved d m e k s (seen_without e k t now)).head n ≡ now.head n
      at true = refl
      at false = put_elsewhere t _ now.head (has t refl)

  pub entry_elsewhere : (now : Sight) (entry : Entry) → NamesAreKnown client first held now → HoldsNamed held first.name entry → (seen_after client now entry).head n ≡ now.head n
  unfolding seen_after
  entry_elsewhere now (Create d m number kind mode) known named = put_elsewhere number _ now.head named.1.0
  entry_elsewhere now (Write number offset payload) known named = put_elsewhere number _ now.head named.0
  entry_elsewhere now (Truncate number size) known named = put_elsewhere number _ now.head named.0
  entry_elsewhere now (Link number d m) known named = put_elsewhere number _ now.head named.0
  entry_elsewhere now (Unlink d m kind) known named = unlinked_elsewhere now d m (now.name d m) (λ t is. held_now client first held now known d m t named.1 is)
  entry_elsewhere now (Rename d m e k) known named =
      let both = parts (λ t. held t ≡ true) (listed (first.name d m)) (listed (first.name e k)) named.1.1 in
      renamed_elsewhere now d m e k (now.name d m) (now.name e k) (λ t is. held_now client first held now known e k t both.1 is)
  entry_elsewhere now (Chmod number mode) known named = put_elsewhere number _ now.head named.0
  entry_elsewhere now (Regroup number group) known named = put_elsewhere number _ now.head named.0

-- ---- the run

module _ {B : Type 0} (filling : Filling B) (faithful : IsFaithful filling) (client : Client) (in_range : IsClient client) (before : ClientSight) (version : ℕ) where
  -- what each clean entry keeps, and is known of what it leads to, the run keeps
  module _ {X : Type 0} (shows : Sight → X) (Known : Sight → Type 0) (Fits : Entry → Type 0)
      (keeps : (now : Sight) (entry : Entry) → Known now → Fits entry → shows (seen_after client now entry) ≡ shows now)
      (still : (now : Sight) (entry : Entry) → Known now → Fits entry → Known (seen_after client now entry)) where
    pub run_keeps : (index : ℕ) (created : List ℕ) (t : Tree B) (entries : List Entry) → IsSound t → AllByRecursion (IsEntry version) entries → Known (sight t) → AllByRecursion Fits entries
        → (after : Tree B) → run_from filling client before index created t entries ≡ Ok after → shows (sight after) ≡ shows (sight t)
    unfolding run_from
    run_keeps index created t [] sound fit known all after is = let same : t ≡ after = cc in ap (λ (t : Tree B). shows (sight t)) (sym same)
    run_keeps index created t (entry ∷ entries) sound fit known all after is =
        at (first_fault (entry_context client before (sight t) created) entry) (λ clean.
        let kept = clean_step filling faithful (entry_context client before (sight t) created) index t entry (record { sound = sound; client = in_range; version = version; entry_fits = fit.0; shown = refl; clean = clean }) in
        λ goes_on. run_keeps (index + 1) (created_by entry created) (effect filling client index entry t) entries kept.sound fit.1
        (subst Known (sym kept.seen) (still (sight t) entry known all.0)) all.1 after goes_on
        ∙ ap shows kept.seen ∙ keeps (sight t) entry known all.0) refl is
      where
        at : (o : Option Reason)
            → (first_fault (entry_context client before (sight t) created) entry ≡ None → run_from filling client before (index + 1) (created_by entry created) (effect filling client index entry t) entries ≡ Ok after → shows (sight after) ≡ shows (sight t))
            → first_fault (entry_context client before (sight t) created) entry ≡ o
            → ◌≡◌ {A = Result (Tree B) EntryFault} (elim o [ None ↦ run_from filling client before (index + 1) (created_by entry created) (effect filling client index entry t) entries | Some reason ↦ Err (record { entry = index; reason = reason }) ]) (Ok after)
            → shows (sight after) ≡ shows (sight t)
        at None rest is ends = rest is ends
        at (Some reason) rest is ends = cc
