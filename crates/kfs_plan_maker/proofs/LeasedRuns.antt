-- A run whose client holds the nodes that its entries name is the run whose client holds every node.
use Rattle.std.proofs.Common.{◌≡◌, ℕ, ◌+◌, ◌==◌, ◌||◌, Bool, true, false, List, [], ◌∷◌, ◌++◌, Option, Some, None, Result, Ok, Err, refl, sym, ap, subst, ◌∙◌, ◌⊎◌, inl, inr, if◌then◌else◌}
use Rattle.std.specs.List.{AllByRecursion}
use Rattle.kfs_model.specs.Header.{Kind, File, Directory}
use Rattle.kfs_model.specs.Access.{Client}
use Rattle.kfs_model.specs.CleanStep.{IsClient, Fits}
use Rattle.kfs_model.specs.Table.{get}
use Rattle.kfs_model.specs.Tree.{Tree, headers}
use Rattle.kfs_model.specs.Entry.{Entry, Create, Write, Truncate, Link, Unlink, Rename, Chmod, Regroup}
use Rattle.kfs_model.specs.Sight.{Sight, ClientSight, sight, client_sight, kind_shown}
use Rattle.kfs_model.specs.Check
use Rattle.kfs_model.specs.Check.{EntryContext, Reason, Check, fault, unless, first_failing, first_fault, checks_of, may_go, on_number, payload_fits, arrival_checks, move_checks, rename_checks}
use Rattle.kfs_model.specs.Effect.{Filling, effect}
use Rattle.kfs_model.specs.FirstWrong.{same_place}
use Rattle.kfs_model.specs.Run.{EntryFault, entry_context, created_by, run_from, run, over_bytes, over_marks, marked, byte_of}
use Rattle.kfs_model.specs.SeenAfter.{put_name, seen_after, seen_moved, seen_unlinked, seen_renamed, seen_without}
use Rattle.kfs_model.specs.Soundness.{IsSound, AreSound}
use Rattle.kfs_model.specs.Spelling.{IsEntry}
use Rattle.kfs_model.proofs.Cells.{recut, headers-recut}
use Rattle.kfs_model.proofs.CellSteps.{IsFaithful}
use Rattle.kfs_model.proofs.CleanIsAllowed.{AllPass, all_pass}
use Rattle.kfs_model.proofs.Marks.{marks_give_bytes}
use Rattle.kfs_model.proofs.SeenRun.{clean_step, bytes_faithful, marks_faithful}
use Rattle.kfs_plan_maker.specs.AskedLeases.{HoldsNamed, sight_with_leases, listed}

pub parts : {X : Type 0} (P : X → Type 0) (front back : List X) → AllByRecursion P (front ++ back) → AllByRecursion P front × AllByRecursion P back
parts P [] back all = (tt, all)
parts P (x ∷ front) back all = let rest = parts P front back all.1 in ((all.0, rest.0), rest.1)

-- the client, what all see of the nodes before the log, and the nodes that the client holds
module _ (client : Client) (first : Sight) (held : ℕ → Bool) where
  abbrev Holds : ℕ → Type 0
  Holds number = held number ≡ true

  abbrev some_leases : ClientSight
  some_leases = record { sight = first; held = held }

  abbrev all_leases : ClientSight
  all_leases = record { sight = first; held = λ number. true }

  -- where a check asks for a lease, the client holds it
  abbrev IsServed : Check → Type 0
  IsServed (Check.IsLeased n) = Holds n
  IsServed _ = Unit {0}

  abbrev AreServed : List Check → Type 0
  AreServed checks = AllByRecursion IsServed checks

  -- each name leads to a node that the client holds, or led there before the log
  abbrev pub NamesAreKnown : Sight → Type 0
  NamesAreKnown now = (d : ℕ) (m : List ℕ) (t : ℕ) → now.name d m ≡ Some t → Holds t ⊎ (first.name d m ≡ Some t)

  -- the node to which a name led before the log, or to which it leads now, is held
  held_listed : (o : Option ℕ) (t : ℕ) → AllByRecursion Holds (listed o) → o ≡ Some t → Holds t
  held_listed None t all is = cc
  held_listed (Some n) t all is = let same : n ≡ t = cc in subst Holds same all.0

  pub held_now : (now : Sight) → NamesAreKnown now → (d : ℕ) (m : List ℕ) (t : ℕ) → AllByRecursion Holds (listed (first.name d m)) → now.name d m ≡ Some t → Holds t
  held_now now known d m t all is = at (known d m t is)
    where
      at : Holds t ⊎ (first.name d m ≡ Some t) → Holds t
      at (inl has) = has
      at (inr led) = held_listed (first.name d m) t all led

  -- ---- one entry

  module _ (now : Sight) (created : ℕ → Bool) where
    abbrev p : EntryContext
    p = record { client = client; before = some_leases; now = now; created = created }

    abbrev q : EntryContext
    q = record { client = client; before = all_leases; now = now; created = created }

    same_fault : (check : Check) → IsServed check → fault p check ≡ fault q check
    unfolding fault
    same_fault (Check.Exists n) served = refl
    same_fault (Check.IsADirectory n) served = refl
    same_fault (Check.IsAFile n) served = refl
    same_fault (Check.MaySearch n) served = refl
    same_fault (Check.MayWrite n) served = refl
    same_fault (Check.IsOwned n) served = refl
    same_fault (Check.IsLeased n) served = ap (λ b. unless (created n || b) (Check.NoLease n)) served
    same_fault (Check.HasNoNames n) served = refl
    same_fault (Check.HasRoomForLink n) served = refl
    same_fault (Check.NumberIsGranted n) served = refl
    same_fault (Check.NumberIsFree n) served = refl
    same_fault (Check.NameIsThere d m) served = refl
    same_fault (Check.NameIsFree d m) served = refl
    same_fault (Check.MayRemove d n) served = refl
    same_fault (Check.MaySetGroup group) served = refl
    same_fault (Check.EndIsInRange end) served = refl
    same_fault (Check.IsNotAbove n d) served = refl
    same_fault (Check.Sees cell) served = refl

    same_failing : (checks : List Check) → AreServed checks → first_failing p checks ≡ first_failing q checks
    unfolding first_failing
    same_failing [] served = refl
    same_failing (check ∷ checks) served =
        ap (λ (o : Option Reason). elim o as (λ o. Option Reason) [ None ↦ first_failing p checks | Some reason ↦ Some reason ]) (same_fault check served.0)
        ∙ ap (λ (rest : Option Reason). elim (fault q check) as (λ o. Option Reason) [ None ↦ rest | Some reason ↦ Some reason ]) (same_failing checks served.1)

    goes_served : (kind : Kind) (d t : ℕ) → Holds t → AreServed (may_go kind d t)
    goes_served File d t has = (tt, (tt, (has, tt)))
    goes_served Directory d t has = (tt, (tt, (has, (tt, tt))))

    number_served : (kind : Kind) (d : ℕ) (o : Option ℕ) → ((t : ℕ) → o ≡ Some t → Holds t) → AreServed (on_number o (may_go kind d))
    number_served kind d None has = tt
    number_served kind d (Some t) has = goes_served kind d t (has t refl)

    payload_served : (offset : ℕ) (payload : List ℕ) → AreServed (payload_fits offset payload)
    payload_served offset [] = tt
    payload_served offset (b ∷ bs) = (tt, tt)

    arrival_served : (kind : Kind) (s e : ℕ) (there : Option ℕ) → ((t : ℕ) → there ≡ Some t → Holds t) → AreServed (arrival_checks kind s e there)
    arrival_served File s e there has = number_served File e there has
    arrival_served Directory s e there has = (tt, number_served Directory e there has)

    move_served : (d e s : ℕ) (there : Option ℕ) → Holds d → Holds e → Holds s → ((t : ℕ) → there ≡ Some t → Holds t) → AreServed (move_checks q d e s there)
    move_served d e s there at_d at_e at_s has = (tt, (tt, (tt, (at_d, (at_e, (at_s, (tt, arrival_served (kind_shown (now.head s)) s e there has)))))))

    rename_served : (d e : ℕ) (from to : Option ℕ) → Holds d → Holds e → ((s : ℕ) → from ≡ Some s → Holds s) → ((t : ℕ) → to ≡ Some t → Holds t) → AreServed (rename_checks q d e from to)
    rename_served d e None to at_d at_e at_s has = tt
    rename_served d e (Some s) None at_d at_e at_s has = move_served d e s None at_d at_e (at_s s refl) has
    rename_served d e (Some s) (Some t) at_d at_e at_s has = by_same (t == s)
      where
        by_same : (b : Bool) → AreServed (if b then [] else move_checks q d e s (Some t))
        by_same true = tt
        by_same false = move_served d e s (Some t) at_d at_e (at_s s refl) has

    entry_served : (entry : Entry) → NamesAreKnown now → HoldsNamed held first.name entry → AreServed (checks_of q entry)
    unfolding checks_of
    entry_served (Create d m n kind mode) known named = (tt, (tt, (tt, (tt, (named.0, (tt, (tt, (tt, tt))))))))
    entry_served (Write n offset payload) known named = (tt, (tt, (tt, (named.0, payload_served offset payload))))
    entry_served (Truncate n size) known named = (tt, (tt, (tt, (named.0, (tt, tt)))))
    entry_served (Link n d m) known named = (tt, (tt, (tt, (tt, (tt, (tt, (named.1.0, (named.0, (tt, (tt, tt))))))))))
    entry_served (Unlink d m kind) known named =
        (tt, (tt, (tt, (tt, (named.0, (tt, number_served kind d (now.name d m) (λ t is. held_now now known d m t named.1 is)))))))
    entry_served (Rename d m e k) known named =
        let both = parts Holds (listed (first.name d m)) (listed (first.name e k)) named.1.1 in
        (tt, (tt, (tt, (tt, (tt, (tt, (tt, (tt, rename_served d e (now.name d m) (now.name e k) named.0 named.1.0 (λ s is. held_now now known d m s both.0 is) (λ t is. held_now now known e k t both.1 is)))))))))
    entry_served (Chmod n mode) known named = (tt, (tt, (named.0, tt)))
    entry_served (Regroup n group) known named = (tt, (tt, (tt, (named.0, tt))))

    same_first_fault : (entry : Entry) → NamesAreKnown now → HoldsNamed held first.name entry → first_fault p entry ≡ first_fault q entry
    unfolding checks_of
    same_first_fault (Create d m n kind mode) known named = same_failing (checks_of q (Create d m n kind mode)) (entry_served (Create d m n kind mode) known named)
    same_first_fault (Write n offset payload) known named = same_failing (checks_of q (Write n offset payload)) (entry_served (Write n offset payload) known named)
    same_first_fault (Truncate n size) known named = same_failing (checks_of q (Truncate n size)) (entry_served (Truncate n size) known named)
    same_first_fault (Link n d m) known named = same_failing (checks_of q (Link n d m)) (entry_served (Link n d m) known named)
    same_first_fault (Unlink d m kind) known named = same_failing (checks_of q (Unlink d m kind)) (entry_served (Unlink d m kind) known named)
    same_first_fault (Rename d m e k) known named = same_failing (checks_of q (Rename d m e k)) (entry_served (Rename d m e k) known named)
    same_first_fault (Chmod n mode) known named = same_failing (checks_of q (Chmod n mode)) (entry_served (Chmod n mode) known named)
    same_first_fault (Regroup n group) known named = same_failing (checks_of q (Regroup n group)) (entry_served (Regroup n group) known named)

  -- ---- names after an entry

  -- a name that now leads to a held node, or to none
  put_known : (now : Sight) (d : ℕ) (m : List ℕ) (to : Option ℕ) → ((t : ℕ) → to ≡ Some t → Holds t) → NamesAreKnown now → (e : ℕ) (k : List ℕ) (t : ℕ) → put_name d m to now.name e k ≡ Some t → Holds t ⊎ (first.name e k ≡ Some t)
  put_known now d m to has known e k t is = at (same_place (e, k) (d, m)) is
    where
      at : (b : Bool) → (if b then to else now.name e k) ≡ Some t → Holds t ⊎ (first.name e k ≡ Some t)
      at true leads = inl (has t leads)
      at false leads = known e k t leads

  no_number : (t : ℕ) → None ≡ Some t → Holds t
  no_number t is = cc

  this_number : (n : ℕ) → Holds n → (t : ℕ) → Some n ≡ Some t → Holds t
  this_number n has t is = let same : n ≡ t = cc in subst Holds same has

  without_known : (now : Sight) (d : ℕ) (m : List ℕ) (t : ℕ) → NamesAreKnown now → NamesAreKnown (seen_without d m t now)
  without_known now d m t known = put_known now d m None no_number known

  moved_known : (now : Sight) (d : ℕ) (m : List ℕ) (e : ℕ) (k : List ℕ) (n : ℕ) → Holds n → NamesAreKnown now → NamesAreKnown (seen_moved d m e k n now)
  moved_known now d m e k n has known = put_known (record now { name = put_name d m None now.name }) e k (Some n) (this_number n has) (put_known now d m None no_number known)

  unlinked_known : (now : Sight) (d : ℕ) (m : List ℕ) (o : Option ℕ) → NamesAreKnown now → NamesAreKnown (seen_unlinked d m o now)
  unlinked_known now d m None known = known
  unlinked_known now d m (Some t) known = without_known now d m t known

  renamed_known : (now : Sight) (d : ℕ) (m : List ℕ) (e : ℕ) (k : List ℕ) (from to : Option ℕ) → ((s : ℕ) → from ≡ Some s → Holds s) → NamesAreKnown now → NamesAreKnown (seen_renamed d m e k from to now)
  renamed_known now d m e k None to has known = known
  renamed_known now d m e k (Some n) None has known = moved_known now d m e k n (has n refl) known
  renamed_known now d m e k (Some n) (Some t) has known = at (t == n)
    where
      at : (b : Bool) → NamesAreKnown (if b then now else seen_moved d m e k n (seen_without e k t now))
      at true = known
      at false = moved_known (seen_without e k t now) d m e k n (has n refl) (without_known now e k t known)

  pub still_known : (now : Sight) (entry : Entry) → HoldsNamed held first.name entry → NamesAreKnown now → NamesAreKnown (seen_after client now entry)
  unfolding seen_after
  still_known now (Create d m n kind mode) named known = put_known now d m (Some n) (this_number n named.1.0) known
  still_known now (Write n offset payload) named known = known
  still_known now (Truncate n size) named known = known
  still_known now (Link n d m) named known = put_known now d m (Some n) (this_number n named.0) known
  still_known now (Unlink d m kind) named known = unlinked_known now d m (now.name d m) known
  still_known now (Rename d m e k) named known =
      let both = parts Holds (listed (first.name d m)) (listed (first.name e k)) named.1.1 in
      renamed_known now d m e k (now.name d m) (now.name e k) (λ s is. held_now now known d m s both.0 is) known
  still_known now (Chmod n mode) named known = known
  still_known now (Regroup n group) named known = known

  -- ---- the run

  module _ {B : Type 0} (filling : Filling B) (faithful : IsFaithful filling) (in_range : IsClient client) (version : ℕ) where
    same_run_from : (index : ℕ) (created : List ℕ) (t : Tree B) (entries : List Entry) → IsSound t → AllByRecursion (IsEntry version) entries → NamesAreKnown (sight t) → AllByRecursion (HoldsNamed held first.name) entries
        → run_from filling client some_leases index created t entries ≡ run_from filling client all_leases index created t entries
    unfolding run_from
    same_run_from index created t [] sound fit known named = refl
    same_run_from index created t (entry ∷ entries) sound fit known named =
        ap (goes_on some_leases) (same_first_fault (sight t) (entry_context client all_leases (sight t) created).created entry known named.0)
        ∙ at (first_fault (entry_context client all_leases (sight t) created) entry) (λ clean.
        let kept = clean_step filling faithful (entry_context client all_leases (sight t) created) index t entry (record { sound = sound; client = in_range; version = version; entry_fits = fit.0; shown = refl; clean = clean }) in
        same_run_from (index + 1) (created_by entry created) (effect filling client index entry t) entries kept.sound fit.1
        (subst NamesAreKnown (sym kept.seen) (still_known (sight t) entry named.0 known)) named.1) refl
      where
        goes_on : ClientSight → Option Reason → Result (Tree B) EntryFault
        goes_on leases o = elim o [ None ↦ run_from filling client leases (index + 1) (created_by entry created) (effect filling client index entry t) entries | Some reason ↦ Err (record { entry = index; reason = reason }) ]

        at : (o : Option Reason)
            → (first_fault (entry_context client all_leases (sight t) created) entry ≡ None → run_from filling client some_leases (index + 1) (created_by entry created) (effect filling client index entry t) entries ≡ run_from filling client all_leases (index + 1) (created_by entry created) (effect filling client index entry t) entries)
            → first_fault (entry_context client all_leases (sight t) created) entry ≡ o
            → goes_on some_leases o ≡ goes_on all_leases o
        at None rest is = rest is
        at (Some reason) rest is = refl

-- ---- a tree before the log

-- marks in place of bytes leave the headers
marked_heads : (client : Client) (t : Tree ℕ) → headers (marked t) ≡ headers t
unfolding run_from
marked_heads client t =
    let before = client_sight t (λ number. true) in
    let same : ◌≡◌ {A = Result (Tree ℕ) EntryFault} (Ok (recut (byte_of t []) (marked t))) (Ok t) = marks_give_bytes client before t [] in
    let tree : recut (byte_of t []) (marked t) ≡ t = cc in
    sym (headers-recut (byte_of t []) (marked t)) ∙ ap headers tree

marked_sound : (client : Client) (t : Tree ℕ) → IsSound t → IsSound (marked t)
marked_sound client t sound = subst (λ heads. AreSound (get heads) t.names) (sym (marked_heads client t)) sound

module _ (client : Client) (t : Tree ℕ) (entries : List Entry) (fits : Fits client t entries) (held : ℕ → Bool) (named : AllByRecursion (HoldsNamed held (sight t).name) entries) where
  pub same_run : run over_bytes client (client_sight t held) t entries ≡ run over_bytes client (sight_with_leases t) t entries
  same_run = same_run_from client (sight t) held over_bytes bytes_faithful fits.in_range fits.version 0 [] t entries fits.sound fits.fitting (λ d m number is. inr is) named

  pub same_marked_run : run over_marks client (client_sight t held) (marked t) entries ≡ run over_marks client (sight_with_leases t) (marked t) entries
  same_marked_run = same_run_from client (sight t) held over_marks marks_faithful fits.in_range fits.version 0 [] (marked t) entries (marked_sound client t fits.sound) fits.fitting (λ d m number is. inr is) named

-- ---- a run without a fault doesn't depend on the leases

module _ (client : Client) (first : Sight) (held : ℕ → Bool) where
  module _ (now : Sight) (created : ℕ → Bool) where
    abbrev with_some : EntryContext
    with_some = record { client = client; before = record { sight = first; held = held }; now = now; created = created }

    abbrev with_all : EntryContext
    with_all = record { client = client; before = record { sight = first; held = λ number. true }; now = now; created = created }

    leased_too : (made has : Bool) (reason : Reason) → unless (made || has) reason ≡ None → unless (made || true) reason ≡ None
    leased_too true has reason clean = refl
    leased_too false has reason clean = refl

    clean_too : (check : Check) → fault with_some check ≡ None → fault with_all check ≡ None
    unfolding fault
    clean_too (Check.Exists n) clean = clean
    clean_too (Check.IsADirectory n) clean = clean
    clean_too (Check.IsAFile n) clean = clean
    clean_too (Check.MaySearch n) clean = clean
    clean_too (Check.MayWrite n) clean = clean
    clean_too (Check.IsOwned n) clean = clean
    clean_too (Check.IsLeased n) clean = leased_too (created n) (held n) (Check.NoLease n) clean
    clean_too (Check.HasNoNames n) clean = clean
    clean_too (Check.HasRoomForLink n) clean = clean
    clean_too (Check.NumberIsGranted n) clean = clean
    clean_too (Check.NumberIsFree n) clean = clean
    clean_too (Check.NameIsThere d m) clean = clean
    clean_too (Check.NameIsFree d m) clean = clean
    clean_too (Check.MayRemove d n) clean = clean
    clean_too (Check.MaySetGroup group) clean = clean
    clean_too (Check.EndIsInRange end) clean = clean
    clean_too (Check.IsNotAbove n d) clean = clean
    clean_too (Check.Sees cell) clean = clean

    all_clean : (checks : List Check) → AllPass with_some checks → first_failing with_all checks ≡ None
    unfolding first_failing
    all_clean [] pass = refl
    all_clean (check ∷ checks) pass =
        ap (λ (o : Option Reason). elim o as (λ o. Option Reason) [ None ↦ first_failing with_all checks | Some reason ↦ Some reason ]) (clean_too check pass.0) ∙ all_clean checks pass.1

    -- the checks are the same, whatever leases the client holds
    same_checks : (entry : Entry) → checks_of with_some entry ≡ checks_of with_all entry
    unfolding checks_of
    same_checks (Create d m n kind mode) = refl
    same_checks (Write n offset payload) = refl
    same_checks (Truncate n size) = refl
    same_checks (Link n d m) = refl
    same_checks (Unlink d m kind) = refl
    same_checks (Rename d m e k) = refl
    same_checks (Chmod n mode) = refl
    same_checks (Regroup n group) = refl

    entry_clean_too : (entry : Entry) → first_fault with_some entry ≡ None → first_fault with_all entry ≡ None
    entry_clean_too entry clean = ap (first_failing with_all) (sym (same_checks entry)) ∙ all_clean (checks_of with_some entry) (all_pass with_some (checks_of with_some entry) clean)

  abbrev few : ClientSight
  few = record { sight = first; held = held }

  abbrev every : ClientSight
  every = record { sight = first; held = λ number. true }

  module _ {B : Type 0} (filling : Filling B) where
    pub clean_run_from : (index : ℕ) (created : List ℕ) (t : Tree B) (entries : List Entry) (after : Tree B) → run_from filling client few index created t entries ≡ Ok after → run_from filling client every index created t entries ≡ Ok after
    unfolding run_from
    clean_run_from index created t [] after is = is
    clean_run_from index created t (entry ∷ entries) after is =
        at (first_fault (entry_context client few (sight t) created) entry) refl is
        (clean_run_from (index + 1) (created_by entry created) (effect filling client index entry t) entries after)
        (entry_clean_too (sight t) (entry_context client few (sight t) created).created entry)
      where
        goes_on : ClientSight → Option Reason → Result (Tree B) EntryFault
        goes_on leases o = elim o [ None ↦ run_from filling client leases (index + 1) (created_by entry created) (effect filling client index entry t) entries | Some reason ↦ Err (record { entry = index; reason = reason }) ]

        at : (o : Option Reason) → first_fault (entry_context client few (sight t) created) entry ≡ o → goes_on few o ≡ Ok after
            → (run_from filling client few (index + 1) (created_by entry created) (effect filling client index entry t) entries ≡ Ok after → run_from filling client every (index + 1) (created_by entry created) (effect filling client index entry t) entries ≡ Ok after)
            → (first_fault (entry_context client few (sight t) created) entry ≡ None → first_fault (entry_context client every (sight t) created) entry ≡ None)
            → goes_on every (first_fault (entry_context client every (sight t) created) entry) ≡ Ok after
        at None clean ends rest too = ap (goes_on every) (too clean) ∙ rest ends
        at (Some reason) clean ends rest too = cc
