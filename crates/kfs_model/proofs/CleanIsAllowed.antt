-- A clean entry is allowed: each condition follows from a check that did not fail.
use Rattle.std.specs.Prelude.{◌≡◌, ℕ, Bool, true, false, ◌==◌, if◌then◌else◌, ◌&&◌, ◌||◌, not, ◌≤◌, List, [], ◌∷◌, Option, Some, None, is_some, refl, IsTrue, ◌⊎◌}
use Rattle.std.specs.List.{AllByRecursion}
use Rattle.std.proofs.Common.{subst, ap, inl, inr, ◌∙◌}
use Rattle.std.proofs.lemmas.Bool.{leb-true, eqb-true}
use Rattle.kfs_model.specs.Header.{Kind, File, Directory, Header}
use Rattle.kfs_model.specs.Access.{Want, Search, may_header, is_in_group, owns, is_sticky}
use Rattle.kfs_model.specs.Entry.{Entry, Create, Write, Truncate, Link, Unlink, Rename, Chmod, Regroup}
use Rattle.kfs_model.specs.Sight.{is_directory, is_file, kind_shown}
use Rattle.kfs_model.specs.Check.{EntryContext, Reason, Check, MaySearch, MayWrite, MayRemove, IsLeased, IsADirectory, NumberIsGranted, NoSuchName, unless, fault, is_some_and, on_number, may_go, arrival_checks, move_checks, rename_checks, checks_of, first_failing, first_fault}
use Rattle.kfs_model.specs.Allowed.{IsGrantedBit, IsLeasedTo, IsNotSticky, IsOwner, MayChangeDirectory, MayChangeFile, MayLoseName, NameLeadsTo, MayMove, IsAllowed}

-- none of the checks fails
abbrev pub AllPass : EntryContext → List Check → Type 0
AllPass p checks = AllByRecursion (λ check. fault p check ≡ None) checks

pub all_pass : (p : EntryContext) (checks : List Check) → first_failing p checks ≡ None → AllPass p checks
unfolding first_failing
all_pass p [] clean = tt
all_pass p (check ∷ checks) clean = by_fault (all_pass p checks) (fault p check) refl clean
  where
    rest_clean : Option Reason → Type 0
    rest_clean found = ◌≡◌ {A = Option Reason} (elim found [ None ↦ first_failing p checks | Some reason ↦ Some reason ]) None

    by_fault : (first_failing p checks ≡ None → AllPass p checks) → (found : Option Reason) → fault p check ≡ found → rest_clean found → AllPass p (check ∷ checks)
    by_fault rest None is clean' = (is, rest clean')
    by_fault rest (Some reason) is clean' = cc

pub passed : (test : Bool) (reason : Reason) → unless test reason ≡ None → IsTrue test
passed true reason e = refl
passed false reason e = cc

-- a test of an option's value that passes has a value
pub found : {X : Type 0} (o : Option X) (test : X → Bool) → IsTrue (is_some_and o test) → (x : X) × (o ≡ Some x) × IsTrue (test x)
found None test holds = cc
found (Some x) test holds = (x, refl, holds)

pub either : (a b : Bool) → IsTrue (a || b) → IsTrue a ⊎ IsTrue b
either true b h = inl refl
either false b h = inr h

pub left : (a b : Bool) → IsTrue (a && b) → IsTrue a
left true b h = refl
left false b h = h

pub right : (a b : Bool) → IsTrue (a && b) → IsTrue b
right true b h = h
right false b h = cc

no_file : (h : Option Header) → IsTrue (is_directory h) → IsTrue (is_file h) → ⊥
no_file None directory file = cc
no_file (Some h) directory file = by_kind h.kind directory file
  where
    by_kind : (kind : Kind) → IsTrue (is_directory (Some (record h { kind = kind }))) → IsTrue (is_file (Some (record h { kind = kind }))) → ⊥
    by_kind File directory' file' = cc
    by_kind Directory directory' file' = cc

-- ---- what the checks say

module _ (p : EntryContext) where
  searches : (n : ℕ) → fault p (MaySearch n) ≡ None → IsGrantedBit p Search n
  unfolding fault
  searches n e = found (p.now.head n) (λ h. may_header p.client h Search) (passed _ _ e)

  leased : (n : ℕ) → fault p (IsLeased n) ≡ None → IsLeasedTo p n
  unfolding fault
  leased n e = either (p.created n) (p.before.held n) (passed _ _ e)

  -- a file that the log created needs no bit
  writes : (n : ℕ) → fault p (MayWrite n) ≡ None → IsGrantedBit p Want.Write n ⊎ (IsTrue (p.created n) × IsTrue (is_file (p.now.head n)))
  unfolding fault
  writes n e = elim (either _ _ (passed _ _ e)) [
    | inl own ↦ inr (left _ _ own, right _ _ own)
    | inr granted ↦ inl (found (p.now.head n) (λ h. may_header p.client h Want.Write) granted)
  ]

  writes_directory : (n : ℕ) → fault p (IsADirectory n) ≡ None → fault p (MayWrite n) ≡ None → IsGrantedBit p Want.Write n
  unfolding fault
  writes_directory n directory e = elim (writes n e) [
    | inl granted ↦ granted
    | inr own ↦ absurd (no_file (p.now.head n) (passed _ _ directory) own.1)
  ]

  changes_directory : (d : ℕ) → fault p (IsADirectory d) ≡ None → fault p (MaySearch d) ≡ None → fault p (MayWrite d) ≡ None → fault p (IsLeased d) ≡ None → MayChangeDirectory p d
  changes_directory d directory search write lease = record { search = searches d search; write = writes_directory d directory write; leased = leased d lease }

  changes_file : (n : ℕ) → fault p (MayWrite n) ≡ None → fault p (IsLeased n) ≡ None → MayChangeFile p n
  changes_file n write lease = record {
    write = elim (writes n write) [ inl granted ↦ inl granted | inr own ↦ inr own.0 ];
    leased = leased n lease;
  }

  unprotected : (d n : ℕ) → fault p (MayRemove d n) ≡ None → IsNotSticky p d ⊎ (IsOwner p d ⊎ IsOwner p n)
  unfolding fault
  unprotected d n e = elim (either _ _ (passed _ _ e)) [
    | inl by_directory ↦ elim (either _ _ by_directory) [
      | inl free ↦ inl (found (p.now.head d) (λ h. not (is_sticky h.mode)) free)
      | inr owner ↦ inr (inl (found (p.now.head d) (λ h. owns p.client h.uid) owner))
    ]
    | inr owner ↦ inr (inr (found (p.now.head n) (λ h. owns p.client h.uid) owner))
  ]

  granted_number : (n : ℕ) → fault p (NumberIsGranted n) ≡ None → (p.client.first ≤ n) × (n ≤ p.client.last)
  unfolding fault
  granted_number n e =
      let both = passed _ _ e in
      (leb-true _ _ (left _ _ both), leb-true _ _ (right _ _ both))

-- ---- each entry

clean_create : (p : EntryContext) (d : ℕ) (m : List ℕ) (n : ℕ) (kind : Kind) (mode : ℕ) → first_fault p (Create d m n kind mode) ≡ None → IsAllowed p (Create d m n kind mode)
unfolding checks_of
clean_create p d m n kind mode clean =
    let pass = all_pass p _ clean in
    record {
      in_directory = changes_directory p d pass.1.0 pass.1.1.0 pass.1.1.1.0 pass.1.1.1.1.0;
      least = (granted_number p n pass.1.1.1.1.1.1.0).0;
      greatest = (granted_number p n pass.1.1.1.1.1.1.0).1;
    }

clean_write : (p : EntryContext) (n offset : ℕ) (payload : List ℕ) → first_fault p (Write n offset payload) ≡ None → IsAllowed p (Write n offset payload)
unfolding checks_of
clean_write p n offset payload clean = let pass = all_pass p _ clean in changes_file p n pass.1.1.0 pass.1.1.1.0

clean_truncate : (p : EntryContext) (n size : ℕ) → first_fault p (Truncate n size) ≡ None → IsAllowed p (Truncate n size)
unfolding checks_of
clean_truncate p n size clean = let pass = all_pass p _ clean in changes_file p n pass.1.1.0 pass.1.1.1.0

clean_link : (p : EntryContext) (n d : ℕ) (m : List ℕ) → first_fault p (Link n d m) ≡ None → IsAllowed p (Link n d m)
unfolding checks_of
clean_link p n d m clean =
    let pass = all_pass p _ clean in
    let after_file = pass.1.1 in
    record {
      in_directory = changes_directory p d after_file.1.0 after_file.1.1.0 after_file.1.1.1.0 after_file.1.1.1.1.0;
      leased = leased p n after_file.1.1.1.1.1.0;
    }

clean_chmod : (p : EntryContext) (n mode : ℕ) → first_fault p (Chmod n mode) ≡ None → IsAllowed p (Chmod n mode)
unfolding checks_of fault
clean_chmod p n mode clean =
    let pass = all_pass p _ clean in
    record { owner = found (p.now.head n) (λ h. owns p.client h.uid) (passed _ _ pass.1.0); leased = leased p n pass.1.1.0 }

clean_regroup : (p : EntryContext) (n group : ℕ) → first_fault p (Regroup n group) ≡ None → IsAllowed p (Regroup n group)
unfolding checks_of fault
clean_regroup p n group clean =
    let pass = all_pass p _ clean in
    record {
      owner = found (p.now.head n) (λ h. owns p.client h.uid) (passed _ _ pass.1.0);
      member = either (is_in_group p.client group) p.client.privileged (passed _ _ pass.1.1.0);
      leased = leased p n pass.1.1.1.0;
    }

-- the node that a name leads to may lose it, whichever kind is to go
goes : (p : EntryContext) (kind : Kind) (d t : ℕ) → AllPass p (may_go kind d t) → MayLoseName p d t
goes p File d t pass = record { unprotected = unprotected p d t pass.1.0; leased = leased p t pass.1.1.0 }
goes p Directory d t pass = record { unprotected = unprotected p d t pass.1.0; leased = leased p t pass.1.1.0 }

clean_unlink : (p : EntryContext) (d : ℕ) (m : List ℕ) (kind : Kind) → first_fault p (Unlink d m kind) ≡ None → IsAllowed p (Unlink d m kind)
unfolding checks_of fault
clean_unlink p d m kind clean =
    let pass = all_pass p _ clean in
    record {
      in_directory = changes_directory p d pass.1.0 pass.1.1.0 pass.1.1.1.0 pass.1.1.1.1.0;
      removed = by_target (p.now.name d m) refl pass.1.1.1.1.1.0 pass.1.1.1.1.1.1;
    }
  where
    by_target : (target : Option ℕ) → p.now.name d m ≡ target → unless (is_some target) NoSuchName ≡ None → AllPass p (on_number target (may_go kind d)) → (number : ℕ) × NameLeadsTo p d m number × MayLoseName p d number
    by_target None is there pass = cc
    by_target (Some t) is there pass = (t, is, goes p kind d t pass)

-- ---- a Rename

what_goes : (p : EntryContext) (kind : Kind) (s e : ℕ) (there : Option ℕ) → AllPass p (arrival_checks kind s e there) → AllPass p (on_number there (may_go kind e))
what_goes p File s e there pass = pass
what_goes p Directory s e there pass = pass.1

module _ (p : EntryContext) (d : ℕ) (m : List ℕ) (e : ℕ) (k : List ℕ) where
  -- what is there beside the checks of the node that moves
  abbrev Replaced : (s : ℕ) (to : Option ℕ) → Type 0
  Replaced s to = AllPass p (on_number to (may_go (kind_shown (p.now.head s)) e))

  replaced_goes : (s : ℕ) (to : Option ℕ) → p.now.name e k ≡ to → Replaced s to → (number : ℕ) → NameLeadsTo p e k number → MayLoseName p e number
  replaced_goes s None is pass number leads = cc
  replaced_goes s (Some t) is pass number leads =
      let same : t ≡ number = cc in
      subst (MayLoseName p e) same (goes p (kind_shown (p.now.head s)) e t pass)

  moves : IsTrue (is_directory (p.now.head d)) → IsTrue (is_directory (p.now.head e)) → IsGrantedBit p Search d → IsGrantedBit p Search e → (s : ℕ) → NameLeadsTo p d m s → (to : Option ℕ) → p.now.name e k ≡ to → AllPass p (move_checks p d e s to) → MayMove p d m e k
  moves directory_d directory_e search_d search_e s from to is pass = record {
    from = record { search = search_d; write = bit d directory_d (writes p d pass.0); leased = leased p d pass.1.1.1.0 };
    to = record { search = search_e; write = bit e directory_e (writes p e pass.1.0); leased = leased p e pass.1.1.1.1.0 };
    moved = (s, from, record { unprotected = unprotected p d s pass.1.1.0; leased = leased p s pass.1.1.1.1.1.0 });
    replaced = replaced_goes s to is (what_goes p (kind_shown (p.now.head s)) s e to pass.1.1.1.1.1.1.1);
  }
    where
      bit : (n : ℕ) → IsTrue (is_directory (p.now.head n)) → IsGrantedBit p Want.Write n ⊎ (IsTrue (p.created n) × IsTrue (is_file (p.now.head n))) → IsGrantedBit p Want.Write n
      bit n directory (inl granted) = granted
      bit n directory (inr own) = absurd (no_file (p.now.head n) directory own.1)

  clean_rename : first_fault p (Rename d m e k) ≡ None → IsAllowed p (Rename d m e k)
  unfolding checks_of fault
  clean_rename clean = by_names (p.now.name d m) (p.now.name e k) refl refl pass.1.1.1.1.1.1.0 pass.1.1.1.1.1.1.1.1
    where
      pass : AllPass p (checks_of p (Rename d m e k))
      pass = all_pass p _ clean

      moved : (s : ℕ) → NameLeadsTo p d m s → (to : Option ℕ) → p.now.name e k ≡ to → AllPass p (move_checks p d e s to) → IsAllowed p (Rename d m e k)
      moved s from to is rest = inr (moves (passed _ _ pass.1.0) (passed _ _ pass.1.1.1.0) (searches p d pass.1.1.1.1.0) (searches p e pass.1.1.1.1.1.0) s from to is rest)

      by_names : (from to : Option ℕ) → p.now.name d m ≡ from → p.now.name e k ≡ to → unless (is_some from) NoSuchName ≡ None → AllPass p (rename_checks p d e from to) → IsAllowed p (Rename d m e k)
      by_names None to is also there rest = cc
      by_names (Some s) None is also there rest = moved s is None also rest
      by_names (Some s) (Some t) is also there rest = by_test (t == s) refl rest
        where
          by_test : (same : Bool) → (t == s) ≡ same → AllPass p (if same then [] else move_checks p d e s (Some t)) → IsAllowed p (Rename d m e k)
          by_test true equal rest' = inl (record {
            same = (s, is, also ∙ ap Some (eqb-true t s equal));
            from = searches p d pass.1.1.1.1.0;
            to = searches p e pass.1.1.1.1.1.0;
          })
          by_test false other rest' = moved s is (Some t) also rest'

-- a clean entry is allowed
pub clean_is_allowed : (p : EntryContext) (entry : Entry) → first_fault p entry ≡ None → IsAllowed p entry
clean_is_allowed p (Create d m n kind mode) clean = clean_create p d m n kind mode clean
clean_is_allowed p (Write n offset payload) clean = clean_write p n offset payload clean
clean_is_allowed p (Truncate n size) clean = clean_truncate p n size clean
clean_is_allowed p (Link n d m) clean = clean_link p n d m clean
clean_is_allowed p (Unlink d m kind) clean = clean_unlink p d m kind clean
clean_is_allowed p (Rename d m e k) clean = clean_rename p d m e k clean
clean_is_allowed p (Chmod n mode) clean = clean_chmod p n mode clean
clean_is_allowed p (Regroup n group) clean = clean_regroup p n group clean
