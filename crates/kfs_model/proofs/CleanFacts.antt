-- What the checks of a clean entry say of what the cells show.
use Rattle.std.proofs.Common.{◌≡◌, ◌≢◌, ℕ, ◌<◌, ◌≤◌, Bool, true, false, ltb, ◌==◌, if◌then◌else◌, pos, List, [], Option, Some, None, is_some, is_none, IsTrue, refl, sym, subst, ◌∙◌, ltb-true, eqb-true}
use Rattle.std.proofs.lemmas.Bool.{leb-true, not-true, eqb-false, false≢true}
use Rattle.std.proofs.lemmas.Bool.Decides.{Decides-int_eq}
use Rattle.kfs_model.specs.Header.{Kind, File, Directory, Header}
use Rattle.kfs_model.specs.Access.{Client}
use Rattle.kfs_model.specs.Entry.{Entry, Create, Link, Unlink, Rename}
use Rattle.kfs_model.specs.Sight.{Sight, sight, is_directory, kind_shown, climb_limit, climb_meets}
use Rattle.kfs_model.specs.Limits.{link_limit}
use Rattle.kfs_model.specs.Check.{EntryContext, fault, checks_of, first_fault, may_go, on_number, arrival_checks, move_checks, rename_checks}
use Rattle.kfs_model.specs.Tree.{Tree}
use Rattle.kfs_model.specs.CleanStep.{IsClean}
use Rattle.kfs_model.proofs.CleanIsAllowed.{AllPass, all_pass, passed, found, left, right}

pub none_is : {X : Type 0} (o : Option X) → IsTrue (is_none o) → o ≡ None
none_is None e = refl
none_is (Some x) e = cc

pub some_is : {X : Type 0} (o : Option X) → IsTrue (is_some o) → (x : X) × (o ≡ Some x)
some_is None e = cc
some_is (Some x) e = (x, refl)

-- ---- where the tree is what shows now

module _ {B : Type 0} (context : EntryContext) (t : Tree B) where
  abbrev pub at_tree : EntryContext
  at_tree = record context { now = sight t }

  pub clean_at : {entry : Entry} → IsClean context t entry → first_fault at_tree entry ≡ None
  clean_at {entry} h = subst (λ now. first_fault (record context { now = now }) entry ≡ None) h.shown h.clean

-- ---- what the checks of a Create say

pub record CreateFacts (client : Client) (s : Sight) (d : ℕ) (m : List ℕ) (n : ℕ) : Type 0 where
  pub directory : IsTrue (is_directory (s.head d))
  pub free_name : s.name d m ≡ None
  pub least : client.first ≤ n
  pub greatest : n ≤ client.last
  pub free_number : s.head n ≡ None

pub create_facts : (p : EntryContext) (d : ℕ) (m : List ℕ) (n : ℕ) (kind : Kind) (mode : ℕ) → first_fault p (Create d m n kind mode) ≡ None → CreateFacts p.client p.now d m n
unfolding checks_of fault
create_facts p d m n kind mode clean =
    let pass = all_pass p _ clean in
    let granted = passed _ _ pass.1.1.1.1.1.1.0 in
    record {
      directory = passed _ _ pass.1.0;
      free_name = none_is _ (passed _ _ pass.1.1.1.1.1.0);
      least = leb-true _ _ (left _ _ granted);
      greatest = leb-true _ _ (right _ _ granted);
      free_number = none_is _ (right _ _ (left _ _ (passed _ _ pass.1.1.1.1.1.1.1.0)));
    }

-- ---- what the checks of a Link say

pub record LinkFacts (s : Sight) (n d : ℕ) (m : List ℕ) : Type 0 where
  pub there : IsTrue (is_some (s.head n))
  pub file : is_directory (s.head n) ≡ false
  pub directory : IsTrue (is_directory (s.head d))
  pub free : s.name d m ≡ None
  pub room : (h : Header) → s.head n ≡ Some h → h.links < 1024

pub link_facts : (p : EntryContext) (n d : ℕ) (m : List ℕ) → first_fault p (Link n d m) ≡ None → LinkFacts p.now n d m
unfolding checks_of fault
link_facts p n d m clean =
    let pass = all_pass p _ clean in
    let after_file = pass.1.1 in
    let (h, shown, few) = found (p.now.head n) (λ h. ltb h.links link_limit) (passed _ _ after_file.1.1.1.1.1.1.1.0) in
    record {
      there = passed _ _ pass.0;
      file = not-true _ (passed _ _ pass.1.0);
      directory = passed _ _ after_file.1.0;
      free = none_is _ (passed _ _ after_file.1.1.1.1.1.1.0);
      room = λ g is. let same : h ≡ g = cc in subst (λ (h : Header). h.links < 1024) same (ltb-true h.links link_limit few);
    }

-- ---- what the checks of an Unlink say, and of what a Rename replaces

-- what is to go has no names where it is a directory
pub goes_empty : (p : EntryContext) (kind : Kind) (d t : ℕ) → AllPass p (may_go kind d t) → IsTrue (is_directory (p.now.head t)) → p.now.count t ≡ pos 0
unfolding fault
goes_empty p File d t pass directory = let file = not-true _ (passed _ _ pass.0) in absurd (false≢true (sym file ∙ directory))
goes_empty p Directory d t pass directory = (Decides-int_eq (p.now.count t) (pos 0)).0 (passed _ _ pass.1.1.1.0)

pub record UnlinkFacts (s : Sight) (d : ℕ) (m : List ℕ) : Type 0 where
  pub number : ℕ
  pub there : s.name d m ≡ Some number
  pub empty : IsTrue (is_directory (s.head number)) → s.count number ≡ pos 0

pub unlink_facts : (p : EntryContext) (d : ℕ) (m : List ℕ) (kind : Kind) → first_fault p (Unlink d m kind) ≡ None → UnlinkFacts p.now d m
unfolding checks_of fault
unlink_facts p d m kind clean =
    let pass = all_pass p _ clean in
    at (p.now.name d m) refl (passed _ _ pass.1.1.1.1.1.0) pass.1.1.1.1.1.1
  where
    at : (o : Option ℕ) → p.now.name d m ≡ o → IsTrue (is_some o) → AllPass p (on_number o (may_go kind d)) → UnlinkFacts p.now d m
    at None is some pass = cc
    at (Some t) is some pass = record { number = t; there = is; empty = goes_empty p kind d t pass }

-- ---- what the checks of a Rename say

-- of the node moved, and of what the new name leads to
pub data RenameCase (s : Sight) (d : ℕ) (m : List ℕ) (e : ℕ) (k : List ℕ) (n : ℕ) : Type 0 where
  Same : (t : ℕ) → s.name e k ≡ Some t → t ≡ n → RenameCase s d m e k n
  ToNone : s.name e k ≡ None → (IsTrue (is_directory (s.head n)) → climb_meets s.parent climb_limit n e ≡ false) → RenameCase s d m e k n
  Over : (t : ℕ) → s.name e k ≡ Some t → t ≢ n → (IsTrue (is_directory (s.head n)) → climb_meets s.parent climb_limit n e ≡ false) → (IsTrue (is_directory (s.head t)) → s.count t ≡ pos 0) → RenameCase s d m e k n

pub record RenameFacts (s : Sight) (d : ℕ) (m : List ℕ) (e : ℕ) (k : List ℕ) : Type 0 where
  pub to : IsTrue (is_directory (s.head e))
  pub number : ℕ
  pub there : s.name d m ≡ Some number
  pub way : RenameCase s d m e k number

is_kind : (o : Option Header) → IsTrue (is_directory o) → kind_shown o ≡ Directory
is_kind None directory = cc
is_kind (Some h) directory = at h.kind directory
  where
    at : (kind : Kind) → IsTrue (is_directory (Some (record h { kind = kind }))) → kind ≡ Directory
    at File directory = cc
    at Directory directory = refl

-- a directory is kept apart, and what is there may go
arrives : (p : EntryContext) (kind : Kind) (n e : ℕ) (there : Option ℕ) → AllPass p (arrival_checks kind n e there) → (kind ≡ Directory → climb_meets p.now.parent climb_limit n e ≡ false) × AllPass p (on_number there (may_go kind e))
unfolding fault
arrives p File n e there pass = (λ is. cc, pass)
arrives p Directory n e there pass = (λ is. not-true _ (passed _ _ pass.0), pass.1)

pub rename_facts : (p : EntryContext) (d : ℕ) (m : List ℕ) (e : ℕ) (k : List ℕ) → first_fault p (Rename d m e k) ≡ None → RenameFacts p.now d m e k
unfolding checks_of fault
rename_facts p d m e k clean =
    let pass = all_pass p _ clean in
    let to = pass.1.1.1.0 in
    at (p.now.name d m) (p.now.name e k) refl refl (passed _ _ pass.1.1.1.1.1.1.0) (passed _ _ to) pass.1.1.1.1.1.1.1.1
  where
    arrived : (n : ℕ) (there : Option ℕ) → AllPass p (move_checks p d e n there) → (IsTrue (is_directory (p.now.head n)) → climb_meets p.now.parent climb_limit n e ≡ false) × AllPass p (on_number there (may_go (kind_shown (p.now.head n)) e))
    arrived n there pass =
        let facts = arrives p (kind_shown (p.now.head n)) n e there pass.1.1.1.1.1.1.1 in
        (λ directory. facts.0 (is_kind (p.now.head n) directory), facts.1)

    at : (o there : Option ℕ) → p.now.name d m ≡ o → p.now.name e k ≡ there → IsTrue (is_some o) → IsTrue (is_directory (p.now.head e)) → AllPass p (rename_checks p d e o there) → RenameFacts p.now d m e k
    at None there is also some to pass = cc
    at (Some n) None is also some to pass = record { to = to; number = n; there = is; way = ToNone also (arrived n None pass).0 }
    at (Some n) (Some t) is also some to pass = record { to = to; number = n; there = is; way = by_test (t == n) refl pass }
      where
        by_test : (b : Bool) → (t == n) ≡ b → AllPass p (if b then [] else move_checks p d e n (Some t)) → RenameCase p.now d m e k n
        by_test true same pass = Same t also (eqb-true t n same)
        by_test false other pass =
            let facts = arrived n (Some t) pass in
            Over t also (eqb-false t n other) facts.0 (goes_empty p (kind_shown (p.now.head n)) e t facts.1)
