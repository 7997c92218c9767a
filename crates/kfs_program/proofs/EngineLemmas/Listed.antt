-- The names of a directory that come after a name, one after another.
use Rattle.std.proofs.Common.{◌≡◌, ◌≢◌, ◌==◌, ◌&&◌, ◌++◌, ℕ, Bool, true, false, cond, T, List, [], ◌∷◌, Option, Some, None, refl, sym, ap, subst, ◌∙◌, append_assoc, append-nil, Bor}
use Rattle.std.specs.declared.cmp.Ordering.{Ordering}
use Rattle.std.specs.declared.cmp.Ordering.TheVariants.{Less, Equal, Greater}
use Rattle.std.specs.Ordering.{nat_cmp, is_eq, is_lt, ordering_reverse}
use Rattle.std.specs.Cmp.Lexicographic.{slice_cmp}
use Rattle.std.specs.FinMap.Entries.{find, where_key, below_all, is_sorted, is_sorted-where_key, find-where_key, same_entries}
use borrow.Author.Tests.{eqb-true, eq-eqb}
use Rattle.kfs_model.specs.Table.{byte_order, get}
use Rattle.kfs_model.specs.Tree.{NameTable, name_order, target}
use Rattle.kfs_image_nodes.specs.Look.{IsAfter, IsNext}
use Rattle.kfs_image_nodes.proofs.NameOrder.{in_directory}
use Rattle.kfs_program.specs.Engine.Listing.{name_text, names_text}

-- ---- after a name

abbrev pub is_after : Option (Bor (List ℕ)) → List ℕ → Bool
is_after None name = true
is_after (Some before) name = is_lt (slice_cmp nat_cmp before.now name)

-- in the directory, and after the name
abbrev pub is_left : (directory : ℕ) → Option (Bor (List ℕ)) → ℕ × List ℕ → Bool
is_left directory after key = is_after after key.1 && (key.0 == directory)

-- the names of the directory after this one, in their order
abbrev pub names_after : NameTable → (directory : ℕ) → Option (Bor (List ℕ)) → List ((ℕ × List ℕ) × ℕ)
names_after names directory after = where_key name_order.compare (is_left directory after) names.entries

less : (o : Ordering) → is_lt o ≡ true → o ≡ Less
less Less e = refl
less Equal e = cc
less Greater e = cc

tested : (after : Option (Bor (List ℕ))) (name : List ℕ) → IsAfter after name → is_after after name ≡ true
tested None name h = refl
tested (Some before) name h = ap is_lt h

untested : (after : Option (Bor (List ℕ))) (name : List ℕ) → is_after after name ≡ true → IsAfter after name
untested None name h = tt
untested (Some before) name h = less _ h

further : (after : Option (Bor (List ℕ))) (a b : List ℕ) → IsAfter after a → slice_cmp nat_cmp a b ≡ Less → IsAfter after b
further None a b h e = tt
further (Some before) a b h e = byte_order.total.trans before.now a b h e

turned : (a b : List ℕ) (o : Ordering) → slice_cmp nat_cmp a b ≡ o → slice_cmp nat_cmp b a ≡ ordering_reverse o
turned a b o e = byte_order.total.antisymm b a ∙ ap ordering_reverse e

-- ---- tables

both : (a b : Bool) → T a → T b → T (a && b)
both true b p q = q
both false b p q = absurd p

module _ {K X : Type 0} (R : K → K → Ordering) where
  below_where : (k : K) (p : K → Bool) → ((j : K) → p j ≡ true → R k j ≡ Less) → (es : List (K × X)) → T (below_all R k (where_key R p es))
  below_where k p later [] = tt
  below_where k p later (e ∷ es) =
      elim (p e.0) as (λ b. p e.0 ≡ b → T (below_all R k (cond b (e ∷ where_key R p es) (where_key R p es)))) [
        | true ↦ λ h. both _ _ (subst (λ o. T (is_lt o)) (sym (later e.0 h)) tt) (below_where k p later es)
        | false ↦ λ h. below_where k p later es
      ] refl

-- tests that agree where something stands
picked : (p q : Bool) (found : Option ℕ) → ((n : ℕ) → found ≡ Some n → p ≡ q) → cond p found None ≡ cond q found None
picked true true None alike = refl
picked true false None alike = refl
picked false true None alike = refl
picked false false None alike = refl
picked p q (Some n) alike = ap (λ b. cond b (Some n) None) (alike n refl)

and_false : (a b : Bool) → (a && false) ≡ (b && false)
and_false true true = refl
and_false true false = refl
and_false false true = refl
and_false false false = refl

-- ---- the next name

and_both : (a b : Bool) → (a && b) ≡ true → (a ≡ true) × (b ≡ true)
and_both true b e = (refl, e)
and_both false b e = cc

looked_at : (p : ℕ × List ℕ → Bool) (key : ℕ × List ℕ) (names : NameTable) → find name_order.compare key (where_key name_order.compare p names.entries) ≡ cond (p key) (get names key) None
unfolding get
looked_at p key names = find-where_key name_order.compare p key (λ x e. ap p (sym (name_order.exact key x e))) names.entries

module _ (names : NameTable) (directory : ℕ) (after : Option (Bor (List ℕ))) where
  in_order : T (is_sorted name_order.compare (names_after names directory after))
  in_order = is_sorted-where_key name_order.compare (is_left directory after) names.entries names.sorted

  pub none_after : ((m : List ℕ) (n : ℕ) → target names directory m ≡ Some n → IsAfter after m → ⊥) → names_after names directory after ≡ []
  none_after none = same_entries name_order.compare name_order.total name_order.exact _ _ in_order tt (λ q. looked_at (is_left directory after) q names ∙ picked _ false _ (left_out q.0 q.1))
    where
      left_out : (k : ℕ) (m : List ℕ) (n : ℕ) → target names k m ≡ Some n → is_left directory after (k, m) ≡ false
      left_out k m n leads =
          elim (is_left directory after (k, m)) as (λ b. is_left directory after (k, m) ≡ b → b ≡ false) [
            | true ↦ λ h.
                let parts = and_both _ _ h in
                absurd (none m n (subst (λ j. target names j m ≡ Some n) (eqb-true k directory parts.1) leads) (untested after m parts.0))
            | false ↦ λ h. refl
          ] refl

-- ---- the next name

module _ (names : NameTable) (directory : ℕ) (after : Option (Bor (List ℕ))) (name : Bor (List ℕ)) (number : ℕ) (next : IsNext names directory after name.now number) where
  alike : (m : List ℕ) (n : ℕ) → target names directory m ≡ Some n → (o : Ordering) → slice_cmp nat_cmp m name.now ≡ o → (o ≢ Equal) → is_after after m ≡ is_after (Some name) m
  alike m n leads Less e apart =
      elim (is_after after m) as (λ b. is_after after m ≡ b → b ≡ false) [
        | true ↦ λ h. sym (ap is_lt e) ∙ next.least m n leads (untested after m h)
        | false ↦ λ h. refl
      ] refl
      ∙ sym (ap is_lt (turned m name.now Less e))
  alike m n leads Equal e apart = absurd (apart refl)
  alike m n leads Greater e apart =
      let later = turned m name.now Greater e in
      tested after m (further after name.now m next.later later) ∙ sym (ap is_lt later)

  left_alike : (k : ℕ) (m : List ℕ) (n : ℕ) → target names k m ≡ Some n → (name_order.compare (k, m) (directory, name.now) ≢ Equal) → is_left directory after (k, m) ≡ is_left directory (Some name) (k, m)
  left_alike k m n leads apart =
      elim (k == directory) as (λ b. (k == directory) ≡ b → (is_after after m && b) ≡ (is_after (Some name) m && b)) [
        | true ↦ λ h.
            let here = eqb-true k directory h in
            ap (λ b. b && true) (alike m n (subst (λ j. target names j m ≡ Some n) here leads) (slice_cmp nat_cmp m name.now) refl (λ e. apart (subst (λ j. name_order.compare (j, m) (directory, name.now) ≡ Equal) (sym here) (in_directory directory m name.now ∙ e))))
        | false ↦ λ h. and_false (is_after after m) (is_after (Some name) m)
      ] refl

  elsewhere : (k : ℕ) (m : List ℕ) → (name_order.compare (k, m) (directory, name.now) ≢ Equal) → find name_order.compare (k, m) (names_after names directory after) ≡ find name_order.compare (k, m) (names_after names directory (Some name))
  elsewhere k m apart =
      looked_at (is_left directory after) (k, m) names
      ∙ picked _ _ _ (λ n leads. left_alike k m n leads apart)
      ∙ sym (looked_at (is_left directory (Some name)) (k, m) names)

  at_name : find name_order.compare (directory, name.now) (names_after names directory after) ≡ Some number
  at_name =
      looked_at (is_left directory after) (directory, name.now) names
      ∙ ap (λ b. cond (b && (directory == directory)) (target names directory name.now) None) (tested after name.now next.later)
      ∙ ap (λ b. cond b (target names directory name.now) None) (eq-eqb directory directory refl)
      ∙ next.leads

  at_key : (k : ℕ) (m : List ℕ) → find name_order.compare (k, m) (names_after names directory after) ≡ find name_order.compare (k, m) (((directory, name.now), number) ∷ names_after names directory (Some name))
  at_key k m =
      elim (name_order.compare (k, m) (directory, name.now)) as (λ o. name_order.compare (k, m) (directory, name.now) ≡ o → find name_order.compare (k, m) (names_after names directory after) ≡ cond (is_eq o) (Some number) (find name_order.compare (k, m) (names_after names directory (Some name)))) [
        | Less ↦ λ e. elsewhere k m (λ f. never (ap is_eq (sym e ∙ f)))
        | Equal ↦ λ e. subst (λ key. find name_order.compare key (names_after names directory after) ≡ Some number) (sym (name_order.exact (k, m) (directory, name.now) e)) at_name
        | Greater ↦ λ e. elsewhere k m (λ f. never (ap is_eq (sym e ∙ f)))
      ] refl
    where
      never : false ≡ true → ⊥
      never e = cc

  later_keys : (key : ℕ × List ℕ) → is_left directory (Some name) key ≡ true → name_order.compare (directory, name.now) key ≡ Less
  later_keys key h =
      let parts = and_both _ _ h in
      subst (λ j. name_order.compare (directory, name.now) (j, key.1) ≡ Less) (sym (eqb-true key.0 directory parts.1)) (in_directory directory name.now key.1 ∙ less _ parts.0)

  pub next_after : names_after names directory after ≡ ((directory, name.now), number) ∷ names_after names directory (Some name)
  next_after =
      same_entries name_order.compare name_order.total name_order.exact _ _ (in_order names directory after)
      (both _ _ (below_where name_order.compare (directory, name.now) (is_left directory (Some name)) later_keys names.entries) (in_order names directory (Some name)))
      (λ q. at_key q.0 q.1)

-- ---- texts

-- where one name more is written, the same text comes of it and the names that are left
pub written_next : (before after all : List ℕ) (e : (ℕ × List ℕ) × ℕ) (left rest : List ((ℕ × List ℕ) × ℕ)) → left ≡ e ∷ rest → after ≡ before ++ name_text e → before ++ names_text left ≡ all → after ++ names_text rest ≡ all
unfolding names_text
written_next before after all e left rest next written whole =
    ap (λ text. text ++ names_text rest) written
    ∙ append_assoc before (name_text e) (names_text rest)
    ∙ sym (ap (λ es. before ++ names_text es) next)
    ∙ whole

pub written_all : (text all : List ℕ) (left : List ((ℕ × List ℕ) × ℕ)) → left ≡ [] → text ++ names_text left ≡ all → text ≡ all
unfolding names_text
written_all text all left none whole = sym (append-nil text) ∙ sym (ap (λ es. text ++ names_text es) none) ∙ whole
