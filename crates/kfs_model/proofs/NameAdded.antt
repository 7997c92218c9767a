-- What a name that led to nothing changes when it comes to lead to a node.
use Rattle.std.proofs.Common.{◌≡◌, ℕ, ◌+◌, Bool, true, false, cond, ◌==◌, pos, ◌+ℤ◌, List, Some, None, refl, sym, ap, ◌∙◌, eqb-true, eq-eqb, ne_eqb, add-zero}
use Rattle.std.proofs.lemmas.Bool.{eqb-false}
use Rattle.kfs_model.specs.Table.{get, insert}
use Rattle.kfs_model.specs.Tree.{NameTable, target, name_count, entry_count}
use Rattle.kfs_model.specs.FirstWrong.{same_place}
use Rattle.kfs_model.specs.SeenAfter.{shifted}
use Rattle.kfs_model.proofs.Exact.{places-exact}
use Rattle.kfs_model.proofs.NameTable.{target-insert, name_count-insert, entry_count-insert}

pub turned_test : (a b : ℕ) → (a == b) ≡ false → ◌≡◌ {A = ℕ} (cond (b == a) 1 0) 0
turned_test a b e = ap {B = ℕ} (λ t. cond t 1 0) (ne_eqb b a (λ same. eqb-false a b e (sym same)))

module _ (names : NameTable) (d : ℕ) (m : List ℕ) (n : ℕ) (free : target names d m ≡ None) where
  abbrev after : NameTable
  after = insert names (d, m) n

  pub new_target : target after d m ≡ Some n
  new_target = target-insert names d m n d m ∙ ap (λ b. cond b (Some n) (target names d m)) ((places-exact.decides (d, m) (d, m)).1 refl)

  -- the names that were there lead where they led
  pub kept_target : (e : ℕ) (k : List ℕ) (number : ℕ) → target names e k ≡ Some number → target after e k ≡ Some number
  kept_target e k number there = target-insert names d m n e k ∙ at (same_place (e, k) (d, m)) refl
    where
      at : (b : Bool) → same_place (e, k) (d, m) ≡ b → cond b (Some n) (target names e k) ≡ Some number
      at true same =
          let key = (places-exact.decides (e, k) (d, m)).0 same in
          let none : target names e k ≡ None = ap (λ key. get names key) key ∙ free in
          cc
      at false other = there

  -- the new name, or one that was there
  pub new_or_old : {P : Type 0} (e : ℕ) (k : List ℕ) (number : ℕ) → target after e k ≡ Some number → (d ≡ e → m ≡ k → n ≡ number → P) → (target names e k ≡ Some number → P) → P
  new_or_old {P} e k number there new old = at (same_place (e, k) (d, m)) refl (sym (target-insert names d m n e k) ∙ there)
    where
      at : (b : Bool) → same_place (e, k) (d, m) ≡ b → cond b (Some n) (target names e k) ≡ Some number → P
      at true same is = let key = (places-exact.decides (e, k) (d, m)).0 same in new (ap (λ key. key.0) (sym key)) (ap (λ key. key.1) (sym key)) cc
      at false other is = old is

  pub others_count : (k : ℕ) → (k == n) ≡ false → name_count after k ≡ name_count names k
  others_count k other = name_count-insert names d m n k free ∙ ap (λ c. name_count names k + c) (turned_test k n other) ∙ add-zero (name_count names k)

  pub own_count : name_count after n ≡ name_count names n + 1
  own_count = name_count-insert names d m n n free ∙ ap (λ b. name_count names n + cond b 1 0) (eq-eqb n n refl)

  pub count_shifted : (e : ℕ) → pos (entry_count after e) ≡ shifted d (pos 1) (λ d. pos (entry_count names d)) e
  count_shifted e = ap pos (entry_count-insert names d m n e free) ∙ at (e == d) refl
    where
      at : (b : Bool) → (e == d) ≡ b → pos (entry_count names e + cond (d == e) 1 0) ≡ cond b (pos (entry_count names e) +ℤ pos 1) (pos (entry_count names e))
      at true same = ap (λ b. pos (entry_count names e + cond b 1 0)) (eq-eqb d e (sym (eqb-true e d same)))
      at false other = ap (λ c. pos (entry_count names e + c)) (turned_test e d other) ∙ ap pos (add-zero (entry_count names e))
