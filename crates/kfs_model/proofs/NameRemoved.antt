-- What a name that led to a node changes when it is taken away.
use Rattle.std.proofs.Common.{◌≡◌, ◌≢◌, ℕ, ◌+◌, Bool, true, false, cond, ◌==◌, pos, negsuc, ◌+ℤ◌, List, Some, None, refl, sym, ap, ◌∙◌, arith, eqb-true, eq-eqb, add-zero}
use Rattle.std.proofs.lemmas.Int.{ints}
use Rattle.kfs_model.specs.Table.{get, remove}
use Rattle.kfs_model.specs.Tree.{NameTable, target, name_count, entry_count}
use Rattle.kfs_model.specs.FirstWrong.{same_place}
use Rattle.kfs_model.specs.SeenAfter.{shifted}
use Rattle.kfs_model.proofs.Exact.{places-exact}
use Rattle.kfs_model.proofs.NameTable.{target-remove, name_count-remove, entry_count-remove}
use Rattle.kfs_model.proofs.NameAdded.{turned_test}

one_less : (c : ℕ) → pos c ≡ pos (c + 1) +ℤ negsuc 0
one_less c = omega (arith, ints)

module _ (names : NameTable) (d : ℕ) (m : List ℕ) (n : ℕ) (there : target names d m ≡ Some n) where
  abbrev after : NameTable
  after = remove names (d, m)

  pub gone : target after d m ≡ None
  gone = target-remove names d m d m ∙ ap (λ b. cond b None (target names d m)) ((places-exact.decides (d, m) (d, m)).1 refl)

  -- what is there was there
  pub was_target : (e : ℕ) (k : List ℕ) (number : ℕ) → target after e k ≡ Some number → target names e k ≡ Some number
  was_target e k number is = at (same_place (e, k) (d, m)) (sym (target-remove names d m e k) ∙ is)
    where
      at : (b : Bool) → cond b None (target names e k) ≡ Some number → target names e k ≡ Some number
      at true is = cc
      at false is = is

  -- a name of another node is still there
  pub kept_target : (e : ℕ) (k : List ℕ) (number : ℕ) → number ≢ n → target names e k ≡ Some number → target after e k ≡ Some number
  kept_target e k number other is = target-remove names d m e k ∙ at (same_place (e, k) (d, m)) refl
    where
      at : (b : Bool) → same_place (e, k) (d, m) ≡ b → cond b None (target names e k) ≡ Some number
      at true same =
          let key = (places-exact.decides (e, k) (d, m)).0 same in
          let found : target names e k ≡ Some n = ap (λ key. get names key) key ∙ there in
          let same_number : number ≡ n = cc in
          absurd (other same_number)
      at false apart = is

  pub others_count : (k : ℕ) → (k == n) ≡ false → name_count after k ≡ name_count names k
  others_count k other = sym (ap (λ c. name_count after k + c) (turned_test k n other) ∙ add-zero (name_count after k)) ∙ name_count-remove names d m n k there

  pub own_count : name_count after n + 1 ≡ name_count names n
  own_count = ap (λ b. name_count after n + cond b 1 0) (sym (eq-eqb n n refl)) ∙ name_count-remove names d m n n there

  pub count_shifted : (e : ℕ) → pos (entry_count after e) ≡ shifted d (negsuc 0) (λ d. pos (entry_count names d)) e
  count_shifted e = at (e == d) refl (entry_count-remove names d m n e there)
    where
      at : (b : Bool) → (e == d) ≡ b → entry_count after e + cond (d == e) 1 0 ≡ entry_count names e → pos (entry_count after e) ≡ cond b (pos (entry_count names e) +ℤ negsuc 0) (pos (entry_count names e))
      at true same less = one_less (entry_count after e) ∙ ap (λ c. pos c +ℤ negsuc 0) (ap (λ b. entry_count after e + cond b 1 0) (sym (eq-eqb d e (sym (eqb-true e d same)))) ∙ less)
      at false other less = ap pos (sym (ap (λ c. entry_count after e + c) (turned_test e d other) ∙ add-zero (entry_count after e)) ∙ less)
