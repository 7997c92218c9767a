-- A table after entries were put into it, one after the other.
use Rattle.std.proofs.Common.{◌≡◌, ◌≢◌, ℕ, zero, suc, ◌<◌, Bool, true, false, cond, List, [], ◌∷◌, length, get_or, Some, refl, sym, ap, ◌∙◌, arith}
use Rattle.std.specs.declared.cmp.Ordering.{Ordering}
use Rattle.std.specs.declared.cmp.Ordering.TheVariants.{Less, Equal, Greater}
use Rattle.std.specs.Ordering.{is_eq, eq_by_cmp}
use Rattle.std.specs.Cmp.{tied_itself}
use Rattle.std.proofs.lemmas.Bool.{false_from_ne_true}
use Rattle.kfs_model.specs.Table.{Order, Table, get, insert}
use Rattle.kfs_model.proofs.TableLaws.{same_table, get-insert}

-- ---- keys

module _ {K : Type 0} (R : Order K) where
  tie_is : (q k : K) → eq_by_cmp R.compare q k ≡ true → q ≡ k
  tie_is q k is = at (R.compare q k) refl is
    where
      at : (o : Ordering) → R.compare q k ≡ o → is_eq o ≡ true → q ≡ k
      at Less tie is = cc
      at Equal tie is = R.exact q k tie
      at Greater tie is = cc

  tie_none : (q k : K) → q ≢ k → eq_by_cmp R.compare q k ≡ false
  tie_none q k differs = false_from_ne_true _ (λ tie. differs (tie_is q k tie))

  tie_itself : (k : K) → eq_by_cmp R.compare k k ≡ true
  tie_itself k = ap is_eq (tied_itself R.total k)

-- ---- two entries

-- two entries of other keys, put in either order
insert_turned : {K X : Type 0} {R : Order K} (t : Table R X) (k other : K) (v value : X) → k ≢ other → insert (insert t k v) other value ≡ insert (insert t other value) k v
insert_turned {K} {X} {R} t k other v value differs =
    same_table _ _ (λ q.
    get-insert (insert t k v) other value q
    ∙ ap (cond (eq_by_cmp R.compare q other) (Some value)) (get-insert t k v q)
    ∙ by q (eq_by_cmp R.compare q k) (eq_by_cmp R.compare q other) refl refl
    ∙ sym (get-insert (insert t other value) k v q ∙ ap (cond (eq_by_cmp R.compare q k) (Some v)) (get-insert t other value q)))
  where
    by : (q : K) (a b : Bool) → eq_by_cmp R.compare q k ≡ a → eq_by_cmp R.compare q other ≡ b → cond b (Some value) (cond a (Some v) (get t q)) ≡ cond a (Some v) (cond b (Some value) (get t q))
    by q true true here there = absurd (differs (sym (tie_is R q k here) ∙ tie_is R q other there))
    by q true false here there = refl
    by q false true here there = refl
    by q false false here there = refl

-- ---- all entries

module _ {K X Z : Type 0} (R : Order K) (keyed : Z → K × X) where
  -- the table with each entry at its key, one after the other
  unfoldable pub inserted : List Z → Table R X → Table R X
  inserted [] t = t
  inserted (z ∷ zs) t = inserted zs (insert t (keyed z).0 (keyed z).1)

  -- the key is none of theirs
  abbrev pub IsNoKey : List Z → K → Type 0
  IsNoKey zs key = (i : ℕ) (d : Z) → i < length zs → key ≢ (keyed (get_or zs i d)).0

  -- no two of them have one key
  abbrev pub HaveOwnKeys : List Z → Type 0
  HaveOwnKeys zs = (i j : ℕ) (d : Z) → i < j → j < length zs → (keyed (get_or zs i d)).0 ≢ (keyed (get_or zs j d)).0

  pub own_rest : (z : Z) (zs : List Z) → HaveOwnKeys (z ∷ zs) → HaveOwnKeys zs
  own_rest z zs own i j d less below = own (suc i) (suc j) d (omega (arith, less)) (omega (arith, below))

  pub own_first : (z : Z) (zs : List Z) → HaveOwnKeys (z ∷ zs) → IsNoKey zs (keyed z).0
  own_first z zs own i d below = own 0 (suc i) d (omega arith) (omega (arith, below))

  -- at another key stands what stood there
  pub get-inserted_elsewhere : (zs : List Z) (t : Table R X) (key : K) → IsNoKey zs key → get (inserted zs t) key ≡ get t key
  unfolding inserted
  get-inserted_elsewhere [] t key none = refl
  get-inserted_elsewhere (z ∷ zs) t key none =
      get-inserted_elsewhere zs (insert t (keyed z).0 (keyed z).1) key (λ i d below. none (suc i) d (omega (arith, below)))
      ∙ get-insert t (keyed z).0 (keyed z).1 key
      ∙ ap (λ b. cond b (Some (keyed z).1) (get t key)) (tie_none R key (keyed z).0 (none 0 z (omega arith)))

  -- and at each entry's own key its value
  pub get-inserted : (zs : List Z) (t : Table R X) → HaveOwnKeys zs → (k : ℕ) (d : Z) → k < length zs → get (inserted zs t) (keyed (get_or zs k d)).0 ≡ Some (keyed (get_or zs k d)).1
  unfolding inserted
  get-inserted [] t own k d below = absurd (omega (arith, below))
  get-inserted (z ∷ zs) t own zero d below =
      get-inserted_elsewhere zs (insert t (keyed z).0 (keyed z).1) (keyed z).0 (own_first z zs own)
      ∙ get-insert t (keyed z).0 (keyed z).1 (keyed z).0
      ∙ ap (λ b. cond b (Some (keyed z).1) (get t (keyed z).0)) (tie_itself R (keyed z).0)
  get-inserted (z ∷ zs) t own (suc k) d below = get-inserted zs (insert t (keyed z).0 (keyed z).1) (own_rest z zs own) k d (omega (arith, below))

  -- an entry of another key can be put last as well
  pub inserted_last : (zs : List Z) (t : Table R X) (key : K) (value : X) → IsNoKey zs key → inserted zs (insert t key value) ≡ insert (inserted zs t) key value
  unfolding inserted
  inserted_last [] t key value none = refl
  inserted_last (z ∷ zs) t key value none =
      ap (inserted zs) (insert_turned t key (keyed z).0 value (keyed z).1 (none 0 z (omega arith)))
      ∙ inserted_last zs (insert t (keyed z).0 (keyed z).1) key value (λ i d below. none (suc i) d (omega (arith, below)))
