-- Both indexes stay those of the rows.
use Rattle.std.proofs.Common.{◌≡◌, ℕ, ◌<◌, Bool, true, false, cond, ◌&&◌, ◌==◌, Option, Some, None, refl, sym, ap, subst, ◌∙◌, eq-eqb, arith}
use Rattle.std.specs.Prelude.{is_some}
use Rattle.std.specs.Ordering.{nat_cmp, eq_by_cmp}
use Rattle.std.specs.Cmp.{eq_by_cmp_equiv, unsigned_ties}
use Rattle.std.proofs.lemmas.Bool.{both_ways}
use borrow.Author.Tests.{eqb-true}
use Rattle.kfs_model.specs.Table.{Order, Table, get, changed}
use Rattle.kfs_model.proofs.TableLaws.{get-changed, same_table}
use Rattle.kfs_lease.specs.declared.rows.rows.Lease.{Lease}
use Rattle.kfs_lease.specs.Rows.Rows.{by_node, by_end, row_end, ends_at, AreEndsOf, AreKeysOf, RowTable, EndTable, ClientTable}
use Rattle.kfs_lease.proofs.RowsLemmas.RowTables.{both_equal, tied, turned_ties}

-- two ends are one where they are one moment of one row
end_ties : (end end' : ℕ) (key key' : ℕ × ℕ) → eq_by_cmp by_end.compare (row_end end key) (row_end end' key') ≡ ((end == end') && eq_by_cmp by_node.compare key key')
end_ties end end' key key' = both_equal (nat_cmp end end') (by_node.compare key key') ∙ ap (λ b. b && eq_by_cmp by_node.compare key key') (sym (unsigned_ties end end'))

-- one test of equality, either way round
turned : (a b : ℕ) → (a == b) ≡ (b == a)
turned a b = at (a == b) (b == a) refl refl
  where
    at : (x y : Bool) → (a == b) ≡ x → (b == a) ≡ y → x ≡ y
    at true true p q = refl
    at true false p q = absurd (both_ways (b == a) q (eq-eqb b a (sym (eqb-true a b p))))
    at false true p q = absurd (both_ways (a == b) p (eq-eqb a b (sym (eqb-true b a q))))
    at false false p q = refl

-- of two values set at one key the later one counts
set_twice : {K X : Type 0} {R : Order K} (t : Table R X) (k : K) (v w : Option X) → changed (changed t k v) k w ≡ changed t k w
set_twice {X = X} {R = R} t k v w =
    same_table _ _ (λ q.
    get-changed (changed t k v) k w q
    ∙ ap (cond (eq_by_cmp R.compare q k) w) (get-changed t k v q)
    ∙ at (eq_by_cmp R.compare q k) (get t q)
    ∙ sym (get-changed t k w q))
  where
    at : (b : Bool) (o : Option X) → cond b w (cond b v o) ≡ cond b w o
    at true o = refl
    at false o = refl

-- values at two keys may be set in either order
set_apart : {K X : Type 0} {R : Order K} (t : Table R X) (j k : K) (v w : Option X) → eq_by_cmp R.compare j k ≡ false → changed (changed t j v) k w ≡ changed (changed t k w) j v
set_apart {K = K} {X = X} {R = R} t j k v w other =
    same_table _ _ (λ q.
    get-changed (changed t j v) k w q
    ∙ ap (cond (eq_by_cmp R.compare q k) w) (get-changed t j v q)
    ∙ at q (eq_by_cmp R.compare q j) (eq_by_cmp R.compare q k) refl refl
    ∙ sym (ap (cond (eq_by_cmp R.compare q j) v) (get-changed t k w q))
    ∙ sym (get-changed (changed t k w) j v q))
  where
    at : (q : K) (a b : Bool) → eq_by_cmp R.compare q j ≡ a → eq_by_cmp R.compare q k ≡ b → cond b w (cond a v (get t q)) ≡ cond a v (cond b w (get t q))
    at q true true is also = absurd (both_ways _ other (ap (λ (p : K). eq_by_cmp R.compare p k) (sym (tied R q j is)) ∙ also))
    at q true false is also = refl
    at q false b is also = refl

module _ (rows : RowTable) (ends : EndTable) (exact : AreEndsOf rows ends) (key : ℕ × ℕ) where
  -- a row with its end
  exact_set : (row : Option Lease) (new : EndTable) → ((end : ℕ) (q : ℕ × ℕ) → is_some (get new (row_end end q)) ≡ cond (eq_by_cmp by_node.compare q key) (ends_at row end) (is_some (get ends (row_end end q)))) → AreEndsOf (changed rows key row) new
  exact_set row new has end q =
      has end q ∙ at (eq_by_cmp by_node.compare q key) ∙ sym (ap (λ o. ends_at o end) (get-changed rows key row q))
    where
      at : (b : Bool) → cond b (ends_at row end) (is_some (get ends (row_end end q))) ≡ ends_at (cond b row (get rows q)) end
      at true = refl
      at false = exact end q

  -- no end is listed that the row hasn't
  not_listed : (end : ℕ) → ends_at (get rows key) end ≡ false → (q : ℕ × ℕ) → q ≡ key → is_some (get ends (row_end end q)) ≡ false
  not_listed end other q same = exact end q ∙ ap (λ k. ends_at (get rows k) end) same ∙ other

  -- a row goes with its end
  pub exact_without : (last : ℕ) → ((end : ℕ) → ends_at (get rows key) end ≡ true → last ≡ end) → AreEndsOf (changed rows key None) (changed ends (row_end last key) None)
  exact_without last only =
      exact_set None (changed ends (row_end last key) None) (λ end q.
      ap is_some (get-changed ends (row_end last key) None (row_end end q))
      ∙ ap (λ b. is_some (cond b None (get ends (row_end end q)))) (end_ties end last q key)
      ∙ at end q (end == last) (eq_by_cmp by_node.compare q key) refl refl)
    where
      others : (end : ℕ) → (end == last) ≡ false → (b : Bool) → ends_at (get rows key) end ≡ b → ends_at (get rows key) end ≡ false
      others end other true is = absurd (both_ways _ other (eq-eqb end last (sym (only end is))))
      others end other false is = is

      at : (end : ℕ) (q : ℕ × ℕ) (a b : Bool) → (end == last) ≡ a → eq_by_cmp by_node.compare q key ≡ b → is_some (cond (a && b) None (get ends (row_end end q))) ≡ cond b (ends_at None end) (is_some (get ends (row_end end q)))
      at end q true true now is = refl
      at end q true false now is = refl
      at end q false true now is = not_listed end (others end now (ends_at (get rows key) end) refl) q (tied by_node q key is)
      at end q false false now is = refl

  -- a row comes with its end
  pub exact_with : (lease : Lease) → get rows key ≡ None → AreEndsOf (changed rows key (Some lease)) (changed ends (row_end lease.end key) (Some tt))
  exact_with lease none =
      exact_set (Some lease) (changed ends (row_end lease.end key) (Some tt)) (λ end q.
      ap is_some (get-changed ends (row_end lease.end key) (Some tt) (row_end end q))
      ∙ ap (λ b. is_some (cond b (Some tt) (get ends (row_end end q)))) (end_ties end lease.end q key)
      ∙ at end q (end == lease.end) (eq_by_cmp by_node.compare q key) refl refl)
    where
      at : (end : ℕ) (q : ℕ × ℕ) (a b : Bool) → (end == lease.end) ≡ a → eq_by_cmp by_node.compare q key ≡ b
          → is_some (cond (a && b) (Some tt) (get ends (row_end end q))) ≡ cond b (lease.end == end) (is_some (get ends (row_end end q)))
      at end q true true now is = sym (turned lease.end end ∙ now)
      at end q true false now is = refl
      at end q false true now is = not_listed end (ap (λ o. ends_at o end) none) q (tied by_node q key is) ∙ sym (turned lease.end end ∙ now)
      at end q false false now is = refl

  -- a row comes in place of one with the same end
  pub exact_same : (old new : Lease) → get rows key ≡ Some old → old.end ≡ new.end → AreEndsOf (changed rows key (Some new)) ends
  exact_same old new there same = exact_set (Some new) ends (λ end q. at end q (eq_by_cmp by_node.compare q key) refl)
    where
      at : (end : ℕ) (q : ℕ × ℕ) (b : Bool) → eq_by_cmp by_node.compare q key ≡ b → is_some (get ends (row_end end q)) ≡ cond b (new.end == end) (is_some (get ends (row_end end q)))
      at end q true is = exact end q ∙ ap (λ k. ends_at (get rows k) end) (tied by_node q key is) ∙ ap (λ o. ends_at o end) there ∙ ap (λ n. n == end) same
      at end q false is = refl

-- ---- the turned keys

module _ (rows : RowTable) (clients : ClientTable) (exact : AreKeysOf rows clients) (key : ℕ × ℕ) where
  -- a row comes or goes with its turned key
  pub keys_set : (row : Option Lease) (listed : Option (Unit {0})) → is_some listed ≡ is_some row → AreKeysOf (changed rows key row) (changed clients (key.1, key.0) listed)
  keys_set row listed same q =
      ap is_some (get-changed clients (key.1, key.0) listed (q.1, q.0))
      ∙ ap (λ b. is_some (cond b listed (get clients (q.1, q.0)))) (turned_ties (q.1, q.0) key)
      ∙ at (eq_by_cmp by_node.compare q key)
      ∙ sym (ap is_some (get-changed rows key row q))
    where
      at : (b : Bool) → is_some (cond b listed (get clients (q.1, q.0))) ≡ is_some (cond b row (get rows q))
      at true = same
      at false = exact q

  -- a row comes in place of another
  pub keys_same : (old new : Lease) → get rows key ≡ Some old → AreKeysOf (changed rows key (Some new)) clients
  keys_same old new there q = exact q ∙ at (eq_by_cmp by_node.compare q key) refl ∙ sym (ap is_some (get-changed rows key (Some new) q))
    where
      at : (b : Bool) → eq_by_cmp by_node.compare q key ≡ b → is_some (get rows q) ≡ is_some (cond b (Some new) (get rows q))
      at true is = ap (λ k. is_some (get rows k)) (tied by_node q key is) ∙ ap is_some there
      at false is = refl

-- ---- the end of a row

-- the end of a row that is there
pub only_end : (row : Option Lease) (lease : Lease) → row ≡ Some lease → (end : ℕ) → ends_at row end ≡ true → lease.end ≡ end
only_end row lease there end is = eqb-true lease.end end (sym (ap (λ o. ends_at o end) there) ∙ is)

module _ (rows : RowTable) (ends : EndTable) (exact : AreEndsOf rows ends) (key : ℕ × ℕ) (old new : Lease) (there : get rows key ≡ Some old) where
  -- a row comes in place of one with another end
  pub exact_moved : AreEndsOf (changed rows key (Some new)) (changed (changed ends (row_end old.end key) None) (row_end new.end key) (Some tt))
  exact_moved =
      subst (λ (t : RowTable). AreEndsOf t (changed (changed ends (row_end old.end key) None) (row_end new.end key) (Some tt))) (set_twice rows key None (Some new))
      (exact_with (changed rows key None) (changed ends (row_end old.end key) None) (exact_without rows ends exact key old.end (only_end (get rows key) old there)) key new gone)
    where
      gone : get (changed rows key None) key ≡ None
      gone = get-changed rows key None key ∙ ap (λ b. cond b None (get rows key)) ((eq_by_cmp_equiv by_node.total).refl key)

  -- and so it does where the new end is listed first
  pub exact_moved_back : new.end < old.end → AreEndsOf (changed rows key (Some new)) (changed (changed ends (row_end new.end key) (Some tt)) (row_end old.end key) None)
  exact_moved_back earlier =
      subst (AreEndsOf (changed rows key (Some new))) (set_apart ends (row_end old.end key) (row_end new.end key) None (Some tt) other) exact_moved
    where
      other : eq_by_cmp by_end.compare (row_end old.end key) (row_end new.end key) ≡ false
      other = end_ties old.end new.end key key ∙ at (old.end == new.end) refl
        where
          at : (b : Bool) → (old.end == new.end) ≡ b → (b && eq_by_cmp by_node.compare key key) ≡ false
          at true is = let same : old.end ≡ new.end = eqb-true old.end new.end is in absurd (omega (arith, earlier, same))
          at false is = refl

-- what isn't there needn't go
pub without_absent : {K X : Type 0} {R : Order K} (t : Table R X) (k : K) → get t k ≡ None → changed t k None ≡ t
without_absent {K = K} {X = X} {R = R} t k none = same_table _ _ (λ q. get-changed t k None q ∙ at q (eq_by_cmp R.compare q k) refl)
  where
    at : (q : K) (b : Bool) → eq_by_cmp R.compare q k ≡ b → cond b None (get t q) ≡ get t q
    at q true is = sym (ap (get t) (tied R q k is) ∙ none)
    at q false other = refl
