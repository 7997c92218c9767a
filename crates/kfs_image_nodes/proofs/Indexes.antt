-- The counts beside the names after a name came to lead elsewhere.
use Rattle.std.proofs.Common.{◌≡◌, ℕ, ◌+◌, ◌<◌, Bool, true, false, cond, ◌&&◌, ◌==◌, List, Option, Some, None, refl, sym, ap, subst, ◌∙◌, eq-eqb, arith}
use Rattle.std.specs.Prelude.{unwrap_or}
use Rattle.std.specs.declared.cmp.Ordering.{Ordering}
use Rattle.std.specs.declared.cmp.Ordering.TheVariants.{Less, Equal, Greater}
use Rattle.std.specs.Ordering.{nat_cmp, is_eq, eq_by_cmp, ordering_then}
use Rattle.std.specs.Cmp.{unsigned_ties, eq_by_cmp_equiv, nat_cmp_total}
use Rattle.kfs_model.specs.Table.{Order, Table, numbers, pairs, empty, get, changed}
use Rattle.kfs_model.specs.Tree.{NameTable, name_order}
use Rattle.kfs_model.specs.Spelling.{IsName}
use Rattle.kfs_model.proofs.Counts.{counted}
use Rattle.kfs_image_nodes.specs.Indexes.{AreNames, IsCounted, ArePositive, CountsMoved, by_node, count_at, count_step, uplink_step}
use Rattle.kfs_image_nodes.proofs.Counts.{count-changed}
use Rattle.kfs_model.proofs.TableLaws.{get-changed}

pub turned : (a b : ℕ) → (a == b) ≡ eq_by_cmp nat_cmp b a
turned a b = unsigned_ties a b ∙ (eq_by_cmp_equiv nat_cmp_total).symm a b

both_equal : (a b : Ordering) → is_eq (ordering_then a b) ≡ (is_eq a && is_eq b)
both_equal Less b = refl
both_equal Equal b = refl
both_equal Greater b = refl

pub turned_pair : (v n dir d : ℕ) → ((v == n) && (dir == d)) ≡ eq_by_cmp (pairs numbers numbers).compare (n, d) (v, dir)
turned_pair v n dir d =
    ap (λ b. b && (dir == d)) (turned v n) ∙ ap (λ b. eq_by_cmp nat_cmp n v && b) (turned dir d) ∙ sym (both_equal (nat_cmp n v) (nat_cmp d dir))

-- a name's step of a directory's count is its count there
pub count_step-counted : (d : ℕ) (m : List ℕ) (w : Option ℕ) (q : ℕ) → count_step d w q ≡ counted name_order (λ (e : (ℕ × List ℕ) × ℕ). e.0.0 == q) (d, m) w
count_step-counted d m None q = refl
count_step-counted d m (Some n) q = ap (λ b. cond b 1 0) (sym (turned d q))

pub uplink_step-counted : (d : ℕ) (m : List ℕ) (w : Option ℕ) (n q : ℕ) → uplink_step d w (n, q) ≡ counted name_order (λ (e : (ℕ × List ℕ) × ℕ). (e.1 == n) && (e.0.0 == q)) (d, m) w
uplink_step-counted d m None n q = refl
uplink_step-counted d m (Some v) n q = ap (λ b. cond b 1 0) (sym (turned_pair v n d q))

module _ {K : Type 0} {R : Order K} where
  -- what a table shows after one key was set
  changed_each : (P : (new old : Option ℕ) → Bool → Type 0) (t : Table R ℕ) (k : K) (now : Option ℕ) → P now (get t k) true → ((there : Option ℕ) → P there there false) → (q : K)
      → P (get (changed t k now) q) (get t q) (eq_by_cmp R.compare q k)
  changed_each P t k now here elsewhere q = subst (λ new. P new (get t q) (eq_by_cmp R.compare q k)) (sym (get-changed t k now q)) (at (R.compare q k) refl)
    where
      at : (o : Ordering) → R.compare q k ≡ o → P (cond (is_eq o) now (get t q)) (get t q) (is_eq o)
      at Equal tied = subst (λ key. P now (get t key) true) (sym (R.exact q k tied)) here
      at Less apart = elsewhere (get t q)
      at Greater apart = elsewhere (get t q)

  pub counted_less : (t : Table R ℕ) (k : K) (now : Option ℕ) → unwrap_or now 0 + 1 ≡ count_at t k → (q : K) → count_at (changed t k now) q + cond (eq_by_cmp R.compare q k) 1 0 ≡ count_at t q
  counted_less t k now less q = changed_each (λ new old tied. unwrap_or new 0 + cond tied 1 0 ≡ unwrap_or old 0) t k now less (λ there. omega arith) q

  pub counted_more : (t : Table R ℕ) (k : K) (now : Option ℕ) (step : ℕ) → unwrap_or now 0 ≡ count_at t k + step → (q : K) → count_at (changed t k now) q ≡ count_at t q + cond (eq_by_cmp R.compare q k) step 0
  counted_more t k now step more q = changed_each (λ new old tied. unwrap_or new 0 ≡ unwrap_or old 0 + cond tied step 0) t k now more (λ there. omega arith) q

  -- counts that show are above 0 where one is set that is
  pub still_positive : (t : Table R ℕ) (k : K) (now : Option ℕ) → ((count : ℕ) → now ≡ Some count → 0 < count) → ArePositive t → ArePositive (changed t k now)
  still_positive t k now new all q count found = at (eq_by_cmp R.compare q k) (sym (get-changed t k now q) ∙ found)
    where
      at : (b : Bool) → cond b now (get t q) ≡ Some count → 0 < count
      at true is = new count is
      at false is = all q count is

pub no_names : AreNames empty
unfolding get
no_names key number found = cc

-- empty tables count the names of an empty one
pub nothing_counted : IsCounted empty empty empty
unfolding get
nothing_counted = record { positive = λ way count found. cc; counts = λ d. refl; uplinks = λ n d. refl }

-- names stay names where one of them comes to lead elsewhere
pub still_names : (names : NameTable) (d : ℕ) (m : List ℕ) (w : Option ℕ) → AreNames names → IsName m → AreNames (changed names (d, m) w)
still_names names d m w all name key n found = at (name_order.compare key (d, m)) refl
  where
    at : (o : Ordering) → name_order.compare key (d, m) ≡ o → IsName key.1
    at Equal tied = subst (λ (k : ℕ × List ℕ). IsName k.1) (sym (name_order.exact key (d, m) tied)) name
    at Less apart = all key n (sym (get-changed names (d, m) w key ∙ ap (λ o. cond (is_eq o) w (get names key)) apart) ∙ found)
    at Greater apart = all key n (sym (get-changed names (d, m) w key ∙ ap (λ o. cond (is_eq o) w (get names key)) apart) ∙ found)

-- a name counts in its directory, and as a way to its node
pub counted_name : (names : NameTable) (counts : Table numbers ℕ) (ways : Table by_node ℕ) → IsCounted names counts ways → (d : ℕ) (m : List ℕ) (n : ℕ) → get names (d, m) ≡ Some n
    → (0 < count_at counts d) × (0 < count_at ways (n, d))
counted_name names counts ways is d m n found =
    let p : (ℕ × List ℕ) × ℕ → Bool = λ e. e.0.0 == d in
    let w : (ℕ × List ℕ) × ℕ → Bool = λ e. (e.1 == n) && (e.0.0 == d) in
    let there : counted name_order p (d, m) (get names (d, m)) ≡ 1 = ap (counted name_order p (d, m)) found ∙ ap (λ b. cond b 1 0) (eq-eqb d d refl) in
    let here : counted name_order w (d, m) (get names (d, m)) ≡ 1 = ap (counted name_order w (d, m)) found ∙ ap (λ b. cond (b && (d == d)) 1 0) (eq-eqb n n refl) ∙ ap (λ b. cond b 1 0) (eq-eqb d d refl) in
    let in_dir = count-changed p names (d, m) None in
    let in_ways = count-changed w names (d, m) None in
    (omega (arith, there, is.counts d, in_dir), omega (arith, here, is.uplinks n d, in_ways))

-- the counts fit where they moved with the names
pub counted_after : (names : NameTable) (counts new_counts : Table numbers ℕ) (ways new_ways : Table by_node ℕ) → IsCounted names counts ways → (d : ℕ) (m : List ℕ) (w : Option ℕ)
    → ((q : ℕ) → count_at new_counts q + count_step d (get names (d, m)) q ≡ count_at counts q + count_step d w q)
    → ((q : ℕ × ℕ) → count_at new_ways q + uplink_step d (get names (d, m)) q ≡ count_at ways q + uplink_step d w q)
    → ArePositive new_ways
    → IsCounted (changed names (d, m) w) new_counts new_ways
counted_after names counts new_counts ways new_ways is d m w counts_moved ways_moved positive =
    let before = get names (d, m) in
    record {
      positive = positive;
      counts = λ q.
          let p : (ℕ × List ℕ) × ℕ → Bool = λ e. e.0.0 == q in
          omega (arith, counts_moved q, is.counts q, count-changed p names (d, m) w, count_step-counted d m before q, count_step-counted d m w q);
      uplinks = λ n q.
          let p : (ℕ × List ℕ) × ℕ → Bool = λ e. (e.1 == n) && (e.0.0 == q) in
          omega (arith, ways_moved (n, q), is.uplinks n q, count-changed p names (d, m) w, uplink_step-counted d m before n q, uplink_step-counted d m w n q);
    }

-- the counts fit where they moved from the node that a name led to
pub counted_moved : (names : NameTable) (counts new_counts : Table numbers ℕ) (ways new_ways : Table by_node ℕ) → IsCounted names counts ways → (key : ℕ × List ℕ) (from to : Option ℕ)
    → from ≡ get names key
    → CountsMoved counts (count_step key.0 from) (count_step key.0 to) new_counts
    → CountsMoved ways (uplink_step key.0 from) (uplink_step key.0 to) new_ways
    → (ArePositive ways → ArePositive new_ways)
    → IsCounted (changed names key to) new_counts new_ways
counted_moved names counts new_counts ways new_ways is key from to found counts_moved ways_moved positive =
    counted_after names counts new_counts ways new_ways is key.0 key.1 to (λ q. omega (arith, counts_moved q, ap (λ o. count_step key.0 o q) found))
    (λ q. omega (arith, ways_moved q, ap (λ o. uplink_step key.0 o q) found)) (positive is.positive)
