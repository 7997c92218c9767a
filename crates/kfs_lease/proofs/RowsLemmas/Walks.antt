-- Walks along sorted entries: what has been passed, and that fewer entries are left.
use Rattle.std.proofs.Common.{◌≡◌, ℕ, suc, ◌<◌, ◌≤◌, Bool, true, false, cond, not, List, [], ◌∷◌, Option, Some, None, refl, sym, ap, ◌∙◌, arith}
use Rattle.std.specs.Prelude.{is_some, if◌then◌else◌}
use Rattle.std.specs.declared.cmp.Ordering.{Ordering}
use Rattle.std.specs.declared.cmp.Ordering.TheVariants.{Less, Equal, Greater}
use Rattle.std.specs.declared.ops.Bound.{Bound}
use Rattle.std.specs.declared.ops.Bound.TheVariants.{Included, Excluded, Unbounded}
use Rattle.std.specs.Ordering.{is_eq, is_lt, is_gt, eq_by_cmp, ordering_reverse}
use Rattle.std.specs.Cmp.{upto, tied_itself}
use Rattle.std.specs.FinMap.Entries.{find}
use Rattle.std.proofs.lemmas.Bool.{both_ways}
use Rattle.kfs_model.specs.Table.{Order, Table, get, changed}
use Rattle.kfs_model.proofs.TableLaws.{get-changed}
use Rattle.kfs_maps.specs.Chunks.Starts.{is_from, IsNextEntry}
use Rattle.kfs_maps.specs.Chunks.Tables.{table}
use Rattle.kfs_maps.proofs.ChunksLemmas.Tables.{get-table}
use Rattle.kfs_lease.specs.Rows.Ending.{HasPart}
use Rattle.kfs_lease.proofs.RowsLemmas.RowTables.{tied}

module _ {K V : Type 0} (R : Order K) (start : Bound K) (es : List (K × V)) (key : K) (value : V) (next : IsNextEntry R.compare start es key value) where
  -- a key that isn't behind the next entry is its key, or comes before the start, or has no entry
  pub passed : (q : K) → is_from R.compare (Excluded key) q ≡ false → (P : Type 0) → (q ≡ key → P) → (is_from R.compare start q ≡ false → P) → (find R.compare q es ≡ None → P) → P
  passed q not_behind P here before nothing = at (R.compare q key) refl
    where
      lower : R.compare q key ≡ Less → (b : Bool) → is_from R.compare start q ≡ b → P
      lower less false out = before out
      lower less true within = by (find R.compare q es) refl
        where
          by : (o : Option V) → find R.compare q es ≡ o → P
          by None none = nothing none
          by (Some v) some = absurd (both_ways (is_lt (R.compare q key)) (next.least q within (ap is_some some)) (ap is_lt less))

      at : (r : Ordering) → R.compare q key ≡ r → P
      at Less less = lower less (is_from R.compare start q) refl
      at Equal same = here (R.exact q key same)
      at Greater more = absurd (both_ways (is_gt (R.compare q key)) not_behind (ap is_gt more))

-- ---- fewer are left

-- how many entries have a key that passes the test
abbrev pub how_many : {K V : Type 0} → (K → Bool) → List (K × V) → ℕ
how_many test [] = 0
how_many test (e ∷ es) = if test e.0 then suc (how_many test es) else how_many test es

module _ {K V : Type 0} (test fewer : K → Bool) (within : (k : K) → fewer k ≡ true → test k ≡ true) where
  no_more : (es : List (K × V)) → how_many fewer es ≤ how_many test es
  no_more [] = omega arith
  no_more (e ∷ es) = at (test e.0) (fewer e.0) refl refl (no_more es)
    where
      at : (a b : Bool) → test e.0 ≡ a → fewer e.0 ≡ b → how_many fewer es ≤ how_many test es
          → cond b (suc (how_many fewer es)) (how_many fewer es) ≤ cond a (suc (how_many test es)) (how_many test es)
      at true true was is rest = omega (arith, rest)
      at true false was is rest = omega (arith, rest)
      at false true was is rest = absurd (both_ways (test e.0) was (within e.0 is))
      at false false was is rest = rest

  -- where an entry passes the first test alone, fewer pass the second
  one_less : (R : Order K) (key : K) (value : V) → test key ≡ true → fewer key ≡ false → (es : List (K × V)) → find R.compare key es ≡ Some value → how_many fewer es < how_many test es
  one_less R key value was out [] found = cc
  one_less R key value was out (e ∷ es) found = by (eq_by_cmp R.compare key e.0) refl found (one_less R key value was out es)
    where
      m : ℕ
      m = how_many test es

      n : ℕ
      n = how_many fewer es

      first : key ≡ e.0 → cond (fewer e.0) (suc n) n < cond (test e.0) (suc m) m
      first same =
          let in_test : cond (test e.0) (suc m) m ≡ suc m = ap (λ b. cond b (suc m) m) (ap test (sym same) ∙ was) in
          let in_fewer : cond (fewer e.0) (suc n) n ≡ n = ap (λ b. cond b (suc n) n) (ap fewer (sym same) ∙ out) in
          omega (arith, in_test, in_fewer, no_more es)

      at : (a b : Bool) → test e.0 ≡ a → fewer e.0 ≡ b → n < m → cond b (suc n) n < cond a (suc m) m
      at true true was is rest = omega (arith, rest)
      at true false was is rest = omega (arith, rest)
      at false true was is rest = absurd (both_ways (test e.0) was (within e.0 is))
      at false false was is rest = rest

      by : (b : Bool) → eq_by_cmp R.compare key e.0 ≡ b → cond b (Some e.1) (find R.compare key es) ≡ Some value → (find R.compare key es ≡ Some value → n < m)
          → cond (fewer e.0) (suc n) n < cond (test e.0) (suc m) m
      by true tie found rest = first (tied R key e.0 tie)
      by false apart found rest = at (test e.0) (fewer e.0) refl refl (rest found)

not_less : (r : Ordering) → not (is_lt r) ≡ false → r ≡ Less
not_less Less is = refl
not_less Equal is = cc
not_less Greater is = cc

module _ {K : Type 0} (R : Order K) where
  pub behind_is_less : (key q : K) → is_from R.compare (Excluded key) q ≡ true → R.compare key q ≡ Less
  behind_is_less key q behind = R.total.antisymm key q ∙ ap ordering_reverse (greater (R.compare q key) behind)
    where
      greater : (r : Ordering) → is_gt r ≡ true → r ≡ Greater
      greater Less more = cc
      greater Equal more = cc
      greater Greater more = refl

  -- a key behind one that is from the start on is so, too
  pub still_from : (start : Bound K) (key q : K) → R.compare key q ≡ Less → is_from R.compare start key ≡ true → (b : Bool) → is_from R.compare start q ≡ b → is_from R.compare start q ≡ true
  still_from start key q less within true is = is
  still_from (Included first) key q less within false is = absurd (both_ways _ (ap (λ r. not (is_lt r)) (R.total.trans key q first less (not_less _ is))) within)
  still_from (Excluded last) key q less within false is = absurd (both_ways _ (upto R.total key q last (ap is_gt less) is) within)
  still_from Unbounded key q less within false is = refl

module _ {K V : Type 0} (R : Order K) where
  -- fewer entries are behind the next one than from the start on
  pub next_fewer : (start : Bound K) (es : List (K × V)) (key : K) (value : V) → IsNextEntry R.compare start es key value
      → how_many (is_from R.compare (Excluded key)) es < how_many (is_from R.compare start) es
  next_fewer start es key value next =
      one_less (is_from R.compare start) (is_from R.compare (Excluded key)) behind R key value next.within (ap is_gt (tied_itself R.total key)) es next.found
    where
      behind : (q : K) → is_from R.compare (Excluded key) q ≡ true → is_from R.compare start q ≡ true
      behind q more = still_from R start key q (behind_is_less R key q more) next.within (is_from R.compare start q) refl

-- ---- what was passed is gone

module _ {K X : Type 0} {R : Order K} where
  gone_here : (t : Table R X) (key : K) → get (changed t key None) key ≡ None
  gone_here t key = get-changed t key None key ∙ ap (λ r. cond (is_eq r) None (get t key)) (tied_itself R.total key)

  gone_still : (t : Table R X) (key q : K) → get t q ≡ None → get (changed t key None) q ≡ None
  gone_still t key q none = get-changed t key None q ∙ ap (cond (eq_by_cmp R.compare q key) None) none ∙ at (eq_by_cmp R.compare q key)
    where
      at : (b : Bool) → ◌≡◌ {A = Option X} (cond b None None) None
      at true = refl
      at false = refl

  -- what isn't in a table isn't in a part of it
  pub gone_in_part : (t part : Table R X) → HasPart t part → (q : K) → get t q ≡ None → get part q ≡ None
  gone_in_part t part has q none = at (get part q) refl
    where
      at : (o : Option X) → get part q ≡ o → get part q ≡ None
      at None is = is
      at (Some x) is = let never : None ≡ Some x = sym none ∙ has q x is in cc

  -- without an entry it is a part still
  pub part_without : (t part : Table R X) (key : K) → HasPart t part → HasPart t (changed part key None)
  part_without t part key has q value found = has q value (at (eq_by_cmp R.compare q key) (sym (get-changed part key None q) ∙ found))
    where
      at : (b : Bool) → cond b None (get part q) ≡ Some value → get part q ≡ Some value
      at true found = cc
      at false found = found

  pub passed_gone : (es : List (K × X)) (left : Table R X) → HasPart (table R es) left → (start : Bound K) (key : K) (value : X) → IsNextEntry R.compare start es key value
      → (q : K) → (is_from R.compare start q ≡ false → get left q ≡ None) → is_from R.compare (Excluded key) q ≡ false → get (changed left key None) q ≡ None
  passed_gone es left has start key value next q before not_behind =
      passed R start es key value next q not_behind (get (changed left key None) q ≡ None)
      (λ same. ap (get (changed left key None)) same ∙ gone_here left key)
      (λ out. gone_still left key q (before out))
      (λ none. gone_still left key q (gone_in_part (table R es) left has q (get-table R es q ∙ none)))
