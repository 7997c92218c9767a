-- What pages show at a number, and the one table that they make.
use Rattle.std.proofs.Common.{◌≡◌, ◌==◌, ◌<◌, ◌≤◌, ℕ, zero, suc, ◌+◌, Bool, true, false, cond, All, List, [], ◌∷◌, ◌++◌, length, get_or, replicate, Option, Some, None, refl, sym, ap, subst, ◌∙◌, arith}
use Rattle.std.proofs.lemmas.Bool.{eqb-false, eqb-true, eq-eqb}
use Rattle.std.proofs.lemmas.List.Elements.{All-tail}
use Rattle.std.specs.Ordering.{nat_cmp, eq_by_cmp}
use Rattle.std.specs.Cmp.{unsigned_tied}
use Rattle.std.specs.Option.{is_some}
use Rattle.kfs_model.specs.Table.{Table, numbers, get, empty, option_or, changed}
use Rattle.kfs_model.proofs.TableLaws.{get-united, get-retain, same_table, get-changed}
use Rattle.kfs_maps.specs.declared.pages.change.NumberEdit.{NumberEdit}
use Rattle.kfs_maps.specs.Pages.Values.{Sheet, IsNextNumber}
use Rattle.kfs_maps.specs.Pages.Edits.{page_of, rewritten, edited}
use Rattle.kfs_maps.specs.Pages.Shown.{part, slot_shows, shown, Edited, HasIndex, AreIndexedFrom, page_table, table_from}
use Rattle.kfs_maps.proofs.PagesLemmas.Numbers.{by_less}

or_none : {Y : Type 0} (o rest : Option Y) → rest ≡ None → option_or o rest ≡ o
or_none None rest none = none
or_none (Some y) rest none = refl

module _ {V : Type 0} where
  pub get-rewritten : (t : Table numbers V) (es : List (NumberEdit V)) (q : ℕ) → get (rewritten t es) q ≡ edited es q (get t q)
  get-rewritten t [] q = refl
  get-rewritten t (e ∷ es) q = get-rewritten (changed t e.number e.value) es q ∙ ap (edited es q) (get-changed t e.number e.value q)

  pub edited-append : (xs ys : List (NumberEdit V)) (n : ℕ) (v : Option V) → edited (xs ++ ys) n v ≡ edited ys n (edited xs n v)
  edited-append [] ys n v = refl
  edited-append (x ∷ xs) ys n v = edited-append xs ys n (cond (eq_by_cmp nat_cmp n x.number) x.value v)

  -- edits of other pages change nothing
  edited-away : (es : List (NumberEdit V)) (n : ℕ) (v : Option V) → All (λ e. page_of e.number ≡ page_of n → ⊥) es → edited es n v ≡ v
  edited-away [] n v away = refl
  edited-away (e ∷ es) n v away = at_first (edited-away es n v (All-tail (λ (x : NumberEdit V). page_of x.number ≡ page_of n → ⊥) e es away)) (eq_by_cmp nat_cmp n e.number) refl
    where
      at_first : edited es n v ≡ v → (b : Bool) → (eq_by_cmp nat_cmp n e.number) ≡ b → edited es n (cond b e.value v) ≡ v
      at_first rest true same = absurd (away 0 e (omega arith) (ap page_of (sym (eqb-true n e.number (sym (unsigned_tied n e.number) ∙ same)))))
      at_first rest false same = rest

module _ {V : Type 0} where
  -- edits that are of no page in front, made behind those, are made of all
  pub edited_behind : (front olds news : List (Option (Sheet V))) (first : ℕ) (es : List (NumberEdit V)) → All (λ e. first + length front ≤ page_of e.number) es → Edited (first + length front) es olds news → Edited first es (front ++ olds) (front ++ news)
  edited_behind [] olds news first es away made n = subst (λ k. shown k news n ≡ edited es n (shown k olds n)) {x = first + 0} {y = first} (omega arith) (made n)
  edited_behind (page ∷ front) olds news first es away made n =
      at_page (edited_behind front olds news (first + 1) es (λ k d below. omega (arith, away k d below)) (λ m. subst (λ k. shown k news m ≡ edited es m (shown k olds m)) {x = first + suc (length front)} {y = first + 1 + length front} (omega arith) (made m)) n) (page_of n == first) refl
    where
      at_page : shown (first + 1) (front ++ news) n ≡ edited es n (shown (first + 1) (front ++ olds) n) → (b : Bool) → (page_of n == first) ≡ b → cond b (slot_shows page n) (shown (first + 1) (front ++ news) n) ≡ edited es n (cond b (slot_shows page n) (shown (first + 1) (front ++ olds) n))
      at_page inner false is = inner
      at_page inner true is = sym (edited-away es n _ (λ k d below same. omega (arith, away k d below, same, eqb-true (page_of n) first is)))

  -- the edits of one page and of those after it, made there, are made of all
  pub edited_page : (old new : Option (Sheet V)) (olds news : List (Option (Sheet V))) (index : ℕ) (mine later : List (NumberEdit V))
      → All (λ e. page_of e.number ≡ index) mine
      → All (λ e. index + 1 ≤ page_of e.number) later
      → ((n : ℕ) → slot_shows new n ≡ edited mine n (slot_shows old n))
      → Edited (index + 1) later olds news
      → Edited index (mine ++ later) (old ∷ olds) (new ∷ news)
  edited_page old new olds news index mine later in_page in_later slot rest n = at_page (page_of n == index) refl ∙ sym (edited-append mine later n _)
    where
      at_page : (b : Bool) → (page_of n == index) ≡ b → cond b (slot_shows new n) (shown (index + 1) news n) ≡ edited later n (edited mine n (cond b (slot_shows old n) (shown (index + 1) olds n)))
      at_page true is = slot n ∙ sym (edited-away later n _ (λ k d below same. omega (arith, in_later k d below, same, eqb-true (page_of n) index is)))
      at_page false is = rest n ∙ ap (edited later n) (sym (edited-away mine n _ (λ k d below same. eqb-false (page_of n) index is (omega (arith, in_page k d below, same)))))

  -- pages in their places are those in front, one, and those behind
  pub placed_front : (front back : List (Option (Sheet V))) (first : ℕ) → AreIndexedFrom first (front ++ back) → AreIndexedFrom (first + length front) back
  placed_front [] back first placed = rw (sum_zero first) placed
    where
      sum_zero : (n : ℕ) → n + 0 ≡ n
      sum_zero n = omega arith
  placed_front (page ∷ front) back first placed = rw (sum_more first (length front)) (placed_front front back (first + 1) placed.1)
    where
      sum_more : (n m : ℕ) → n + suc m ≡ n + 1 + m
      sum_more n m = omega arith

  pub placed_again : (front back others : List (Option (Sheet V))) (first : ℕ) → AreIndexedFrom first (front ++ back) → AreIndexedFrom (first + length front) others → AreIndexedFrom first (front ++ others)
  placed_again [] back others first placed again = subst (λ k. AreIndexedFrom k others) (omega arith) again
  placed_again (page ∷ front) back others first placed again = (placed.0, placed_again front back others (first + 1) placed.1 (subst (λ k. AreIndexedFrom k others) (omega arith) again))

  pub stands_at : (pages : List (Option (Sheet V))) (first k : ℕ) (page : Sheet V) → AreIndexedFrom first pages → get_or pages k None ≡ Some page → page.index ≡ first + k
  stands_at [] first k page placed here = absurd (differ here)
    where
      differ : None ≡ Some page → ⊥
      differ e = cc
  stands_at (p ∷ pages) first zero page placed here = subst (HasIndex first) here placed.0 ∙ omega arith
  stands_at (p ∷ pages) first (suc k) page placed here = stands_at pages (first + 1) k page placed.1 here ∙ omega arith

  get-page_table : (page : Option (Sheet V)) (q : ℕ) → get (page_table page) q ≡ slot_shows page q
  unfolding page_table get
  get-page_table None q = refl
  get-page_table (Some page) q = refl

  early : (first : ℕ) (pages : List (Option (Sheet V))) (q : ℕ) → page_of q < first → shown first pages q ≡ None
  early first [] q before = refl
  early first (page ∷ pages) q before = at_test (early (first + 1) pages q (omega (arith, before))) (page_of q == first) refl
    where
      at_test : shown (first + 1) pages q ≡ None → (b : Bool) → (page_of q == first) ≡ b → cond b (slot_shows page q) (shown (first + 1) pages q) ≡ None
      at_test rest true same = absurd (omega (arith, before, eqb-true (page_of q) first same))
      at_test rest false same = rest

  pub shown-at : (first : ℕ) (pages : List (Option (Sheet V))) (k q : ℕ) → page_of q ≡ first + k → shown first pages q ≡ slot_shows (get_or pages k None) q
  shown-at first [] k q at = refl
  shown-at first (page ∷ pages) zero q at = at_test (page_of q == first) refl
    where
      at_test : (b : Bool) → (page_of q == first) ≡ b → cond b (slot_shows page q) (shown (first + 1) pages q) ≡ slot_shows page q
      at_test true same = refl
      at_test false same = absurd (eqb-false (page_of q) first same (omega (arith, at)))
  shown-at first (page ∷ pages) (suc k) q at = at_test (shown-at (first + 1) pages k q (omega (arith, at))) (page_of q == first) refl
    where
      at_test : shown (first + 1) pages q ≡ slot_shows (get_or pages k None) q → (b : Bool) → (page_of q == first) ≡ b → cond b (slot_shows page q) (shown (first + 1) pages q) ≡ slot_shows (get_or pages k None) q
      at_test rest true same = absurd (omega (arith, at, eqb-true (page_of q) first same))
      at_test rest false same = rest

  pub get-table_from : (first : ℕ) (pages : List (Option (Sheet V))) (q : ℕ) → get (table_from first pages) q ≡ shown first pages q
  unfolding table_from get
  get-table_from first [] q = refl
  get-table_from first (page ∷ pages) q =
      get-united (table_from (first + 1) pages) _ q
      ∙ ap (λ o. option_or o (get (table_from (first + 1) pages) q)) (get-retain (λ n. page_of n == first) (page_table page) q ∙ ap (λ o. cond (page_of q == first) o None) (get-page_table page q))
      ∙ at_test (get-table_from (first + 1) pages q) (page_of q == first) refl
    where
      at_test : get (table_from (first + 1) pages) q ≡ shown (first + 1) pages q → (b : Bool) → (page_of q == first) ≡ b
          → option_or (cond b (slot_shows page q) None) (get (table_from (first + 1) pages) q) ≡ cond b (slot_shows page q) (shown (first + 1) pages q)
      at_test rest true same = or_none (slot_shows page q) _ (rest ∙ early (first + 1) pages q (omega (arith, eqb-true (page_of q) first same)))
      at_test rest false same = rest

  pub table_edited : (old new : List (Option (Sheet V))) (es : List (NumberEdit V)) → ((q : ℕ) → shown 0 new q ≡ edited es q (shown 0 old q)) → table_from 0 new ≡ rewritten (table_from 0 old) es
  table_edited old new es made = same_table _ _ (λ q. get-table_from 0 new q ∙ made q ∙ ap (edited es q) (sym (get-table_from 0 old q)) ∙ sym (get-rewritten (table_from 0 old) es q))

  pub table_kept : (old new : List (Option (Sheet V))) → ((q : ℕ) → shown 0 new q ≡ shown 0 old q) → table_from 0 new ≡ table_from 0 old
  table_kept old new same = same_table _ _ (λ q. get-table_from 0 new q ∙ same q ∙ sym (get-table_from 0 old q))

  -- what the map has at a number is what its page has there
  pub get-at : (pages : List (Option (Sheet V))) (q : ℕ) → get (table_from 0 pages) q ≡ slot_shows (get_or pages (page_of q) None) q
  get-at pages q = get-table_from 0 pages q ∙ shown-at 0 pages (page_of q) q (omega arith)

  -- the part of the map that belongs to a page is what the page has
  pub part-at : (pages : List (Option (Sheet V))) (index : ℕ) (t : Table numbers V) → ((n : ℕ) → (page_of n ≡ index → ⊥) → get t n ≡ None) → ((n : ℕ) → slot_shows (get_or pages index None) n ≡ get t n) → t ≡ part index (table_from 0 pages)
  part-at pages index t own same = same_table _ _ (λ n. at n (page_of n == index) refl ∙ sym (get-retain (λ m. page_of m == index) (table_from 0 pages) n))
    where
      at : (n : ℕ) (b : Bool) → (page_of n == index) ≡ b → get t n ≡ cond b (get (table_from 0 pages) n) None
      at n true e = sym (get-at pages n ∙ ap (λ k. slot_shows (get_or pages k None) n) (eqb-true (page_of n) index e) ∙ same n)
      at n false e = own n (eqb-false (page_of n) index e)

  -- where there is no page, the map has nothing at its numbers
  pub part-none : (pages : List (Option (Sheet V))) (index : ℕ) → get_or pages index None ≡ None → part index (table_from 0 pages) ≡ empty
  unfolding get
  part-none pages index none = sym (part-at pages index empty (λ n other. refl) (λ n. ap (λ (slot : Option (Sheet V)). slot_shows slot n) none))

module _ {V : Type 0} where
  pub get-part : (index : ℕ) (t : Table numbers V) (n : ℕ) → page_of n ≡ index → get (part index t) n ≡ get t n
  get-part index t n own = get-retain (λ m. page_of m == index) t n ∙ ap (λ b. cond b (get t n) None) (eq-eqb (page_of n) index own)

module _ {V : Type 0} where
  -- a page without a value shows what no page shows
  pub blank_shows : (slot : Option (Sheet V)) (sheet : Sheet V) (index : ℕ) → is_some slot ≡ false → sheet ≡ record { index = index; values = empty } → (n : ℕ) → get sheet.values n ≡ slot_shows slot n
  unfolding get
  blank_shows None sheet index none blank n = ap (λ (s : Sheet V). get s.values n) blank
  blank_shows (Some page) sheet index none blank n = cc

placed_none : (V : Type 0) (first count : ℕ) → AreIndexedFrom {V = V} first (replicate count None)
placed_none V first zero = tt
placed_none V first (suc count) = (tt, placed_none V (first + 1) count)

shown_none : (V : Type 0) (first count n : ℕ) → shown {V = V} first (replicate count None) n ≡ None
shown_none V first zero n = refl
shown_none V first (suc count) n = at (page_of n == first) (shown_none V (first + 1) count n)
  where
    at : (b : Bool) → shown {V = V} (first + 1) (replicate count None) n ≡ None → cond b None (shown {V = V} (first + 1) (replicate count None) n) ≡ None
    at true rest = refl
    at false rest = rest

module _ {V : Type 0} where
  pub placed_blank : (pages : List (Option (Sheet V))) (count : ℕ) → pages ≡ replicate count None → AreIndexedFrom 0 pages
  placed_blank pages count none = subst (AreIndexedFrom 0) (sym none) (placed_none V 0 count)

  pub table_none : (pages : List (Option (Sheet V))) (count : ℕ) → pages ≡ replicate count None → table_from 0 pages ≡ empty
  unfolding get
  table_none pages count none = same_table _ _ (λ n. get-table_from 0 pages n ∙ ap (λ all. shown 0 all n) none ∙ shown_none V 0 count n)

module _ {V : Type 0} where
  part-some : (index : ℕ) (t : Table numbers V) (n : ℕ) (v : V) → get (part index t) n ≡ Some v → (page_of n ≡ index) × (get t n ≡ Some v)
  part-some index t n v some = at (page_of n == index) refl (sym (get-retain (λ m. page_of m == index) t n) ∙ some)
    where
      at : (b : Bool) → (page_of n == index) ≡ b → cond b (get t n) None ≡ Some v → (page_of n ≡ index) × (get t n ≡ Some v)
      at true e here = (eqb-true (page_of n) index e, here)
      at false e here = cc

  -- the next number of a page is the next of all, where no page before has one
  pub next_whole : (index : ℕ) (t : Table numbers V) (after number : ℕ) (value : V) → ((m : ℕ) → after < m → page_of m < index → get t m ≡ None) → IsNextNumber (part index t) after number value → IsNextNumber t after number value
  unfolding page_of
  next_whole index t after number value before next =
      let here = part-some index t number value next.here in
      record {
        above = next.above;
        here = here.1;
        least = λ m above below.
            by_less (page_of m) index (before m above) (λ from. sym (get-part index t m (omega (arith, below, from, here.0))) ∙ next.least m above below);
      }
