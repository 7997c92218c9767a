-- What a draft shows over a state after a change of its maps.
use Rattle.std.specs.Prelude.{◌≡◌, ℕ, ◌+◌, ◌≤◌, ◌==◌, Bool, true, false, cond, ℤ, pos, negsuc, neg_ℤ, ◌+ℤ◌, ◌≤ℤ◌, List, Option, Some, IsTrue, unwrap_or, if◌then◌else◌, refl}
use Rattle.std.specs.Option.{option_map, is_some}
use Rattle.std.specs.Ordering.{nat_cmp, eq_by_cmp}
use Rattle.std.specs.Cmp.{unsigned_tied, nat_eq_equiv}
use Rattle.std.specs.BTreeMap.{get}
use Rattle.std.proofs.Common.{ap, sym, subst, ◌∙◌, arith}
use Rattle.std.proofs.lemmas.Bool.{eq-eqb, eqb-true}
use Rattle.std.proofs.lemmas.Int.{ints}
use Rattle.std.proofs.lemmas.Map.Views.{tells_apart}
use Rattle.kfs_model.specs.Table.{Order}
use Rattle.kfs_model.specs.Tree.{name_order}
use Rattle.kfs_model.specs.Sight.{Sight}
use Rattle.kfs_model.specs.FirstWrong.{same_place}
use Rattle.kfs_model.specs.SeenAfter.{put_at, put_name, shifted}
use Rattle.kfs_model.proofs.NameTable.{place_tie_turned}
use Rattle.kfs_model.proofs.Overlay as laid
use Rattle.kfs_types.specs.Views.{header_of}
use Rattle.kfs_types.specs.declared.entry.Header.{Header as CodeHeader}
use Rattle.kfs_judge_reads.specs.declared.draft.draft.Draft.{Draft}
use Rattle.kfs_judge_reads.specs.declared.draft.few.Few.{Few}
use Rattle.kfs_judge_reads.specs.declared.draft.parents.Parents.{Parents}
use Rattle.kfs_judge_reads.specs.declared.draft.few.Shifts.{Shifts}
use Rattle.kfs_judge_reads.specs.Draft.Few.{at_key, entries_of, found_in, PutsIn}
use Rattle.kfs_judge_reads.specs.Draft.Shifts.{IsShifted}
use Rattle.kfs_judge_reads.specs.Draft.Overlay.{over, has_header, KeepsHeaders, shift_of, with_header, with_target, with_more_names, with_parent, PutsAt, ShiftsBy}

pub number_tie : (a b : ℕ) → eq_by_cmp nat_cmp a b ≡ (b == a)
number_tie a b = unsigned_tied a b ∙ nat_eq_equiv.symm a b

-- a read of what was put, or of what was there
pub put_read : {X Z : Type 0} (read : Option X → Z) (found there : Option X) (tie test : Bool) (value : X) → found ≡ cond tie (Some value) there → tie ≡ test → read found ≡ (if test then read (Some value) else read there)
put_read read found there tie test value is same = ap read (is ∙ ap (λ b. cond b (Some value) there) same) ∙ by_test test
  where
    by_test : (b : Bool) → read (cond b (Some value) there) ≡ (if b then read (Some value) else read there)
    by_test true = refl
    by_test false = refl

counted : (count shift by : ℤ) → count +ℤ (shift +ℤ by) ≡ count +ℤ shift +ℤ by
counted count shift by = omega (arith, ints)

-- what the draft has put into cells
abbrev pub overlay_of : {A : Type 0} → Draft A → laid.Overlay
overlay_of draft = record {
  heads = λ n. option_map (option_map header_of) (found_in nat_cmp draft.heads n);
  names = λ d m. found_in name_order.compare draft.names (d, m);
  shift = shift_of draft;
  parents = get nat_cmp draft.parents.map;
}

-- what a draft shows is its overlay, laid over the state
pub over_is_laid : {A : Type 0} (draft : Draft A) (s : Sight) → over draft s ≡ laid.over (overlay_of draft) s
over_is_laid draft s = refl

-- ---- the draft with another map

abbrev pub with_heads : {A : Type 0} → Draft A → Few ℕ (Option CodeHeader) A → Draft A
with_heads draft heads = record draft { heads = heads }

abbrev pub with_names : {A : Type 0} → Draft A → Few (ℕ × List ℕ) (Option ℕ) A → Draft A
with_names draft names = record draft { names = names }

abbrev pub with_parents : {A : Type 0} → Draft A → Parents A → Draft A
with_parents draft parents = record draft { parents = parents }

abbrev pub with_shifts : {A : Type 0} → Draft A → Shifts A → Draft A
with_shifts draft shifts = record draft { shifts = shifts }

module _ {A : Type 0} (old : Draft A) where
  pub header_shown : (heads : Few ℕ (Option CodeHeader) A) (n : ℕ) (header : Option CodeHeader) → PutsIn nat_cmp (entries_of old.heads) (entries_of heads) n header
      → (s : Sight) → over (with_heads old heads) s ≡ with_header n (option_map header_of header) (over old s)
  header_shown heads n header puts s = λ i. record {
    head = λ k. head_at k i;
    name = (over old s).name;
    count = (over old s).count;
    parent = (over old s).parent;
  }
    where
      head_at : (k : ℕ) → (over (with_heads old heads) s).head k ≡ put_at n (option_map header_of header) (over old s).head k
      head_at k = put_read (λ h. unwrap_or (option_map (option_map header_of) h) (s.head k)) _ _ _ (k == n) header (puts k) (number_tie n k)

  -- what is put is there
  pub header_put : (heads : Few ℕ (Option CodeHeader) A) (n : ℕ) (header : Option CodeHeader) → PutsIn nat_cmp (entries_of old.heads) (entries_of heads) n header → IsTrue (has_header (with_heads old heads) n)
  header_put heads n header puts = put_read is_some _ _ _ true header (puts n) (number_tie n n ∙ eq-eqb n n refl)

  -- and so is what was there
  pub headers_kept : (heads : Few ℕ (Option CodeHeader) A) (n : ℕ) (header : Option CodeHeader) → PutsIn nat_cmp (entries_of old.heads) (entries_of heads) n header → KeepsHeaders old (with_heads old heads)
  headers_kept heads n header puts k is = put_read is_some _ _ _ (k == n) header (puts k) (number_tie n k) ∙ at (k == n)
    where
      at : (b : Bool) → (if b then true else has_header old k) ≡ true
      at true = refl
      at false = is

  pub target_shown : (names : Few (ℕ × List ℕ) (Option ℕ) A) (d : ℕ) (m : List ℕ) (target : Option ℕ) → PutsIn name_order.compare (entries_of old.names) (entries_of names) (d, m) target
      → (s : Sight) → over (with_names old names) s ≡ with_target d m target (over old s)
  target_shown names d m target puts s = λ i. record {
    head = (over old s).head;
    name = λ e k. name_at e k i;
    count = (over old s).count;
    parent = (over old s).parent;
  }
    where
      name_at : (e : ℕ) (k : List ℕ) → (over (with_names old names) s).name e k ≡ put_name d m target (over old s).name e k
      name_at e k = put_read (λ t. unwrap_or t (s.name e k)) _ _ _ (same_place (e, k) (d, m)) target (puts (e, k)) (place_tie_turned (d, m) (e, k))

  pub parent_shown : (parents : Parents A) (n : ℕ) (parent : Option ℕ) → PutsAt nat_cmp old.parents.map parents.map n parent
      → (s : Sight) → over (with_parents old parents) s ≡ with_parent n parent (over old s)
  parent_shown parents n parent puts s = λ i. record {
    head = (over old s).head;
    name = (over old s).name;
    count = (over old s).count;
    parent = λ k. parent_at k i;
  }
    where
      parent_at : (k : ℕ) → (over (with_parents old parents) s).parent k ≡ put_at n parent (over old s).parent k
      parent_at k = put_read (λ p. unwrap_or p (s.parent k)) _ _ _ (k == n) parent (puts k) (number_tie n k)

module _ {A : Type 0} (old : Draft A) (shifts : Shifts A) (d : ℕ) (by : ℤ) (shifted_by : IsShifted old.shifts shifts d by) where
  pub count_shown : (s : Sight) → over (with_shifts old shifts) s ≡ with_more_names d by (over old s)
  count_shown s = λ i. record {
    head = (over old s).head;
    name = (over old s).name;
    count = λ e. count_at e i;
    parent = (over old s).parent;
  }
    where
      at_directory : (e : ℕ) (test : Bool) → (e == d) ≡ test → s.count e +ℤ (if test then shift_of old d +ℤ by else shift_of old e) ≡ (if test then (over old s).count e +ℤ by else (over old s).count e)
      at_directory e true same = ap (λ k. s.count e +ℤ (shift_of old k +ℤ by)) (sym (eqb-true e d same)) ∙ counted (s.count e) (shift_of old e) by
      at_directory e false other = refl

      count_at : (e : ℕ) → (over (with_shifts old shifts) s).count e ≡ shifted d by (over old s).count e
      count_at e = ap (λ shift. s.count e +ℤ shift) (shifted_by e) ∙ at_directory e (e == d) refl

  -- a change by one moves the bound by one
  pub shifts_by_one : negsuc 0 ≤ℤ by → by ≤ℤ pos 1 → (most : ℕ) → ShiftsBy most old → ShiftsBy (most + 1) (with_shifts old shifts)
  shifts_by_one least greatest most bound = record {
    above = λ e. subst (λ z. z ≤ℤ pos (most + 1)) (sym (shifted_by e)) (above e (e == d));
    below = λ e. subst (λ z. neg_ℤ (pos (most + 1)) ≤ℤ z) (sym (shifted_by e)) (below e (e == d));
  }
    where
      above : (e : ℕ) (test : Bool) → (if test then shift_of old d +ℤ by else shift_of old e) ≤ℤ pos (most + 1)
      above e true = let here = bound.above d in omega (arith, ints, here, greatest)
      above e false = let here = bound.above e in omega (arith, ints, here)

      below : (e : ℕ) (test : Bool) → neg_ℤ (pos (most + 1)) ≤ℤ (if test then shift_of old d +ℤ by else shift_of old e)
      below e true = let here = bound.below d in omega (arith, ints, here, least)
      below e false = let here = bound.below e in omega (arith, ints, here)

-- a wider bound holds, too
pub shifts_wider : {A : Type 0} (draft : Draft A) (few most : ℕ) → few ≤ most → ShiftsBy few draft → ShiftsBy most draft
shifts_wider draft few most fewer bound = record {
  above = λ d. let here = bound.above d in omega (arith, ints, here, fewer);
  below = λ d. let here = bound.below d in omega (arith, ints, here, fewer);
}

-- what holds at each key that the map has, and at the one that is put, holds at each that it has then
pub put_among : {K X : Type 0} (R : Order K) (old new : List (K × X)) (key : K) (value : X) → PutsIn R.compare old new key value
    → (P : K → Type 0) → ((k : K) (v : X) → at_key R.compare old k ≡ Some v → P k) → P key → (k : K) (v : X) → at_key R.compare new k ≡ Some v → P k
put_among {K} {X} R old new key value puts P before here k v is = at (eq_by_cmp R.compare key k) refl
  where
    at : (tie : Bool) → eq_by_cmp R.compare key k ≡ tie → P k
    at true same = subst P (tells_apart R.exact key k same) here
    at false other = before k v (sym (puts k ∙ ap (λ b. cond b (Some value) (at_key R.compare old k)) other) ∙ is)
