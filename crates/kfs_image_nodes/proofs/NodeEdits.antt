-- The edits that node rows make: what they leave at each number, and that they ascend.
use Rattle.std.proofs.Common.{◌≡◌, ℕ, ◌+◌, ◌<◌, Bool, true, false, cond, ◌&&◌, nat_le, List, [], ◌∷◌, length, map, drop, slice_index_or, All, Option, Some, None, option_map, refl, sym, ap, subst, ◌∙◌, add-one, arith}
use Rattle.std.proofs.Math.Seq.{drop-cons}
use Rattle.std.proofs.lemmas.Bool.{eqb-true, leb-true, leb-false}
use Rattle.std.proofs.lemmas.List.{get_or-map, length-map}
use Rattle.std.proofs.lemmas.List.Elements.{All-cons, All-tail}
use Rattle.std.proofs.lemmas.List.Kept.{IsStrictlySortedBy-filter}
use Rattle.std.proofs.lemmas.Map.Keys.{sorted_tail, below_from_sorted}
use Rattle.std.specs.Ordering.{nat_cmp, eq_by_cmp}
use Rattle.std.specs.Cmp.{unsigned_tied, nat_cmp_total}
use Rattle.std.specs.List.{filter}
use Rattle.std.specs.List.Sorted.{IsStrictlySortedBy}
use Rattle.std.specs.Map.{lookup, keys_of}
use Rattle.std.specs.BTreeMap.{is_at}
use Rattle.kfs_types.specs.declared.entry.Header.{Header as CodeHeader}
use Rattle.kfs_types.specs.declared.plan.NodeRow.{NodeRow}
use Rattle.kfs_types.specs.Views.{header_of}
use Rattle.kfs_maps.specs.declared.pages.change.NumberEdit.{NumberEdit}
use Rattle.kfs_maps.specs.Pages.Edits.{edited, rewritten, AreEdits}
use Rattle.kfs_maps.proofs.PagesLemmas.Tables.{get-rewritten}
use Rattle.kfs_model.specs.Header.{Header}
use Rattle.kfs_model.specs.Table.{Table, numbers, empty, get, changed}
use Rattle.kfs_model.proofs.TableLaws.{same_table, get-mapped, get-changed}
use Rattle.kfs_image_nodes.specs.Change.{reheaded}
use Rattle.kfs_image_nodes.specs.Rows.{heads_of}
use Rattle.kfs_image_nodes.specs.NodeEdits.{left_by, edits_from, IsNumber, AreNumbered}
use Rattle.kfs_maps.specs.Chunks.Overlays.{said_or}
use Rattle.kfs_maps.proofs.ChunksLemmas.Overlays.{nothing_more}

-- the rows that are left begin with the row at the index
pub rows_left : {X : Type 0} (xs : List X) (i : ℕ) (d : X) → i < length xs → drop i xs ≡ slice_index_or xs i d ∷ drop (i + 1) xs
rows_left xs i d below = rw add-one (drop-cons xs i d below)

abbrev is_number : ℕ → Bool
is_number n = nat_le 1 n && nat_le n 65536

-- whether a number is in range decides it
in_range : (n : ℕ) → is_number n ≡ true → IsNumber n
in_range n is = at (nat_le 1 n) (nat_le n 65536) refl refl is
  where
    at : (a b : Bool) → nat_le 1 n ≡ a → nat_le n 65536 ≡ b → (a && b) ≡ true → IsNumber n
    at true true first last both = (leb-true 1 n first, leb-true n 65536 last)
    at true false first last both = cc
    at false b first last both = cc

out_of_range : (n : ℕ) → is_number n ≡ false → IsNumber n → ⊥
out_of_range n isnt within = at (nat_le 1 n) (nat_le n 65536) refl refl isnt
  where
    at : (a b : Bool) → nat_le 1 n ≡ a → nat_le n 65536 ≡ b → (a && b) ≡ false → ⊥
    at true true first last neither = cc
    at true false first last neither = let past : 65536 < n = leb-false n 65536 last in omega (arith, past, within.1)
    at false b first last neither = let below : n < 1 = leb-false 1 n first in omega (arith, below, within.0)

by_range : {P : Type 0} (n : ℕ) → (is_number n ≡ true → P) → (is_number n ≡ false → P) → P
by_range {P} n within out = at (is_number n) refl
  where
    at : (b : Bool) → is_number n ≡ b → P
    at true e = within e
    at false e = out e

-- a number is one that pages have, or it isn't
pub number_or_not : {P : Type 0} (n : ℕ) → (IsNumber n → P) → ((IsNumber n → ⊥) → P) → P
number_or_not n within out = by_range n (λ is. within (in_range n is)) (λ isnt. out (out_of_range n isnt))

module _ {X : Type 0} where
  numbers_kept : (es : List (ℕ × Option X)) → map (λ (e : NumberEdit X). e.number) (edits_from es) ≡ filter is_number (keys_of es)
  unfolding edits_from
  numbers_kept [] = refl
  numbers_kept (e ∷ es) =
      elim (is_number e.0) as (λ b. map (λ (x : NumberEdit X). x.number) (cond b (record { number = e.0; value = e.1 } ∷ edits_from es) (edits_from es)) ≡ cond b (e.0 ∷ filter is_number (keys_of es)) (filter is_number (keys_of es))) [
        | true ↦ ap (λ ks. e.0 ∷ ks) (numbers_kept es)
        | false ↦ numbers_kept es
      ]

  edits_within : (e : ℕ × Option X) (es : List (ℕ × Option X)) → is_number e.0 ≡ true → edits_from (e ∷ es) ≡ record { number = e.0; value = e.1 } ∷ edits_from es
  unfolding edits_from
  edits_within e es is = ap (λ b. cond b (record { number = e.0; value = e.1 } ∷ edits_from es) (edits_from es)) is

  edits_without : (e : ℕ × Option X) (es : List (ℕ × Option X)) → is_number e.0 ≡ false → edits_from (e ∷ es) ≡ edits_from es
  unfolding edits_from
  edits_without e es isnt = ap (λ b. cond b (record { number = e.0; value = e.1 } ∷ edits_from es) (edits_from es)) isnt

  pub edit_kept : (e : ℕ × Option X) (es : List (ℕ × Option X)) → IsNumber e.0 → edits_from (e ∷ es) ≡ record { number = e.0; value = e.1 } ∷ edits_from es
  edit_kept e es within = by_range e.0 (edits_within e es) (λ isnt. absurd (out_of_range e.0 isnt within))

  pub edit_left_out : (e : ℕ × Option X) (es : List (ℕ × Option X)) → (IsNumber e.0 → ⊥) → edits_from (e ∷ es) ≡ edits_from es
  edit_left_out e es out = by_range e.0 (λ is. absurd (out (in_range e.0 is))) (edits_without e es)

  pub no_edits : edits_from {X = X} [] ≡ []
  unfolding edits_from
  no_edits = refl

  edits_in_range : (es : List (ℕ × Option X)) → All (λ (e : NumberEdit X). IsNumber e.number) (edits_from es)
  edits_in_range [] = subst (All (λ (e : NumberEdit X). IsNumber e.number)) (sym no_edits) (λ k d below. absurd (omega (arith, below)))
  edits_in_range (e ∷ es) =
      by_range e.0
      (λ is. subst (All (λ (x : NumberEdit X). IsNumber x.number)) (sym (edits_within e es is)) (All-cons (λ (x : NumberEdit X). IsNumber x.number) _ _ (in_range e.0 is) (edits_in_range es)))
      (λ isnt. subst (All (λ (x : NumberEdit X). IsNumber x.number)) (sym (edits_without e es isnt)) (edits_in_range es))

  pub are_edits : (es : List (ℕ × Option X)) → IsStrictlySortedBy nat_cmp (keys_of es) → AreEdits (edits_from es)
  are_edits es sorted = record { ascend = ascend; range = edits_in_range es }
    where
      keys : List ℕ
      keys = map (λ (e : NumberEdit X). e.number) (edits_from es)

      ordered : IsStrictlySortedBy nat_cmp (map (λ (e : NumberEdit X). e.number) (edits_from es))
      ordered = subst (IsStrictlySortedBy nat_cmp) (sym (numbers_kept es)) (IsStrictlySortedBy-filter nat_cmp is_number (keys_of es) sorted)

      ascend : (i j : ℕ) (d : NumberEdit X) → i < j → j < length (edits_from es) → (slice_index_or (edits_from es) i d).number < (slice_index_or (edits_from es) j d).number
      ascend i j d less below =
          let at_i = get_or-map (λ (e : NumberEdit X). e.number) (edits_from es) i d d.number (omega (arith, less, below)) in
          let at_j = get_or-map (λ (e : NumberEdit X). e.number) (edits_from es) j d d.number below in
          let apart = below_from_sorted (map (λ (e : NumberEdit X). e.number) (edits_from es)) i j d.number ordered less (omega (arith, below, length-map (edits_from es) (λ (e : NumberEdit X). e.number))) in
          omega (arith, at_i, at_j, apart)

  -- the edits make of a number what was said of it
  pub edits_say : (es : List (ℕ × Option X)) (q : ℕ) (there : Option X) → IsStrictlySortedBy nat_cmp (keys_of es) → IsNumber q → edited (edits_from es) q there ≡ said_or (lookup (is_at (nat_cmp q)) es) there
  edits_say [] q there sorted within = ap (λ edits. edited edits q there) no_edits
  edits_say (e ∷ es) q there sorted within = by_range e.0 (kept (λ v. edits_say es q v (sorted_tail nat_cmp e.0 (keys_of es) sorted) within)) (left_out (λ v. edits_say es q v (sorted_tail nat_cmp e.0 (keys_of es) sorted) within))
    where
      at : (b : Bool) → eq_by_cmp nat_cmp q e.0 ≡ b → said_or (lookup (is_at (nat_cmp q)) es) (cond b e.1 there) ≡ said_or (cond b (Some e.1) (lookup (is_at (nat_cmp q)) es)) there
      at true tied = ap (λ said. said_or said e.1) (nothing_more nat_cmp_total q e es sorted tied)
      at false apart = refl

      kept : ((v : Option X) → edited (edits_from es) q v ≡ said_or (lookup (is_at (nat_cmp q)) es) v) → is_number e.0 ≡ true → edited (edits_from (e ∷ es)) q there ≡ said_or (lookup (is_at (nat_cmp q)) (e ∷ es)) there
      kept rest is = ap (λ edits. edited edits q there) (edits_within e es is) ∙ rest (cond (eq_by_cmp nat_cmp q e.0) e.1 there) ∙ at (eq_by_cmp nat_cmp q e.0) refl

      away : is_number e.0 ≡ false → (b : Bool) → eq_by_cmp nat_cmp q e.0 ≡ b → said_or (lookup (is_at (nat_cmp q)) es) there ≡ said_or (cond b (Some e.1) (lookup (is_at (nat_cmp q)) es)) there
      away isnt true tied = absurd (out_of_range e.0 isnt (subst IsNumber (eqb-true q e.0 (sym (unsigned_tied q e.0) ∙ tied)) within))
      away isnt false apart = refl

      left_out : ((v : Option X) → edited (edits_from es) q v ≡ said_or (lookup (is_at (nat_cmp q)) es) v) → is_number e.0 ≡ false → edited (edits_from (e ∷ es)) q there ≡ said_or (lookup (is_at (nat_cmp q)) (e ∷ es)) there
      left_out rest isnt = ap (λ edits. edited edits q there) (edits_without e es isnt) ∙ rest there ∙ away isnt (eq_by_cmp nat_cmp q e.0) refl

  -- edits make nothing of a number that no page has
  pub edited_beside : (edits : List (NumberEdit X)) (q : ℕ) (there : Option X) → All (λ (e : NumberEdit X). IsNumber e.number) edits → (IsNumber q → ⊥) → edited edits q there ≡ there
  edited_beside [] q there within out = refl
  edited_beside (e ∷ es) q there within out = at (edited_beside es q there (All-tail (λ (x : NumberEdit X). IsNumber x.number) e es within) out) (eq_by_cmp nat_cmp q e.number) refl
    where
      at : edited es q there ≡ there → (b : Bool) → eq_by_cmp nat_cmp q e.number ≡ b → edited es q (cond b e.value there) ≡ there
      at rest true tied = absurd (out (subst IsNumber (sym (eqb-true q e.number (sym (unsigned_tied q e.number) ∙ tied))) (within 0 e (omega arith))))
      at rest false apart = rest

pub viewed : (b : Bool) (w o : Option CodeHeader) → option_map header_of (cond b w o) ≡ cond b (option_map header_of w) (option_map header_of o)
viewed true w o = refl
viewed false w o = refl

-- the headers after the rows
pub get-reheaded : (heads : Table numbers Header) (rows : List NodeRow) (q : ℕ) (there : Option CodeHeader) → get heads q ≡ option_map header_of there → get (reheaded heads rows) q ≡ option_map header_of (left_by rows q there)
get-reheaded heads [] q there same = same
get-reheaded heads (row ∷ rows) q there same =
    get-reheaded (changed heads row.number (option_map header_of row.now)) rows q (cond (eq_by_cmp nat_cmp q row.number) row.now there)
    (get-changed heads row.number (option_map header_of row.now) q
    ∙ ap (cond (eq_by_cmp nat_cmp q row.number) (option_map header_of row.now)) same
    ∙ sym (viewed (eq_by_cmp nat_cmp q row.number) row.now there))

none_beyond : (heads : Table numbers Header) (q : ℕ) → AreNumbered heads → (IsNumber q → ⊥) → get heads q ≡ None
none_beyond heads q within out = at (get heads q) refl
  where
    at : (o : Option Header) → get heads q ≡ o → o ≡ None
    at None is = refl
    at (Some h) is = absurd (out (within q h is))

-- edits that say what the rows leave make the headers of the rows
pub heads_made : (headers : Table numbers CodeHeader) (edits : List (NumberEdit CodeHeader)) (rows : List NodeRow) → AreEdits edits
    → ((q : ℕ) (there : Option CodeHeader) → IsNumber q → edited edits q there ≡ left_by rows q there)
    → AreNumbered (heads_of headers)
    → AreNumbered (reheaded (heads_of headers) rows)
    → heads_of (rewritten headers edits) ≡ reheaded (heads_of headers) rows
heads_made headers edits rows are says before after =
    same_table _ _ (λ q.
    get-mapped (λ number header. header_of header) (rewritten headers edits) q
    ∙ ap (option_map header_of) (get-rewritten headers edits q)
    ∙ number_or_not q
    (λ is.
    ap (option_map header_of) (says q (get headers q) is)
    ∙ sym (get-reheaded (heads_of headers) rows q (get headers q) (get-mapped (λ number header. header_of header) headers q)))
    (λ out.
    ap (option_map header_of) (edited_beside edits q (get headers q) are.range out)
    ∙ sym (get-mapped (λ number header. header_of header) headers q)
    ∙ none_beyond (heads_of headers) q before out
    ∙ sym (none_beyond (reheaded (heads_of headers) rows) q after out)))

-- one header, and no other
pub one_head : (headers new : Table numbers CodeHeader) (number : ℕ) (header : CodeHeader) → heads_of headers ≡ empty → new ≡ rewritten headers (record { number = number; value = Some header } ∷ [])
    → heads_of new ≡ changed empty number (Some (header_of header))
one_head headers new number header none is =
    same_table _ _ (λ q.
    get-mapped (λ number header. header_of header) new q
    ∙ ap (λ t. option_map header_of (get t q)) is
    ∙ ap (option_map header_of) (get-rewritten headers (record { number = number; value = Some header } ∷ []) q)
    ∙ viewed (eq_by_cmp nat_cmp q number) (Some header) (get headers q)
    ∙ ap (cond (eq_by_cmp nat_cmp q number) (Some (header_of header))) (sym (get-mapped (λ number header. header_of header) headers q) ∙ ap (λ t. get t q) none)
    ∙ sym (get-changed empty number (Some (header_of header)) q))

pub no_heads : heads_of empty ≡ empty
unfolding get
no_heads = same_table _ _ (λ q. get-mapped (λ number header. header_of header) empty q)
