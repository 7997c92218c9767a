-- What stands among a table's entries, by its keys.
use Rattle.std.proofs.Common.{◌≡◌, Bool, true, false, cond, T, ◌&&◌, List, [], ◌∷◌, Some, None, refl, sym, ap, subst, ◌∙◌, ⊎_elim}
use Rattle.std.specs.declared.cmp.Ordering.{Ordering}
use Rattle.std.specs.declared.cmp.Ordering.TheVariants.{Less, Equal, Greater}
use Rattle.std.specs.Ordering.{is_eq, is_lt}
use Rattle.std.specs.Cmp.{tied_itself}
use Rattle.std.specs.List.{filter, list_any}
use Rattle.std.specs.Map.{keys_of}
use Rattle.std.specs.FinMap.Entries.{find, is_sorted, below_all}
use Rattle.std.proofs.lemmas.Bool.{or_cases, or_left, or_right}
use Rattle.kfs_model.specs.Table.{Order}

pub left_part : (a b : Bool) → T (a && b) → T a
left_part true b t = tt
left_part false b t = t

pub right_part : (a b : Bool) → T (a && b) → T b
right_part true b t = t
right_part false b t = absurd t

module _ {K X : Type 0} where
  -- the keys of entries that are kept by their keys
  pub keys_of-filter : (p : K → Bool) (es : List (K × X)) → keys_of (filter (λ e. p e.0) es) ≡ filter p (keys_of es)
  keys_of-filter p [] = refl
  keys_of-filter p (e ∷ es) =
      elim (p e.0) as (λ b. keys_of (cond b (e ∷ filter (λ e. p e.0) es) (filter (λ e. p e.0) es)) ≡ cond b (e.0 ∷ filter p (keys_of es)) (filter p (keys_of es))) [
        | true ↦ ap (λ ks. e.0 ∷ ks) (keys_of-filter p es)
        | false ↦ keys_of-filter p es
      ]

less_is_no_tie : (o : Ordering) → T (is_lt o) → is_eq o ≡ false
less_is_no_tie Less t = refl
less_is_no_tie Equal t = absurd t
less_is_no_tie Greater t = absurd t

module _ {K X : Type 0} (R : Order K) where
  pub find_tie : (key : K) (e : K × X) (es : List (K × X)) (o : Ordering) → R.compare key e.0 ≡ o → find R.compare key (e ∷ es) ≡ cond (is_eq o) (Some e.1) (find R.compare key es)
  find_tie key e es o p = ap (λ r. cond (is_eq r) (Some e.1) (find R.compare key es)) p

  pub find_below : (key : K) (es : List (K × X)) → T (below_all R.compare key es) → find R.compare key es ≡ None
  find_below key [] below = refl
  find_below key (e ∷ es) below =
      ap (λ b. cond b (Some e.1) (find R.compare key es)) (less_is_no_tie (R.compare key e.0) (left_part _ _ below)) ∙ find_below key es (right_part _ _ below)

  pub find_head : (e : K × X) (es : List (K × X)) → find R.compare e.0 (e ∷ es) ≡ Some e.1
  find_head e es = find_tie e.0 e es Equal (tied_itself R.total e.0)

  -- what is found behind an entry isn't its key
  pub find_behind : (key : K) (value : X) (e : K × X) (es : List (K × X)) → T (is_sorted R.compare (e ∷ es)) → find R.compare key es ≡ Some value → find R.compare key (e ∷ es) ≡ Some value
  find_behind key value e es sorted found = at (R.compare key e.0) refl
    where
      at : (o : Ordering) → R.compare key e.0 ≡ o → find R.compare key (e ∷ es) ≡ Some value
      at Less p = find_tie key e es Less p ∙ found
      at Equal p =
          let none : find R.compare key es ≡ None = subst (λ k. find R.compare k es ≡ None) (sym (R.exact key e.0 p)) (find_below e.0 es (left_part _ _ sorted)) in
          cc
      at Greater p = find_tie key e es Greater p ∙ found

  -- some entry passes the test: it is found at its key
  pub found_from_any : (test : K × X → Bool) (es : List (K × X)) → T (is_sorted R.compare es) → list_any test es ≡ true → (key : K) × (value : X) × (find R.compare key es ≡ Some value) × (test (key, value) ≡ true)
  found_from_any test [] sorted any = cc
  found_from_any test (e ∷ es) sorted any =
      ⊎_elim
      (λ head. (e.0, e.1, find_head e es, head))
      (λ rest. let (key, value, found, passes) = found_from_any test es (right_part _ _ sorted) rest in (key, value, find_behind key value e es sorted found, passes))
      (or_cases (test e) (list_any test es) any)

  pub any_from_found : (test : K × X → Bool) (es : List (K × X)) (key : K) (value : X) → find R.compare key es ≡ Some value → test (key, value) ≡ true → list_any test es ≡ true
  any_from_found test [] key value found passes = cc
  any_from_found test (e ∷ es) key value found passes = at (R.compare key e.0) refl (any_from_found test es key value)
    where
      at : (o : Ordering) → R.compare key e.0 ≡ o → (find R.compare key es ≡ Some value → test (key, value) ≡ true → list_any test es ≡ true) → list_any test (e ∷ es) ≡ true
      at Less p rest = or_right (test e) (list_any test es) (rest (sym (find_tie key e es Less p) ∙ found) passes)
      at Equal p rest =
          let keys = R.exact key e.0 p in
          let values : value ≡ e.1 = cc (found, find_tie key e es Equal p) in
          or_left (test e) (list_any test es) (subst (λ x. test x ≡ true) (λ i. (keys i, values i)) passes)
      at Greater p rest = or_right (test e) (list_any test es) (rest (sym (find_tie key e es Greater p) ∙ found) passes)
