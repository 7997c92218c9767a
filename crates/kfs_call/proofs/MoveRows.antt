-- Moves that were read one after another, and those that are left.
use Rattle.std.proofs.Common.{◌≡◌, ℕ, suc, ◌+◌, ◌-◌, ◌<◌, ◌≤◌, List, [], ◌∷◌, ◌++◌, map, Option, Some, None, Result, Ok, Err, refl, sym, ap, ◌∙◌, append_assoc, append-nil, arith}
use Rattle.std.specs.List.{flat_map}
use Rattle.kfs_call.specs.Layout.{joined}
use Rattle.kfs_call.specs.Readers.{made_of, step, with_option, rows_at}

module _ {V : Type 0} (r : List ℕ → Option (V × List ℕ)) where
  -- what is left, behind the rows that were read
  abbrev pub after : List V → Result (List V × List ℕ) ℕ → Result (List V × List ℕ) ℕ
  after rows left = made_of (λ more. rows ++ more) left

  after_none : (left : Result (List V × List ℕ) ℕ) → left ≡ after [] left
  after_none (Ok x) = refl
  after_none (Err k) = refl

  pub rows_begin : (n count : ℕ) (bytes : List ℕ) → rows_at r n count bytes ≡ after [] (rows_at r (n + 0) (count - 0) bytes)
  rows_begin n count bytes =
      let same : rows_at r (n + 0) (count - 0) bytes ≡ rows_at r n count bytes =
      let a : n + 0 ≡ n = omega arith in let b : count - 0 ≡ count = omega arith in
      ap (λ (m : ℕ). rows_at r m (count - 0) bytes) a ∙ ap (λ (m : ℕ). rows_at r n m bytes) b in
      after_none (rows_at r n count bytes) ∙ ap (after []) (sym same)

  -- one row and those behind it
  one_more : (rows : List V) (row : V) (left : Result (List V × List ℕ) ℕ) → after rows (made_of (λ (x : V × List V). x.0 ∷ x.1) (made_of (λ (y : List V). (row, y)) left)) ≡ after (rows ++ row ∷ []) left
  one_more rows row (Ok x) = ap (λ (l : List V). Ok (l, x.1)) (sym (append_assoc rows (row ∷ []) x.0))
  one_more rows row (Err k) = refl

  counted : (n k count : ℕ) (bytes : List ℕ) → k < count → rows_at r (n + k) (count - k) bytes ≡ made_of (λ (x : V × List V). x.0 ∷ x.1) (step (n + k) r (λ row. rows_at r (n + (k + 1)) (count - (k + 1))) bytes)
  unfolding rows_at
  counted n k count bytes lt =
      let a : count - k ≡ suc (count - (k + 1)) = omega arith in
      let b : suc (n + k) ≡ n + (k + 1) = omega arith in
      ap (λ (m : ℕ). rows_at r (n + k) m bytes) a ∙ ap (λ (m : ℕ). made_of (λ (x : V × List V). x.0 ∷ x.1) (step (n + k) r (λ row. rows_at r m (count - (k + 1))) bytes)) b

  pub rows_turn : (n k count : ℕ) (rows : List V) (row : V) (bytes rest : List ℕ) (whole : Result (List V × List ℕ) ℕ) → k < count → r bytes ≡ Some (row, rest)
      → whole ≡ after rows (rows_at r (n + k) (count - k) bytes) → whole ≡ after (rows ++ row ∷ []) (rows_at r (n + (k + 1)) (count - (k + 1)) rest)
  rows_turn n k count rows row bytes rest whole lt is before =
      before ∙ ap (after rows) (counted n k count bytes lt)
      ∙ ap (λ (o : Option (V × List ℕ)). after rows (made_of (λ (x : V × List V). x.0 ∷ x.1) (with_option o (Err (n + k)) (λ (x : V × List ℕ). made_of (λ (y : List V). (x.0, y)) (rows_at r (n + (k + 1)) (count - (k + 1)) x.1))))) is
      ∙ one_more rows row (rows_at r (n + (k + 1)) (count - (k + 1)) rest)

  pub rows_stop : (n k count : ℕ) (rows : List V) (bytes : List ℕ) (whole : Result (List V × List ℕ) ℕ) → k < count → r bytes ≡ None
      → whole ≡ after rows (rows_at r (n + k) (count - k) bytes) → whole ≡ Err (n + k)
  rows_stop n k count rows bytes whole lt is before =
      before ∙ ap (after rows) (counted n k count bytes lt)
      ∙ ap (λ (o : Option (V × List ℕ)). after rows (made_of (λ (x : V × List V). x.0 ∷ x.1) (with_option o (Err (n + k)) (λ (x : V × List ℕ). made_of (λ (y : List V). (x.0, y)) (rows_at r (n + (k + 1)) (count - (k + 1)) x.1))))) is

  pub rows_end : (n k count : ℕ) (rows : List V) (bytes : List ℕ) (whole : Result (List V × List ℕ) ℕ) → count ≤ k
      → whole ≡ after rows (rows_at r (n + k) (count - k) bytes) → whole ≡ Ok (rows, bytes)
  unfolding rows_at
  rows_end n k count rows bytes whole le before =
      let none : count - k ≡ 0 = omega arith in
      before ∙ ap (λ (m : ℕ). after rows (rows_at r (n + k) m bytes)) none ∙ ap (λ (l : List V). Ok (l, bytes)) (append-nil rows)

-- rows as fields, one after another
pub joined-map : {V : Type 0} (s : V → List ℕ) (rows : List V) → joined (map s rows) ≡ flat_map s rows
joined-map s [] = refl
joined-map s (row ∷ rows) = ap (λ (l : List ℕ). s row ++ l) (joined-map s rows)
