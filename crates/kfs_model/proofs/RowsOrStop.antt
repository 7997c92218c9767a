-- Of bytes it is settled whether so many rows stand at their front.
use Rattle.std.proofs.Common.{◌≡◌, ◌⊎◌, ℕ, zero, suc, ◌<◌, List, [], ◌∷◌, ◌++◌, Option, Some, None, refl, sym, ap, ◌∙◌, append_assoc, arith, inl, inr}
use Rattle.std.specs.List.{flat_map}
use Rattle.kfs_model.specs.Spelling.{IsBytes, BeginsWithNo, BeginsWithRows, LacksRow}
use Rattle.kfs_model.proofs.Fields.{IsField}

module _ {V : Type 0} {F : V → Type 0} {s : V → List ℕ} {r : List ℕ → Option (V × List ℕ)} (field : IsField F s r) where
  -- where none is read, none begins
  pub begins_with_none : (bytes : List ℕ) → r bytes ≡ None → BeginsWithNo F s bytes
  begins_with_none bytes is = λ begins. let again : r bytes ≡ Some (begins.0, begins.1) = ap r begins.3 ∙ field.again begins.0 begins.1 begins.2 in cc

  abbrev pub RowsOrStop : ℕ → List ℕ → Type 0
  RowsOrStop count bytes = ((rest : List ℕ) × BeginsWithRows F s count bytes rest) ⊎ ((k : ℕ) × LacksRow F s count k bytes)

  no_row : (bytes : List ℕ) → BeginsWithRows F s 0 bytes bytes
  no_row bytes = record { rows = []; number = refl; are = record { fit = tt; spelled = refl } }

  row_before : (count : ℕ) (row : V) (bytes rest end : List ℕ) → F row → bytes ≡ s row ++ rest → BeginsWithRows F s count rest end → BeginsWithRows F s (suc count) bytes end
  row_before count row bytes rest end fits parts stand = record {
    rows = row ∷ stand.rows;
    number = ap suc stand.number;
    are = record {
      fit = (fits, stand.are.fit);
      spelled = parts ∙ ap (λ (l : List ℕ). s row ++ l) stand.are.spelled ∙ sym (append_assoc (s row) (flat_map s stand.rows) end);
    };
  }

  -- so many rows stand, or they stop before
  pub rows_or_stop : (count : ℕ) (bytes : List ℕ) → IsBytes bytes → RowsOrStop count bytes
  rows_or_stop zero bytes are = inl (bytes, no_row bytes)
  rows_or_stop (suc count) bytes are = by_row (rows_or_stop count) (r bytes) refl
    where
      by_row : ((rest : List ℕ) → IsBytes rest → RowsOrStop count rest) → (found : Option (V × List ℕ)) → r bytes ≡ found → RowsOrStop (suc count) bytes
      by_row behind None is = let fewer : 0 < suc count = omega arith in inr (0, record { rest = bytes; before = no_row bytes; fewer = fewer; none = begins_with_none bytes is })
      by_row behind (Some x) is =
          let first = field.takes bytes x are is in
          elim (behind x.1 first.rest_bytes) [
            | inl stand ↦ inl (stand.0, row_before count x.0 bytes x.1 stand.0 first.fits first.parts stand.1)
            | inr stop ↦
                let here = stop.1 in
                let fewer : suc stop.0 < suc count = let less : stop.0 < count = here.fewer in omega arith in
                inr (suc stop.0, record { rest = here.rest; before = row_before stop.0 x.0 bytes x.1 here.rest first.fits first.parts here.before; fewer = fewer; none = here.none })
          ]
