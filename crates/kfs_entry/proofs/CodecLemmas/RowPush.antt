-- Rows one after another: one row more.
use Rattle.std.proofs.Common.{◌≡◌, ℕ, List, [], ◌∷◌, ◌++◌, refl, sym, ap, ◌∙◌, append_assoc}
use Rattle.std.specs.List.{flat_map, AllByRecursion}
use Rattle.std.proofs.lemmas.List.{flat_map_more}
use Rattle.kfs_model.specs.Spelling.{AreRows}

pub AllByRecursion-push : {R : Type 0} (P : R → Type 0) (rows : List R) (row : R) → AllByRecursion P rows → P row → AllByRecursion P (rows ++ row ∷ [])
AllByRecursion-push P [] row all here = (here, tt)
AllByRecursion-push P (first ∷ rows) row all here = (all.0, AllByRecursion-push P rows row all.1 here)

pub no_rows : {R : Type 0} (fits : R → Type 0) (spelling : R → List ℕ) (bytes : List ℕ) → AreRows fits spelling [] bytes bytes
no_rows fits spelling bytes = record { fit = tt; spelled = refl }

pub AreRows-push : {R : Type 0} (fits : R → Type 0) (spelling : R → List ℕ) (rows : List R) (row : R) (bytes middle rest : List ℕ)
    → AreRows fits spelling rows bytes middle → fits row → middle ≡ spelling row ++ rest → AreRows fits spelling (rows ++ row ∷ []) bytes rest
AreRows-push fits spelling rows row bytes middle rest before fit next = record {
  fit = AllByRecursion-push fits rows row before.fit fit;
  spelled = before.spelled ∙ ap (λ (l : List ℕ). flat_map spelling rows ++ l) next ∙ sym (append_assoc (flat_map spelling rows) (spelling row) rest)
      ∙ ap (λ (l : List ℕ). l ++ rest) (flat_map_more spelling [] rows row);
}
