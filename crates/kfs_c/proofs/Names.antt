-- A directory's least name after some bytes. A name has bytes, so each comes after none.
use Rattle.std.proofs.Common.{◌≡◌, inl, inr, ℕ, List, [], ◌∷◌, length, arith, refl, subst, Option, Some, None}
use Rattle.std.specs.Borrow.{Bor}
use Rattle.std.specs.Prelude.{IfSome}
use Rattle.kfs_model.specs.Spelling.{IsName}
use Rattle.kfs_model.specs.Tree.{NameTable, target}
use Rattle.kfs_image_nodes.specs.Look.{IsAfter, IsNext}
use Rattle.kfs_c.specs.Reading.{HasNoNameAfter, IsLater, IsNextName, IsStart}

is_later : (after name : List ℕ) → length after ≡ 0 → IsName name → IsLater after name
is_later [] [] none is = let some = is.some in absurd (omega (arith, some))
is_later [] (byte ∷ bytes) none is = refl
is_later (byte ∷ bytes) name none is = absurd (omega (arith, none))

no_bytes : {X : Type 0} (after : List ℕ) → IsStart after → (IsName after → ⊥) → (length after ≡ 0 → X) → X
no_bytes after (inl none) other next = next none
no_bytes after (inr name) other next = absurd (other name)

module _ (names : NameTable) (directory : ℕ) (after : List ℕ) where
  -- where the bytes are no name
  module _ (one : IsStart after) (other : IsName after → ⊥) where
    first : (name : List ℕ) (number : ℕ) → IsName name → IsNext names directory None name number → IsNextName names directory after name number
    first name number is next =
        no_bytes after one other (λ none. record { leads = next.leads; later = is_later after name none is; least = λ m n leads _. next.least m n leads tt })

    -- each name of the directory is one
    pub first_found : ((name : List ℕ) (number : ℕ) → target names directory name ≡ Some number → IsName name) → (found : Option (Bor (List ℕ) × ℕ))
        → IfSome found (λ p. IsNext names directory None p.0.now p.1) → IfSome found (λ p. IsNextName names directory after p.0.now p.1)
    first_found spelled None next = tt
    first_found spelled (Some p) next = first p.0.now p.1 (spelled p.0.now p.1 next.leads) next

    pub none_first : ((m : List ℕ) (n : ℕ) → target names directory m ≡ Some n → IsAfter None m → ⊥) → HasNoNameAfter names directory after
    none_first none m n leads _ = none m n leads tt

  -- where they are one
  module _ (before : Bor (List ℕ)) (is : before.now ≡ after) where
    pub later : (name : List ℕ) (number : ℕ) → IsNext names directory (Some before) name number → IsNextName names directory after name number
    later name number next = subst (λ bytes. IsNextName names directory bytes name number) is (record { leads = next.leads; later = next.later; least = next.least })

    pub none_later : ((m : List ℕ) (n : ℕ) → target names directory m ≡ Some n → IsAfter (Some before) m → ⊥) → HasNoNameAfter names directory after
    none_later none = subst (HasNoNameAfter names directory) is none
