-- Values that are written as fields, one after another, and what a decoder of them answers.
use Rattle.std.specs.Prelude.{◌≡◌, ◌≢◌, ℕ, suc, ◌<◌, ◌≤◌, List, [], ◌∷◌, ◌++◌, length, take, Result, Ok, Err}

-- the fields one after another
abbrev pub joined : List (List ℕ) → List ℕ
joined [] = []
joined (field ∷ fields) = field ++ joined fields

-- the bytes begin with the first k fields of such a value
abbrev pub BeginsWithFields : {V : Type 0} → (V → Type 0) → (V → List (List ℕ)) → (k : ℕ) → List ℕ → Type 0
BeginsWithFields {V} Fits fields k bytes =
    (value : V) × (rest : List ℕ) × Fits value × (k ≤ length (fields value)) × (bytes ≡ joined (take k (fields value)) ++ rest)

-- k fields stand at the front, of a value that has more, and k + 1 fields of no value do
pub record LacksField {V : Type 0} (Fits : V → Type 0) (fields : V → List (List ℕ)) (k : ℕ) (bytes : List ℕ) : Type 0 where
  pub value : V
  pub rest : List ℕ
  pub fits : Fits value
  pub more : k < length (fields value)
  pub before : bytes ≡ joined (take k (fields value)) ++ rest
  pub none : BeginsWithFields Fits fields (suc k) bytes → ⊥

-- why bytes are no such value
pub data LayoutFault : Type 0 where
  -- k fields were read, and the next one isn't there
  BadField : (k : ℕ) → LayoutFault
  -- a value was read, and bytes remain
  Trailing : LayoutFault

-- the decoder's answer to these bytes, case by case: a value; a value and more bytes; k fields, then not
-- the next one
abbrev pub Answer : {V : Type 0} → (V → Type 0) → (V → List (List ℕ)) → List ℕ → Result V LayoutFault → Type 0
Answer Fits fields bytes (Ok value) = Fits value × (bytes ≡ joined (fields value))
Answer {V} Fits fields bytes (Err Trailing) = (value : V) × (more : List ℕ) × Fits value × (more ≢ []) × (bytes ≡ joined (fields value) ++ more)
Answer Fits fields bytes (Err (BadField k)) = LacksField Fits fields k bytes
