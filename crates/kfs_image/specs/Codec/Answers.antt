-- What the decoder of images answered, in terms of the definitions.
use Rattle.std.specs.Prelude.{◌≡◌, ℕ, ◌+◌, List, Result, Ok, Err}
use Rattle.kfs_model.specs.Spelling.{LacksRowBy}
use Rattle.kfs_model.specs.Device.Spelling.{ImageSpellingFault, BadImageHeader, ImageTrailing, BadImageRow}
use Rattle.kfs_image.specs.declared.codec.fault.ImageFault.{ImageFault}
use Rattle.kfs_image.specs.declared.codec.fault.ImageFault.TheVariants as faults

-- the fault is right: the rows of a part stop at the index that it names, counted with the earlier parts'
-- rows, or memory ran out
abbrev pub ImageRowMissing : {R : Type 0} → (R → Type 0) → (R → List ℕ) → (List ℕ → Type 0) → (earlier count : ℕ) → List ℕ → ImageFault → Type 0
ImageRowMissing fits spelling begins earlier count bytes (faults.BadImageRow k) = (in_part : ℕ) × (k ≡ earlier + in_part) × LacksRowBy fits spelling begins count in_part bytes
ImageRowMissing fits spelling begins earlier count bytes faults.OutOfMemory = Unit {0}
ImageRowMissing fits spelling begins earlier count bytes faults.BadImageHeader = ⊥
ImageRowMissing fits spelling begins earlier count bytes faults.ImageTrailing = ⊥

-- P holds of the refusal, unless it is that memory ran out
abbrev pub OnImageRefusal : {M : Type 0} → (Result M ImageSpellingFault → Type 0) → ImageFault → Type 0
OnImageRefusal P faults.BadImageHeader = P (Err BadImageHeader)
OnImageRefusal P (faults.BadImageRow k) = P (Err (BadImageRow k))
OnImageRefusal P faults.ImageTrailing = P (Err ImageTrailing)
OnImageRefusal P faults.OutOfMemory = Unit {0}

-- P holds of the answer, unless it is that memory ran out
abbrev pub OnImageAnswer : {V M : Type 0} → (V → M) → (Result M ImageSpellingFault → Type 0) → Result V ImageFault → Type 0
OnImageAnswer view P (Ok v) = P (Ok (view v))
OnImageAnswer view P (Err fault) = OnImageRefusal P fault
