-- What the code read, in the terms of a reader of bytes, and what it answered.
use Rattle.std.specs.Prelude.{◌≡◌, ℕ, List, drop, Result, Ok, Err}
use Rattle.kfs_call.specs.Layout.{LayoutFault, BadField, Trailing}
use Rattle.kfs_call.specs.declared.fault.FieldFault.{FieldFault}
use Rattle.kfs_call.specs.declared.fault.FieldFault.TheVariants as faults

-- the code found at the source's bytes what the reader finds: the value and the bytes behind it, or the
-- field that is missing; or memory ran out
abbrev pub IsSeen : {V M : Type 0} → (V → M) → List ℕ → Result (V × ℕ) FieldFault → Result (M × List ℕ) ℕ → Type 0
IsSeen view source (Ok x) read = read ≡ Ok (view x.0, drop x.1 source)
IsSeen view source (Err (faults.BadField k)) read = read ≡ Err k
IsSeen view source (Err faults.Trailing) read = ⊥
IsSeen view source (Err faults.OutOfMemory) read = Unit {0}

-- P holds of the answer, unless it is that memory ran out
abbrev pub OnAnswer : {V M : Type 0} → (V → M) → (Result M LayoutFault → Type 0) → Result V FieldFault → Type 0
OnAnswer view P (Ok v) = P (Ok (view v))
OnAnswer view P (Err (faults.BadField k)) = P (Err (BadField k))
OnAnswer view P (Err faults.Trailing) = P (Err Trailing)
OnAnswer view P (Err faults.OutOfMemory) = Unit {0}
