-- What holds of each answer holds of the code's.
use Rattle.std.specs.Prelude.{Result, Ok, Err}
use Rattle.kfs_model.specs.Spelling.{SpellingFault, BadHeader, BadEntry, Trailing, BadRow}
use Rattle.kfs_entry.specs.declared.fault.SpellFault.{SpellFault}
use Rattle.kfs_entry.specs.declared.fault.SpellFault.TheVariants as faults
use Rattle.kfs_entry.specs.Answers.{OnRefusal, OnAnswer}

Refused-weaker : {M : Type 0} (P Q : Result M SpellingFault → Type 0) → ((a : Result M SpellingFault) → P a → Q a) → (fault : SpellFault) → OnRefusal P fault → OnRefusal Q fault
Refused-weaker P Q f faults.BadHeader h = f (Err BadHeader) h
Refused-weaker P Q f (faults.BadEntry k) h = f (Err (BadEntry k)) h
Refused-weaker P Q f faults.Trailing h = f (Err Trailing) h
Refused-weaker P Q f (faults.BadRow part k) h = f (Err (BadRow part k)) h
Refused-weaker P Q f faults.OutOfMemory h = tt

pub Answered-weaker : {V M : Type 0} (view : V → M) (P Q : Result M SpellingFault → Type 0) → ((a : Result M SpellingFault) → P a → Q a) → (result : Result V SpellFault) → OnAnswer view P result → OnAnswer view Q result
Answered-weaker view P Q f (Ok v) h = f (Ok (view v)) h
Answered-weaker view P Q f (Err fault) h = Refused-weaker P Q f fault h
