-- What was read is what was to be read.
use Rattle.std.proofs.Common.{◌≡◌, Option, Some, None, Result, Ok, Err}
use Rattle.std.specs.Prelude.{IfOk, IsErrOf}
use Rattle.kfs_program_text.specs.Reading.{ReadsAs}
use Rattle.kfs_program_text.specs.declared.words.Refusal.{Refusal}
use Rattle.kfs_program_text.specs.declared.words.Refusal.TheVariants.{BadLine}

pub read_ok : {T V : Type 0} (view : T → V) (expected : Option V) (r : Result T Refusal) → ReadsAs view expected r → IfOk r (λ x. expected ≡ Some (view x))
read_ok view expected (Ok x) is = is
read_ok view expected (Err refusal) is = tt

pub read_bad : {T V : Type 0} (view : T → V) (expected : Option V) (r : Result T Refusal) → ReadsAs view expected r → IsErrOf r BadLine → expected ≡ None
read_bad view expected (Ok x) is err = cc
read_bad view expected (Err refusal) is err = is cc
