-- The code's refusals as those of the definitions.
use Rattle.std.specs.Prelude.{◌≡◌, Option, Some, None, IfSome}
use Rattle.kfs_model.specs.Migration as model
use Rattle.kfs_types.specs.declared.moves.moves.MoveFault.{MoveFault}
use Rattle.kfs_types.specs.declared.moves.moves.MoveFault.TheVariants.{NotMapped, OutOfRange, NotFree, Overlap, TooManyMoves, OutOfMemory}

-- the refusal, or none where memory ran out
abbrev pub fault_of : MoveFault → Option model.MoveFault
fault_of (NotMapped index) = Some (model.NotMapped index)
fault_of (OutOfRange index) = Some (model.OutOfRange index)
fault_of (NotFree index) = Some (model.NotFree index)
fault_of (Overlap index) = Some (model.Overlap index)
fault_of TooManyMoves = Some model.TooManyMoves
fault_of OutOfMemory = None

-- this is the refusal that was found, unless memory ran out
abbrev pub Refuses : (found : Option model.MoveFault) → MoveFault → Type 0
Refuses found fault = IfSome (fault_of fault) (λ refusal. found ≡ Some refusal)
