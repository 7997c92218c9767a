-- Why calls that lead on aren't made again.
use Rattle.kfs_kept.specs.declared.calls.fault.AgainFault.{AgainFault}
use Rattle.kfs_kept.specs.declared.calls.fault.AgainFault.TheVariants.{BadGroup, Differs, DocketFull, OutOfMemory}

-- room was wanting: in the docket, or in memory
abbrev pub WantsRoom : AgainFault → Type 0
WantsRoom BadGroup = ⊥
WantsRoom Differs = ⊥
WantsRoom DocketFull = Unit {0}
WantsRoom OutOfMemory = Unit {0}
