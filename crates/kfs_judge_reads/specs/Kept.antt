-- The reads of a judgement with their answers, and whether they are kept.
use Rattle.std.specs.Prelude.{Bool, true, false, List}
use Rattle.kfs_judge_reads.specs.declared.record.Keeping.{Keeping}
use Rattle.kfs_judge_reads.specs.declared.record.Keeping.TheVariants.{Reads, Nothing}
use Rattle.kfs_judge_reads.specs.declared.reads.Read.{Read}
use Rattle.kfs_judge_reads.specs.declared.reads.ReadAnswer.{ReadAnswer}

pub record ReadsShown : Type 0 where
  pub keeps : Bool
  pub entries : List (Read × ReadAnswer)

abbrev pub keeps_reads : Keeping → Bool
keeps_reads Reads = true
keeps_reads Nothing = false
