-- Reads with their answers that contracts alone see.
use Rattle.kfs_judge_reads.specs.declared.reads.Read.{Read}
use Rattle.kfs_judge_reads.specs.declared.reads.ReadAnswer.{ReadAnswer}
use Rattle.kfs_judge_reads.specs.declared.record.Seen.{Seen}
use Rattle.kfs_judge_reads.specs.declared.record.Seen.TheVariants as seens

-- the read with its answer
abbrev pub pair_in : {A : Type 0} → Seen A → Read × ReadAnswer
pair_in (seens.Kept read answer) = (read.value, answer.value)
pair_in (seens.Name read answer) = (read.value, answer.value)
