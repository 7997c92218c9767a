-- What a memory of answers holds.
use Rattle.std.specs.Prelude.{◌≡◌, ◌⊎◌, Some}
use Rattle.kfs_judge_reads.specs.declared.looks.Recall.{Recall}

-- the memory has this answer to the question
abbrev pub Holds : {K V : Type 0} → Recall K V → K → V → Type 0
Holds recall key value = (recall.last ≡ Some (key, value)) ⊎ (recall.before ≡ Some (key, value))
