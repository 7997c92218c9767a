-- Each word that is left is read in turn.
use Rattle.std.proofs.Common.{length}
use Rattle.kfs_program_text.specs.Reading.{words_left}
use Rattle.kfs_program_text.proofs.NumbersRead.{AreRead}
use Rattle.kfs_program_text.proofs.words.Words.numbers.Given as goal

abbrev pub invariant-loop-numbers : goal.invariant-loop-numbers
invariant-loop-numbers g l = AreRead g.row.N (words_left l.initial.self) (words_left l.self) l.numbers.items

abbrev pub decreases-loop-numbers : goal.decreases-loop-numbers
decreases-loop-numbers g l = length (words_left l.self)
