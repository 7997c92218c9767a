-- Each word that is left is read in turn.
use Rattle.std.proofs.Common.{length}
use Rattle.kfs_program_text.specs.Reading.{words_left}
use Rattle.kfs_program_text.proofs.MovesRead.{AreMoves}
use Rattle.kfs_program_text.proofs.command.moves_left.Given as goal

abbrev pub invariant-loop-moves : goal.invariant-loop-moves
invariant-loop-moves g l = AreMoves (words_left l.initial.words) (words_left l.words) l.moves.items

abbrev pub decreases-loop-moves : goal.decreases-loop-moves
decreases-loop-moves g l = length (words_left l.words)
