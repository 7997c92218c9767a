use Rattle.std.proofs.Common.{◌≡◌, ◌++◌, ℕ, List, length}
use Rattle.std.specs.Io.KnownBytes.{Appends}
use Rattle.kfs_program_text.specs.HeldOutput.{contents_with}
use Rattle.kfs_program.specs.Engine.Progress.{HasAnsweredSoFar}
use Rattle.kfs_program.proofs.sessions.session_loop.SessionLoop.take.Given as goal

abbrev pub invariant-lines : goal.invariant-lines
invariant-lines g l =
    (more : List ℕ) × Appends (contents_with g.W.Write.contents l.fn.writer) (contents_with g.W.Write.contents l.writer) more
    × ((input text : List ℕ) → HasAnsweredSoFar l.fn.self l.fn.bytes input text → HasAnsweredSoFar l.self l.rest input (text ++ more))
    × (l.writer.first ≡ l.fn.writer.first)

abbrev pub decreases-lines : goal.decreases-lines
decreases-lines g l = length l.rest
