use Rattle.std.proofs.Common.{◌≡◌, ℕ, List, []}
use Rattle.std.specs.Io.KnownBytes.{Appends, Consumes}
use Rattle.kfs_program_text.specs.HeldOutput.{contents_with}
use Rattle.kfs_program.specs.Engine.Progress.{HasAnsweredSoFar}
use Rattle.kfs_program.proofs.sessions.answer_all.Given as goal

abbrev pub invariant-reads : goal.invariant-reads
invariant-reads g l =
    (input : List ℕ) × (text : List ℕ) × Consumes (g.I.Read.remaining l.fn.reader) (g.I.Read.remaining l.reader) input × Appends (contents_with g.O.Write.contents l.fn.writer) (contents_with g.O.Write.contents l.writer) text
    × HasAnsweredSoFar l.session_loop [] input text × (l.writer.first ≡ l.fn.writer.first)
