use Rattle.std.proofs.Common.{◌≡◌, List, ℕ, ◌++◌}
use Rattle.std.specs.Io.KnownBytes.{Consumes}
use Rattle.kfs_program.specs.Lines.{IsBegun}
use Rattle.kfs_program.proofs.input.read_by_chunks.Given as goal

-- all that was read continues the line
abbrev pub invariant-reads : goal.invariant-reads
invariant-reads g l =
    (input : List ℕ) × Consumes (g.I.Read.remaining l.fn.reader) (g.I.Read.remaining l.reader) input × (l.line.items ≡ l.fn.line.items ++ input) × IsBegun l.line.items l.left.items
