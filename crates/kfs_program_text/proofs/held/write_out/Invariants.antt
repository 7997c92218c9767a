use Rattle.std.proofs.Common.{◌≤◌, length, take}
use Rattle.std.specs.Io.KnownBytes.{Appends}
use Rattle.kfs_program_text.proofs.held.write_out.Given as goal

abbrev pub invariant-writes : goal.invariant-writes
invariant-writes g l = (l.count ≤ length l.fn.bytes) × Appends (g.W.Write.contents l.fn.writer) (g.W.Write.contents l.writer) (take l.count l.fn.bytes)
