use Rattle.std.proofs.Common.{◌≡◌, ℕ, ◌+◌, ◌≤◌, List, ◌++◌, length, vec_len, vec_capacity}
use Rattle.kfs_server.specs.Frames.Begun.{AreReadTo, IsBegun, IsPending}
use Rattle.kfs_server.proofs.frames.reader.FrameReader.take.Given as goal

abbrev pub invariant-pieces : goal.invariant-pieces
invariant-pieces g l = record {
  begun : IsBegun l.self.begun;
  read : (came : List ℕ) → IsPending l.fn.self.begun came → AreReadTo l.rest (came ++ l.fn.piece) l.out.items l.self.begun;
  room : vec_len l.out + length l.rest ≤ vec_capacity l.out;
  few : vec_len l.out + length l.rest ≤ length l.fn.piece;
  capacity : vec_capacity l.out ≡ vec_capacity l.fn.out;
}

abbrev pub decreases-pieces : goal.decreases-pieces
decreases-pieces g l = length l.rest
