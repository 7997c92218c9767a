use Rattle.std.proofs.Common.{ℕ, List, IsTrue}
use Rattle.std.specs.Io.KnownBytes.{Appends, Consumes}
use Rattle.kfs_kept.specs.Keeping.{IsKept}
use Rattle.kfs_server.specs.Frames.Begun.{IsBegun}
use Rattle.kfs_server.specs.Serving.Room.{IsRoom}
use Rattle.kfs_server.proofs.ServingLemmas.Sessions.{IsAnsweredTo}
use Rattle.kfs_server.proofs.serving.session.serve_by_chunks.Given as goal

abbrev pub invariant-reads : goal.invariant-reads
invariant-reads g l = record {
  kept : IsKept g.D.Disk.seen g.D.Disk.may_leave l.kept;
  is_open : IsTrue l.kept.is_open;
  room : IsRoom l.room;
  begun : IsBegun l.frames.begun;
  session : (input : List ℕ) × (text : List ℕ) × Consumes (g.I.Read.remaining l.fn.reader) (g.I.Read.remaining l.reader) input × Appends (g.O.Write.contents l.fn.writer) (g.O.Write.contents l.writer) text
      × IsAnsweredTo g.D.Disk.may_leave g.D.Disk.moment g.D.Disk.left_since l.fn.kept l.kept l.frames.begun input text;
}
