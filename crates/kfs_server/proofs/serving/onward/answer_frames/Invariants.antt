use Rattle.std.proofs.Common.{◌≤◌, List, length, IsTrue}
use Rattle.std.specs.List.{AllZip}
use Rattle.kfs_kept.specs.Keeping.{IsKept}
use Rattle.kfs_server.specs.Frames.Begun.{IsFrameOf}
use Rattle.kfs_server.specs.Frames.Frame.{Frame}
use Rattle.kfs_server.specs.Serving.Onward.{IsServedOn}
use Rattle.kfs_server.specs.Serving.Room.{IsUnsaid}
use Rattle.kfs_server.proofs.serving.onward.answer_frames.Given as goal

abbrev pub invariant-frames : goal.invariant-frames
invariant-frames g l = record {
  kept : IsKept g.D.Disk.seen g.D.Disk.may_leave l.kept;
  is_open : IsTrue l.kept.is_open;
  few : length l.rest ≤ 65536;
  unsaid : IsUnsaid l.said;
  served : (all : List Frame) → AllZip IsFrameOf l.fn.frames all → IsServedOn g.D.Disk.may_leave g.D.Disk.moment g.D.Disk.left_since (g.O.Write.contents l.fn.writer) (g.O.Write.contents l.writer) l.fn.kept l.kept all l.rest;
}

abbrev pub decreases-frames : goal.decreases-frames
decreases-frames g l = length l.rest
