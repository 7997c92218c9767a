-- What files stand for while frames are served.
use Rattle.std.specs.Prelude.{◌≡◌, List, ◌++◌}
use Rattle.kfs_desk.specs.Machine.{Desk}
use Rattle.kfs_journal.specs.Disk.{Files}
use Rattle.kfs_kept.specs.Standing.{StandFor}
use Rattle.kfs_server.specs.Frames.Frame.{Frame}
use Rattle.kfs_server.specs.Replies.Reply.{Reply}
use Rattle.kfs_server.specs.Serving.Machine.{Serves}

-- the files stand for the state after some of the frames, in their order, none skipped and none in part
pub record StandForSome (desk : Desk) (frames : List Frame) (files : Files) : Type 0 where
  pub done : List Frame
  pub later : List Frame
  pub parts : frames ≡ done ++ later
  pub replies : List Reply
  pub last : Desk
  pub served : Serves desk done replies last
  pub stand : StandFor files last.state
