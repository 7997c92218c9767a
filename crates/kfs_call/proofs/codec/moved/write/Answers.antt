use Rattle.kfs_call.specs.Call.{move_bytes}
use Rattle.kfs_call.proofs.MoveRows.{joined-map}
use Rattle.kfs_call.proofs.codec.moved.write.Goals as goal

pub returns : goal.returns
returns g c = rw (joined-map move_bytes c.args.moves.now) c.write_moves.ensures
