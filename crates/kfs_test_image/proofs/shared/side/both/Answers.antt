use denote.Param.Send.{IsSend, param_send, arg_send}
use Rattle.std.proofs.Crossing as std
use Rattle.std.specs.contracts.alloc.Global as Heap
use Rattle.std.specs.contracts.impls.GlobalAllocator.TheImpl.{ghosts}
use Rattle.kfs_desk.specs.contracts.desk.Desk as Desk
use Rattle.kfs_desk.proofs.Sent.{desk_send}
use Rattle.kfs_test_image.proofs.shared.side.both.Goals as goal

this_desk_send : IsSend (Desk.the_row Heap.the_row ghosts)
this_desk_send = desk_send Heap.the_row ghosts std.send std.sync std.frees

pub side_by_side-requires-send-D : goal.side_by_side-requires-send-D
side_by_side-requires-send-D g c = search (this_desk_send, param_send, arg_send) depth 6
