-- What a handle may hold may go from thread to thread: all that it is made of may.
use Rattle.std.proofs.Common.{rules}
use denote.Param.Send.{IsSend, view_send}
use denote.Param.SendFields.{declared_send, variants_send}
use Rattle.std.proofs.Crossing as std
use Rattle.std.specs.contracts.alloc.Global as Heap
use Rattle.std.specs.contracts.impls.GlobalAllocator.TheImpl.{ghosts}
use Rattle.kfs_judge_reads.proofs.view.View.TheSendSync as view
use Rattle.kfs_plan.specs.contracts.judged.Judged as Judged
use Rattle.kfs_plan.proofs.judged.Judged.TheSendSync as judged
use Rattle.kfs_desk.proofs.Sent.{desk_send}
use Rattle.kfs_desk.specs.contracts.verdict.desk_view.DeskView as DeskView
use Rattle.kfs_c.specs.contracts.held.Held as Held

-- a view of a desk, and a claim about it that has no bytes
pub look_send : IsSend (DeskView.the_row Heap.the_row ghosts)
look_send =
    view_send _ _ _ _ _ (declared_send (DeskView.TheInside.the_type Heap.the_row ghosts)
    (view.the_send Heap.the_row ghosts std.send std.sync std.frees, (search rules depth 40 fits 4000, tt)))

pub judged_send : IsSend (Judged.the_row Heap.the_row ghosts)
judged_send = judged.the_send Heap.the_row ghosts std.send std.frees

-- one of the three
pub held_send : IsSend Held.the_row
held_send = variants_send Held.enum ((desk_send Heap.the_row ghosts std.send std.sync std.frees, tt), ((look_send, tt), ((judged_send, tt), tt)))
