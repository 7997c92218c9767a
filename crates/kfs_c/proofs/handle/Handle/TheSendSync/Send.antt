-- What a handle owns says the same to every thread. Assumes nothing.
use Rattle.std.proofs.Common.{Bool}
use mir.Raw.{raw}
use base.Fraction.{full_share}
use base.Shift.{Keyless}
use denote.Memory.{lone}
use denote.RawPtr.{Ptr, block_ptr, null_ptr}
use denote.Param.Send.{IsSend, part_keyless}
use Rattle.std.specs.Prelude.{Option, None, Some}
use Rattle.std.proofs.Crossing.{frees}
use Rattle.kfs_c.proofs.Sent.{held_send}
use Rattle.kfs_c.specs.Handle.{the_held, handle_owns}
use Rattle.kfs_c.specs.declared.held.Held.{Held}
use Rattle.kfs_c.specs.contracts.handle.Handle.{the_row}

keyless : (full : Bool) (at : Ptr) (value : Option Held) → Keyless (handle_owns full at value)
keyless full at None = tt
keyless full null_ptr (Some held) = (tt, λ alloc. (tt, frees.frees alloc (raw (lone the_held.mir)) null_ptr))
keyless full (block_ptr b o) (Some held) =
    (tt, λ alloc. (part_keyless the_held held_send full_share held b o, frees.frees alloc (raw (lone the_held.mir)) (block_ptr b o)))

pub send : IsSend the_row
send = record { owned = λ h vs. ((λ vss. (tt, (tt, (tt, tt)))), keyless h.full h.at h.value); leaving = λ k d w. tt }
