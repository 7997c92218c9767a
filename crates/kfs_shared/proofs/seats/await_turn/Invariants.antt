use Rattle.std.proofs.Common.{◌≡◌}
use Rattle.kfs_shared.proofs.seats.await_turn.Given as goal

-- the seat is as it was
abbrev pub invariant-loop : goal.invariant-loop
invariant-loop g l = (l.seat.table_id ≡ l.initial.seat.table_id) × (l.seat.id ≡ l.initial.seat.id) × (l.seat.me ≡ l.initial.seat.me)
