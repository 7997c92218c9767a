use Rattle.std.proofs.Common.{◌≡◌, ◌<◌}
use Rattle.kfs_shared.proofs.seats.draw.Given as goal

-- the seat is as it was, and the ticket that is tried isn't the last number
abbrev pub invariant-loop : goal.invariant-loop
invariant-loop g l = (l.seat.table_id ≡ l.initial.seat.table_id) × (l.seat.id ≡ l.initial.seat.id) × (l.seat.me ≡ l.initial.seat.me) × (l.ticket < 18446744073709551615)
