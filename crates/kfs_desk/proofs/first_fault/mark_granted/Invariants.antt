use Rattle.std.proofs.Common.{◌≡◌, ℕ, ◌&&◌, not, nat_le, nat_lt}
use Rattle.kfs_image.specs.Tier.Places.{is_free_in}
use Rattle.kfs_desk.proofs.first_fault.mark_granted.Given as goal

abbrev pub invariant-loop-number : goal.invariant-loop-number
invariant-loop-number g l = (n : ℕ) → is_free_in l.ungranted n ≡ is_free_in l.initial.ungranted n && not (nat_le l.first n && nat_le n l.last && nat_lt n l.number)
