use Rattle.std.proofs.Common.{ℕ, ◌<◌, ◌≤◌}
use Rattle.std.specs.Prelude.{IsTrue}
use Rattle.kfs_image.specs.Tier.Places.{is_free_in}
use Rattle.kfs_desk.proofs.first_fault.are_ungranted.Given as goal

abbrev pub invariant-loop-number : goal.invariant-loop-number
invariant-loop-number g l = (n : ℕ) → l.first ≤ n → n < l.number → IsTrue (is_free_in l.ungranted n)
