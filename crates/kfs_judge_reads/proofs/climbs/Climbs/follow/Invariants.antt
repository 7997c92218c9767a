-- So far the links hold, and the first of the directories have their stops.
use Rattle.std.proofs.Common.{◌≡◌, ◌++◌, ◌-◌, ℕ, Option, length, drop}
use Rattle.std.specs.Prelude.{nat_eq}
use Rattle.std.specs.HashSet.{IsUnique}
use Rattle.kfs_judge_reads.specs.Climbs.{is_taken, LinksHold, StopsAt}
use Rattle.kfs_judge_reads.proofs.climbs.Climbs.follow.Given as goal

abbrev pub invariant-loop-self : goal.invariant-loop-self
invariant-loop-self g l = record {
  once : IsUnique nat_eq l.self.order;
  links : (parent : ℕ → Option ℕ) → LinksHold parent l.fn.self → LinksHold parent l.self;
  stops : StopsAt (is_taken l.self) l.self;
  begins : l.moved ≡ l.self.moved.items ++ drop (length l.self.moved.items) l.moved;
}

abbrev pub decreases-loop-self : goal.decreases-loop-self
decreases-loop-self g l = length l.moved - length l.self.moved.items
