use Rattle.std.proofs.Common.{◌≤◌, ◌-◌, vec_len}
use Rattle.kfs_desk.proofs.FillLemmas.FreePlaces.{AreFound}
use Rattle.kfs_desk.proofs.fill.fill.free_places.Given as goal

abbrev pub invariant-loop-place : goal.invariant-loop-place
invariant-loop-place g l = record {
  found : AreFound l.image.sizes l.image.placement l.places.items l.from;
  few : vec_len l.places ≤ l.count;
}

abbrev pub decreases-loop-place : goal.decreases-loop-place
decreases-loop-place g l = l.count - vec_len l.places
