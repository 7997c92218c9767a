use Rattle.std.proofs.Common.{◌≡◌, ℕ, refl, arith}
use Rattle.kfs_model.specs.Lease.{Lease, ReadLease, WriteLease}
use Rattle.kfs_model.specs.Examples.Example.{computing}
use Rattle.kfs_model.proofs.examples.leases.two_writers.Goals as goal

abbrev to_100 : Lease
to_100 = record { kind = WriteLease; end = 100 }

seven_is_not_eight : ◌≡◌ {A = ℕ} 7 8 → ⊥
seven_is_not_eight same = omega (arith, same)

pub returns : goal.returns
unfolding computing
returns c = λ compatible. let same : WriteLease ≡ ReadLease = compatible 7 8 5 to_100 to_100 seven_is_not_eight (refl, refl) (refl, refl) in absurd cc
