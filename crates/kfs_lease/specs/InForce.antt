-- Leases that are in force: all are live, and none stands in another's way.
use Rattle.std.specs.Prelude.{◌≡◌, ℕ, Some, IsTrue}
use Rattle.kfs_model.specs.Table.{get}
use Rattle.kfs_model.specs.Lease.{Lease, Leases, is_live, AreCompatible}

-- each lease is live
abbrev pub AreLive : Leases → Type 0
AreLive leases = (client number : ℕ) (lease : Lease) → get leases.rows (client, number) ≡ Some lease → IsTrue (is_live leases.moment lease)

-- each lease is live, and no two are in conflict
pub record AreInForce (leases : Leases) : Type 0 where
  pub live : AreLive leases
  pub compatible : AreCompatible leases
