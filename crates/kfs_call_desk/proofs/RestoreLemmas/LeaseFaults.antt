-- A fault of a lease, as it is told.
use Rattle.std.proofs.Common.{◌≡◌, inr, Option, Some, option_map, refl, ap}
use Rattle.kfs_lease.specs.LeaseLists as leases
use Rattle.kfs_lease.specs.ShownLists.{row_fault_of}
use Rattle.kfs_lease.specs.declared.leases.listed.LeaseRowFault.{LeaseRowFault}
use Rattle.kfs_lease.specs.declared.leases.listed.LeaseRowFault.TheVariants.{UnknownClient, NoSuchNode, Past, NotAscending, LeaseHeld, OutOfMemory}
use Rattle.kfs_call_desk.specs.Restore.Restored.{BadLease, Refused}
use Rattle.kfs_call_desk.specs.Restore.Told.{IsRefusedFor}
use Rattle.kfs_call_desk.specs.declared.restore.fault.RestoreFault.TheVariants as faults

module _ (found : Option leases.LeaseRowFault) where
  told : (refusal : leases.LeaseRowFault) → found ≡ Some refusal → option_map Refused (option_map BadLease found) ≡ Some (Refused (BadLease refusal))
  told refusal is = ap (λ (o : Option leases.LeaseRowFault). option_map Refused (option_map BadLease o)) is

  pub lease_told : (fault : LeaseRowFault) → (fault ≡ OutOfMemory → ⊥) → found ≡ row_fault_of fault → IsRefusedFor (option_map BadLease found) (faults.BadLease fault)
  lease_told (UnknownClient index) not is = inr (Refused (BadLease (leases.UnknownClient index)), refl, told (leases.UnknownClient index) is)
  lease_told (NoSuchNode index) not is = inr (Refused (BadLease (leases.NoSuchNode index)), refl, told (leases.NoSuchNode index) is)
  lease_told (Past index) not is = inr (Refused (BadLease (leases.Past index)), refl, told (leases.Past index) is)
  lease_told (NotAscending index) not is = inr (Refused (BadLease (leases.NotAscending index)), refl, told (leases.NotAscending index) is)
  lease_told (LeaseHeld index) not is = inr (Refused (BadLease (leases.LeaseHeld index)), refl, told (leases.LeaseHeld index) is)
  lease_told OutOfMemory not is = absurd (not refl)
