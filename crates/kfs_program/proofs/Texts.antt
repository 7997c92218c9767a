-- A refusal without a number is its name alone.
use Rattle.std.proofs.Common.{◌≡◌, ◌≢◌, ℕ, refl}
use Rattle.kfs_judge.specs.declared.check.check.Reason.{Reason}
use Rattle.kfs_judge.specs.declared.check.check.Reason.TheVariants as reason
use Rattle.kfs_lease.specs.declared.leases.LeaseFault.{LeaseFault}
use Rattle.kfs_lease.specs.declared.leases.LeaseFault.TheVariants as lease
use Rattle.kfs_program.specs.Report.{reason_name, reason_text, lease_name, lease_text}

pub reason_without_number : (r : Reason) → ((node : ℕ) → r ≢ reason.NoLease node) → reason_text r ≡ reason_name r
reason_without_number (reason.NoLease node) other = absurd (other node refl)
reason_without_number r other = refl

pub lease_without_number : (f : LeaseFault) → ((i : ℕ) → f ≢ lease.NoSuchName i) → ((i : ℕ) → f ≢ lease.NotDirectory i) → ((i : ℕ) → f ≢ lease.NoSearch i) → ((client : ℕ) → f ≢ lease.LeaseHeld client)
    → lease_text f ≡ lease_name f
lease_without_number (lease.NoSuchName i) name directory search held = absurd (name i refl)
lease_without_number (lease.NotDirectory i) name directory search held = absurd (directory i refl)
lease_without_number (lease.NoSearch i) name directory search held = absurd (search i refl)
lease_without_number (lease.LeaseHeld client) name directory search held = absurd (held client refl)
lease_without_number f name directory search held = refl
