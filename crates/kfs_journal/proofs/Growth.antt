-- How many bytes the records of a journal have.
use Rattle.std.proofs.Common.{◌≡◌, Some, ℕ, ◌-◌, ◌*◌, ◌^◌, ◌≤◌, sym, subst, arith}
use Rattle.kfs_journal.specs.declared.journal.Journal.{Journal}
use Rattle.kfs_journal.specs.Disk.{Files}
use Rattle.kfs_journal.specs.Format.{meaning}
use Rattle.kfs_journal.specs.Journal.{HasGrown, StandsOn}
use Rattle.kfs_journal.proofs.Puts.{settled_means}

module _ (files : Files) (journal : Journal) (s : StandsOn files journal) where
  abbrev records : ℕ
  records = journal.end - 21 - journal.state_len

  means : meaning files ≡ Some (s.state, s.groups)
  means = settled_means files (λ c. c ≡ files) journal s

  pub has_grown : 2 ^ 20 ≤ records → 4 * journal.state_len ≤ records → HasGrown (meaning files)
  has_grown long many = subst HasGrown (sym means) (omega (arith, long, s.len, s.state_len), omega (arith, many, s.len, s.state_len))

  pub grown_records : HasGrown (meaning files) → (2 ^ 20 ≤ records) × (4 * journal.state_len ≤ records)
  grown_records grown =
      let both = subst HasGrown means grown in
      (omega (arith, both.0, s.len, s.state_len), omega (arith, both.1, s.len, s.state_len))
