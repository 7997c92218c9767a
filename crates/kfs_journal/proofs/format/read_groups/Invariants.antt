use Rattle.std.proofs.Common.{◌≡◌, ℕ, List, ◌++◌, length}
use Rattle.kfs_journal.specs.Format.{AreRecords, records_len}
use Rattle.kfs_journal.specs.Journal.{groups_of}
use Rattle.kfs_journal.proofs.format.read_groups.Given as goal

abbrev pub invariant-records : goal.invariant-records
invariant-records g l = (done : List ℕ) × (l.bytes ≡ done ++ l.rest) × AreRecords done (groups_of l.groups.items) × (length done ≡ records_len (groups_of l.groups.items))

abbrev pub decreases-records : goal.decreases-records
decreases-records g l = length l.rest
