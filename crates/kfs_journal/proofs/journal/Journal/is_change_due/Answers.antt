use Rattle.std.proofs.Common.{◌^◌, ◌<◌, rules, arith}
use Rattle.std.proofs.lemmas.Bool.{le-leb, leb-true}
use Rattle.kfs_journal.proofs.Growth.{grown_records, has_grown}
use Rattle.kfs_journal.proofs.journal.Journal.is_change_due.Goals as goal

pub returns-then-records-ge-DUE_RECORDS : goal.returns-then-records-ge-DUE_RECORDS
returns-then-records-ge-DUE_RECORDS c = λ files on.
    let fits : c.args.self.now.end < 2 ^ 64 = search rules in (
      (λ is. has_grown files c.args.self.now on (omega arith) (omega (arith, leb-true c.saturating_mul.result c.saturating_sub-records.result is, fits))),
      (λ grown. le-leb c.saturating_mul.result c.saturating_sub-records.result (omega (arith, (grown_records files c.args.self.now on grown).1, fits))),
    )

pub returns-else-records-ge-DUE_RECORDS : goal.returns-else-records-ge-DUE_RECORDS
returns-else-records-ge-DUE_RECORDS c = λ files on. (
  (λ is. absurd (omega (arith, leb-true 1048576 c.saturating_sub-records.result is))),
  (λ grown. le-leb 1048576 c.saturating_sub-records.result (omega (arith, (grown_records files c.args.self.now on grown).0))),
)
