-- A disk to which nothing was done.
use Rattle.std.proofs.Common.{ℕ, sym, subst}
use Rattle.kfs_journal.specs.Disk.{Files, LeavesOnly, Only}
use Rattle.kfs_journal.proofs.Moments.{started}

-- a crash leaves what is there
pub stayed : {D : Type 0} (moment : D → ℕ) (left_since : D → ℕ → Files → Type 0) (may_leave : Files → Type 0) (disk : D) (seen : Files) (P : Files → Type 0)
    → ((c : Files) → left_since disk (moment disk) c → may_leave c) → Only seen may_leave → P seen → LeavesOnly moment left_since disk disk P
stayed moment left_since may_leave disk seen P now only holds = started moment left_since disk P (λ c left. subst P (sym (only c (now c left))) holds)
