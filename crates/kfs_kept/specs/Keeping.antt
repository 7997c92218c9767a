-- When a desk is kept.
use Rattle.std.specs.Prelude.{IsTrue, IfSome}
use Rattle.kfs_journal.specs.Disk.{Files}
use Rattle.kfs_journal.specs.Journal.{IsSettled}
use Rattle.kfs_kept.specs.Renewing.{IsUnderWay}
use Rattle.kfs_kept.specs.Standing.{StandFor}
use Rattle.kfs_kept.specs.declared.kept.Kept.{Kept}

-- the files stand for the desk's state, and a crash leaves nothing else. A checkpoint under way leads to that state, too
pub record Stands {A D : Type 0} (seen : D → Files) (may_leave : D → Files → Type 0) (kept : Kept A D) : Type 0 where
  pub settled : IsSettled (seen kept.disk) (may_leave kept.disk) kept.journal
  pub stand : StandFor (seen kept.disk) kept.desk.state
  pub renewal : IfSome kept.renewal (λ r. IsUnderWay (seen kept.disk) kept.journal r kept.desk.state)

-- so it is while the desk is open
abbrev pub IsKept : {A D : Type 0} → (seen : D → Files) → (may_leave : D → Files → Type 0) → Kept A D → Type 0
IsKept seen may_leave kept = IsTrue kept.is_open → Stands seen may_leave kept
