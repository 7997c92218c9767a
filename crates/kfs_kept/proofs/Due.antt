-- When a checkpoint is due.
use Rattle.kfs_journal.specs.Disk.{Files}
use Rattle.kfs_journal.specs.Journal.{IsSettled, StandsOn}
use Rattle.kfs_journal.specs.declared.journal.Journal.{Journal}

-- a journal that is settled stands so on what is there
pub stands_on : (files : Files) (may_leave : Files → Type 0) (journal : Journal) → IsSettled files may_leave journal → StandsOn files journal
stands_on files may_leave journal s = record {
  front = s.front;
  state = s.state;
  groups = s.groups;
  file = s.file;
  says = s.says;
  end = s.end;
  state_len = s.state_len;
  len = s.len;
  older = s.older;
  durable = λ c is. is;
}
