-- Why files aren't opened, and the faults of journal and state as those of a kept desk.
use Rattle.std.specs.Prelude.{Bool, IsTrue}
use Rattle.kfs_journal.specs.Disk.{Files}
use Rattle.kfs_journal.specs.Journal.{AreEmpty, AreForeign}
use Rattle.kfs_journal.specs.declared.fault.JournalFault.{JournalFault}
use Rattle.kfs_journal.specs.declared.fault.JournalFault.TheVariants as journals
use Rattle.kfs_call_desk.specs.declared.restore.fault.EncodeFault.{EncodeFault}
use Rattle.kfs_call_desk.specs.declared.restore.fault.EncodeFault.TheVariants as encoding
use Rattle.kfs_kept.specs.declared.fault.OpenFault.{OpenFault}
use Rattle.kfs_kept.specs.declared.fault.OpenFault.TheVariants as opening
use Rattle.kfs_kept.specs.declared.fault.SaveFault.{SaveFault}
use Rattle.kfs_kept.specs.declared.fault.SaveFault.TheVariants as saving

-- why a state isn't kept
abbrev pub of_journal : JournalFault → SaveFault
of_journal journals.OutOfMemory = saving.OutOfMemory
of_journal journals.Failed = saving.Failed
of_journal journals.Full = saving.Full

abbrev pub of_encoding : EncodeFault → SaveFault
of_encoding encoding.TooMany = saving.TooMany
of_encoding encoding.OutOfMemory = saving.OutOfMemory

-- the fault is right of the files, as they were and as they are, and of the disk
abbrev pub IsWhy : (old new : Files) → (failed : Bool) → OpenFault → Type 0
IsWhy old new failed opening.Empty = AreEmpty new
IsWhy old new failed opening.NotAJournal = AreForeign old
IsWhy old new failed (opening.BadState fault) = Unit {0}
IsWhy old new failed (opening.BadGroup index) = Unit {0}
IsWhy old new failed (opening.Differs index) = Unit {0}
IsWhy old new failed opening.DocketFull = Unit {0}
IsWhy old new failed opening.OutOfMemory = Unit {0}
IsWhy old new failed opening.Failed = IsTrue failed

-- the fault is of what the files keep, and not of the files
abbrev pub IsOfState : OpenFault → Type 0
IsOfState opening.Empty = ⊥
IsOfState opening.NotAJournal = ⊥
IsOfState (opening.BadState fault) = Unit {0}
IsOfState (opening.BadGroup index) = Unit {0}
IsOfState (opening.Differs index) = Unit {0}
IsOfState opening.DocketFull = Unit {0}
IsOfState opening.OutOfMemory = Unit {0}
IsOfState opening.Failed = ⊥

-- the fault is of memory, of the docket's room or of the disk, and says nothing of what the files keep
abbrev pub IsOutside : OpenFault → Type 0
IsOutside opening.Empty = ⊥
IsOutside opening.NotAJournal = ⊥
IsOutside (opening.BadState fault) = ⊥
IsOutside (opening.BadGroup index) = ⊥
IsOutside (opening.Differs index) = ⊥
IsOutside opening.DocketFull = Unit {0}
IsOutside opening.OutOfMemory = Unit {0}
IsOutside opening.Failed = Unit {0}
