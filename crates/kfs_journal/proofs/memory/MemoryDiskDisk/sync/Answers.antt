use Rattle.std.proofs.Common.{inl, inr, ap, sym, subst, ◌∙◌}
use Rattle.std.proofs.lemmas.Result.{IfOk-weaker}
use Rattle.kfs_journal.specs.declared.call.Call.TheVariants.{Sync}
use Rattle.kfs_journal.specs.Disk.{Files, content}
use Rattle.kfs_journal.specs.Memory.{memory_may_leave}
use Rattle.kfs_journal.proofs.MadeCalls.{seen_more, crash_more, time_more, seen_same, crash_same, time_same, with_same}
use Rattle.kfs_journal.proofs.memory.MemoryDiskDisk.sync.Goals as goal

pub returns-clause-durable : goal.returns-clause-durable
returns-clause-durable c =
    IfOk-weaker c.add.result _ _ (λ _ more f left.
    let from = crash_more c.args.self.now c.add.new.self c.add.ensures.start (Sync c.args.file) more f left in
    ap (λ (d : Files). content c.args.file d) from.2.0 ∙ from.2.1) c.add.ensures.call

pub returns-clause-seen : goal.returns-clause-seen
returns-clause-seen c = elim c.add.ensures.either [
  | inl same ↦ seen_same c.args.self.now c.add.new.self c.add.ensures.start same
  | inr more ↦ seen_more c.args.self.now c.add.new.self c.add.ensures.start (Sync c.args.file) more ∙ with_same c.args.file _
]

pub returns-clause-crash : goal.returns-clause-crash
returns-clause-crash c = λ f left. elim c.add.ensures.either [
  | inl same ↦ crash_same c.args.self.now c.add.new.self c.add.ensures.start same f left
  | inr more ↦
      let from = crash_more c.args.self.now c.add.new.self c.add.ensures.start (Sync c.args.file) more f left in
      subst (λ (d : Files). memory_may_leave c.args.self.now d) (sym from.2.0) from.1
]

pub returns-clause-time : goal.returns-clause-time
returns-clause-time c = elim c.add.ensures.either [
  | inl same ↦ time_same c.args.self.now c.add.new.self c.add.ensures.start same
  | inr more ↦ time_more c.args.self.now c.add.new.self c.add.ensures.start (Sync c.args.file) more
]
