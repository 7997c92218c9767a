use Rattle.std.proofs.Common.{inl, inr}
use Rattle.std.proofs.lemmas.Result.{IfOk-weaker}
use Rattle.kfs_journal.specs.declared.call.Call.TheVariants.{Cut}
use Rattle.kfs_journal.specs.Memory.{memory_may_leave}
use Rattle.kfs_journal.proofs.MadeCalls.{seen_more, crash_more, time_more, crash_same, time_same, made_changes, cut_nothing}
use Rattle.kfs_journal.proofs.memory.MemoryDiskDisk.cut.Goals as goal

pub returns-clause-cut : goal.returns-clause-cut
returns-clause-cut c =
    IfOk-weaker c.add.result _ _ (λ _ is. made_changes (Cut c.args.file c.args.len) _ _ (seen_more c.args.self.now c.add.new.self c.add.ensures.start (Cut c.args.file c.args.len) is)) c.add.ensures.call

pub returns-clause-crash : goal.returns-clause-crash
returns-clause-crash c = λ f left. elim c.add.ensures.either [
  | inl same ↦ cut_nothing c.args.file c.args.len (memory_may_leave c.args.self.now) f (crash_same c.args.self.now c.add.new.self c.add.ensures.start same f left)
  | inr more ↦ crash_more c.args.self.now c.add.new.self c.add.ensures.start (Cut c.args.file c.args.len) more f left
]

pub returns-clause-time : goal.returns-clause-time
returns-clause-time c = elim c.add.ensures.either [
  | inl same ↦ time_same c.args.self.now c.add.new.self c.add.ensures.start same
  | inr more ↦ time_more c.args.self.now c.add.new.self c.add.ensures.start (Cut c.args.file c.args.len) more
]
