use Rattle.std.proofs.Common.{rules, ◌≡◌, ℕ, List, inl, inr, length, subst}
use Rattle.std.proofs.lemmas.Result.{IfOk-weaker}
use Rattle.kfs_journal.specs.declared.call.Call.TheVariants.{Write}
use Rattle.kfs_journal.specs.Disk.{In, Torn}
use Rattle.kfs_journal.specs.Memory.{memory_may_leave}
use Rattle.kfs_journal.proofs.MadeCalls.{seen_more, crash_more, time_more, crash_same, time_same, write_changes, torn_nothing}
use Rattle.kfs_journal.proofs.memory.MemoryDiskDisk.write_at.Goals as goal

pub returns-in-Ok-clause-written : goal.returns-in-Ok-clause-written
returns-in-Ok-clause-written c =
    let same : c.in-Ok.copy.items ≡ c.args.bytes.now = search rules in
    IfOk-weaker c.add.result _ _ (λ _ more. write_changes c.args.file c.args.at c.in-Ok.copy c.args.bytes.now same _ _ c.requires (seen_more c.args.self.now c.add.new.self c.add.ensures.start (Write c.args.file c.args.at c.in-Ok.copy) more)) c.add.ensures.call

pub returns-in-Ok-clause-crash : goal.returns-in-Ok-clause-crash
returns-in-Ok-clause-crash c = λ f left.
    let same : c.in-Ok.copy.items ≡ c.args.bytes.now = search rules in
    elim c.add.ensures.either [
      | inl none ↦ torn_nothing c.args.file c.args.at _ (memory_may_leave c.args.self.now) f (crash_same c.args.self.now c.add.new.self c.add.ensures.start none f left)
      | inr more ↦
          let from = crash_more c.args.self.now c.add.new.self c.add.ensures.start (Write c.args.file c.args.at c.in-Ok.copy) more f left in
          (from.0, from.1, subst (λ (l : List ℕ). In c.args.file (Torn c.args.at (length l)) from.0 f) same from.2)
    ]

pub returns-in-Ok-clause-time : goal.returns-in-Ok-clause-time
returns-in-Ok-clause-time c = elim c.add.ensures.either [
  | inl none ↦ time_same c.args.self.now c.add.new.self c.add.ensures.start none
  | inr more ↦ time_more c.args.self.now c.add.new.self c.add.ensures.start (Write c.args.file c.args.at c.in-Ok.copy) more
]

pub returns-in-Err-clause-crash : goal.returns-in-Err-clause-crash
returns-in-Err-clause-crash c = λ f left. torn_nothing c.args.file c.args.at _ (memory_may_leave c.args.self.now) f (crash_same c.args.self.now c.fail.new.self c.fail.ensures.start c.fail.ensures.calls f left)

pub returns-in-Err-clause-time : goal.returns-in-Err-clause-time
returns-in-Err-clause-time c = time_same c.args.self.now c.fail.new.self c.fail.ensures.start c.fail.ensures.calls
