use Rattle.std.proofs.Common.{Err, length, ap, ◌∙◌}
use Rattle.std.proofs.lemmas.List.{length-map}
use Rattle.kfs_server.specs.Serving.Group.{refused_for_memory}
use Rattle.kfs_server.proofs.ServingLemmas.Crashes.{left_stand}
use Rattle.kfs_server.proofs.ServingLemmas.Runs.{all_refused}
use Rattle.kfs_server.proofs.serving.group.answer_group.Goals as goal

pub returns-in-Err-OutOfMemory-clause-served : goal.returns-in-Err-OutOfMemory-clause-served
returns-in-Err-OutOfMemory-clause-served g c = λ frames are.
    let same = c.in-Err-OutOfMemory.ensures.memory_same (ap Err c.in-Err-OutOfMemory.field-0-is) in
    rw (same.0, c.refuse_all.ensures.refused) (all_refused c.args.kept.now.desk c.args.group.now frames are)

pub returns-in-Err-OutOfMemory-clause-acknowledged : goal.returns-in-Err-OutOfMemory-clause-acknowledged
returns-in-Err-OutOfMemory-clause-acknowledged g c =
    let same = c.in-Err-OutOfMemory.ensures.memory_same (ap Err c.in-Err-OutOfMemory.field-0-is) in
    let was = c.requires.kept c.requires.open in
    let kept = c.args.kept.now in
    rw same.0 (left_stand (g.D.Disk.seen kept.disk) (g.D.Disk.may_leave kept.disk) kept.desk.state was.settled.durable was.stand)

pub returns-in-Err-OutOfMemory-clause-as_many : goal.returns-in-Err-OutOfMemory-clause-as_many
returns-in-Err-OutOfMemory-clause-as_many g c = ap length c.refuse_all.ensures.refused ∙ length-map c.args.group.now refused_for_memory

pub returns-in-Err-OutOfMemory-clause-open : goal.returns-in-Err-OutOfMemory-clause-open
returns-in-Err-OutOfMemory-clause-open g c =
    let same = c.in-Err-OutOfMemory.ensures.memory_same (ap Err c.in-Err-OutOfMemory.field-0-is) in
    rw same.0 c.requires.open

pub refuse_all-requires-clause-none : goal.refuse_all-requires-clause-none
refuse_all-requires-clause-none g c =
    let same = c.in-Err-OutOfMemory.ensures.memory_same (ap Err c.in-Err-OutOfMemory.field-0-is) in
    rw same.1 c.requires.none

pub refuse_all-requires-clause-room : goal.refuse_all-requires-clause-room
refuse_all-requires-clause-room g c =
    let same = c.in-Err-OutOfMemory.ensures.memory_same (ap Err c.in-Err-OutOfMemory.field-0-is) in
    rw same.1 c.requires.room
