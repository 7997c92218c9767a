-- The verdict is the one that the worker held.
use Rattle.std.proofs.Common.{◌∙◌, sym}
use Rattle.kfs_program.proofs.EngineLemmas.Held.{landed_as, landing_undone, taken_as}
use Rattle.kfs_program.proofs.sessions.verdicts.land_for.Goals as goal

pub returns-clause-ok : goal.returns-clause-ok
returns-clause-ok g c =
    let held = taken_as _ c.take.result c.in_ok-judged.judged _ (sym c.ok_or.ensures.value ∙ c.in_ok-judged.was) c.take.ensures.taken in
    landed_as c.land_judged.result c.args.desk.now c.args.hands.now c.take.new.self c.args.worker.number c.in_ok-judged.judged held c.take.ensures.left _ _ c.land_judged.new.desk c.land_judged.ensures.ok

pub returns-clause-memory : goal.returns-clause-memory
returns-clause-memory g c out =
    landing_undone c.land_judged.result c.args.desk.now c.land_judged.new.desk c.args.hands.now c.take.new.self c.args.worker.number _ _ c.take.ensures.left c.land_judged.ensures.err out
