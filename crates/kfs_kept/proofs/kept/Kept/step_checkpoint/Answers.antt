use Rattle.std.proofs.Common.{Some, Err, rules, ap, sym, subst, ◌∙◌, IsTrue}
use Rattle.kfs_kept.specs.Renewing.{Finishes, GoesOn}
use Rattle.kfs_kept.proofs.UnderWay.{of_kept, still_stands}
use Rattle.kfs_kept.proofs.kept.Kept.step_checkpoint.Goals as goal

pub step-requires-clause-under_way : goal.step-requires-clause-under_way
step-requires-clause-under_way g c =
    let old = c.args.self.now in
    let is_open : IsTrue old.is_open = search rules in
    (old.desk.state, of_kept g.D.Disk.seen g.D.Disk.may_leave old c.in-Some.renewal c.in-Some.is (c.requires.kept is_open))

pub returns-in-Ok-true-clause-kept : goal.returns-in-Ok-true-clause-kept
returns-in-Ok-true-clause-kept g c = λ is_open.
    let old = c.args.self.now in
    let was = c.requires.kept is_open in
    let u = of_kept g.D.Disk.seen g.D.Disk.may_leave old c.in-Some.renewal c.in-Some.is was in
    record { settled = c.in-Ok-true.ensures.settled; stand = c.in-Ok-true.ensures.stand old.desk.state u was.stand; renewal = tt }

pub returns-in-Ok-true-clause-finishes : goal.returns-in-Ok-true-clause-finishes
returns-in-Ok-true-clause-finishes g c = λ _.
    subst (λ o. Finishes c.args.most o (g.D.Disk.seen c.step.new.disk)) (sym c.in-Some.is) (c.in-Ok-true.ensures.finishes c.in-Ok-true.field-0-test)

pub returns-in-Ok-true-clause-any_moment : goal.returns-in-Ok-true-clause-any_moment
returns-in-Ok-true-clause-any_moment g c = λ is_open.
    let old = c.args.self.now in
    let was = c.requires.kept is_open in
    let u = of_kept g.D.Disk.seen g.D.Disk.may_leave old c.in-Some.renewal c.in-Some.is was in
    c.step.ensures.any_moment old.desk.state u was.stand

pub returns-in-Ok-false-clause-kept : goal.returns-in-Ok-false-clause-kept
returns-in-Ok-false-clause-kept g c = λ is_open.
    let old = c.args.self.now in
    let was = c.requires.kept is_open in
    let u = of_kept g.D.Disk.seen g.D.Disk.may_leave old c.in-Some.renewal c.in-Some.is was in
    record { settled = c.in-Ok-false.ensures.settled; stand = c.in-Ok-false.ensures.stand old.desk.state u was.stand; renewal = c.in-Ok-false.ensures.under_way old.desk.state u c.in-Ok-false.field-0-test }

pub returns-in-Ok-false-clause-goes_on : goal.returns-in-Ok-false-clause-goes_on
returns-in-Ok-false-clause-goes_on g c = λ _.
    subst (λ o. GoesOn c.args.most o (Some c.step.new.self)) (sym c.in-Some.is) (c.in-Ok-false.ensures.goes_on c.in-Ok-false.field-0-test)

pub returns-in-Ok-false-clause-any_moment : goal.returns-in-Ok-false-clause-any_moment
returns-in-Ok-false-clause-any_moment g c = λ is_open.
    let old = c.args.self.now in
    let was = c.requires.kept is_open in
    let u = of_kept g.D.Disk.seen g.D.Disk.may_leave old c.in-Some.renewal c.in-Some.is was in
    c.step.ensures.any_moment old.desk.state u was.stand

pub returns-in-Err-Full-clause-any_moment : goal.returns-in-Err-Full-clause-any_moment
returns-in-Err-Full-clause-any_moment g c = λ is_open.
    let old = c.args.self.now in
    let was = c.requires.kept is_open in
    let u = of_kept g.D.Disk.seen g.D.Disk.may_leave old c.in-Some.renewal c.in-Some.is was in
    c.step.ensures.any_moment old.desk.state u was.stand

pub returns-in-Err-Failed-clause-any_moment : goal.returns-in-Err-Failed-clause-any_moment
returns-in-Err-Failed-clause-any_moment g c = λ is_open.
    let old = c.args.self.now in
    let was = c.requires.kept is_open in
    let u = of_kept g.D.Disk.seen g.D.Disk.may_leave old c.in-Some.renewal c.in-Some.is was in
    c.step.ensures.any_moment old.desk.state u was.stand

pub returns-in-Err-Full-clause-kept : goal.returns-in-Err-Full-clause-kept
returns-in-Err-Full-clause-kept g c = λ is_open.
    let old = c.args.self.now in
    let same = c.in-Err-Full.ensures.full_same (ap Err c.in-Err-Full.field-0-is) in
    still_stands g.D.Disk.seen g.D.Disk.may_leave old c.step.new.journal c.step.new.disk (Some c.step.new.self) same.1 same.2 (ap Some same.0 ∙ sym c.in-Some.is) (c.requires.kept is_open)
