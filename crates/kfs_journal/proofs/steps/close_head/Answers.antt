use Rattle.std.proofs.Common.{length, ap, sym, subst, ◌∙◌}
use Rattle.kfs_journal.specs.Disk.{In}
use Rattle.kfs_journal.specs.Journal.{IsLess}
use Rattle.kfs_journal.proofs.Moments.{started, and_then, weaker}
use Rattle.kfs_journal.proofs.Renewal.{less_same, less_cut, less_front, front_written}
use Rattle.kfs_journal.proofs.steps.close_head.Goals as goal

pub returns-in_err-front-clause-any_moment : goal.returns-in_err-front-clause-any_moment
returns-in_err-front-clause-any_moment g c =
    let P = In c.args.file IsLess (g.D.Disk.seen c.args.disk.now) in
    started g.D.Disk.moment g.D.Disk.left_since c.args.disk.now P (λ f left. subst P (sym (c.requires.durable f (g.met.D.Disk.only_now c.args.disk.now f left))) (less_same c.args.file (g.D.Disk.seen c.args.disk.now)))

pub returns-in_err-cut_through-clause-any_moment : goal.returns-in_err-cut_through-clause-any_moment
returns-in_err-cut_through-clause-any_moment g c =
    weaker g.D.Disk.moment g.D.Disk.left_since c.args.disk.now c.cut_through.new.disk _ _ (λ f torn. less_cut c.args.file _ f torn) c.cut_through.ensures.any_moment

pub returns-in_err-write_through-clause-any_moment : goal.returns-in_err-write_through-clause-any_moment
returns-in_err-write_through-clause-any_moment g c =
    let P = In c.args.file IsLess (g.D.Disk.seen c.args.disk.now) in
    let size = ap length (c.deref.ensures.value ∙ c.in_ok-front.ensures) in
    let cut = weaker g.D.Disk.moment g.D.Disk.left_since c.args.disk.now c.cut_through.new.disk _ P (λ f torn. less_cut c.args.file _ f torn) c.cut_through.ensures.any_moment in
    let front = weaker g.D.Disk.moment g.D.Disk.left_since c.cut_through.new.disk c.write_through.new.disk _ P (λ f torn. less_front c.args.file _ _ f _ size c.in_ok-cut_through.ensures.cut torn) c.write_through.ensures.any_moment in
    and_then g.D.Disk.moment g.D.Disk.left_since c.args.disk.now c.cut_through.new.disk c.write_through.new.disk P cut front

pub returns-clause-any_moment : goal.returns-clause-any_moment
returns-clause-any_moment g c =
    let P = In c.args.file IsLess (g.D.Disk.seen c.args.disk.now) in
    let size = ap length (c.deref.ensures.value ∙ c.in_ok-front.ensures) in
    let cut = weaker g.D.Disk.moment g.D.Disk.left_since c.args.disk.now c.cut_through.new.disk _ P (λ f torn. less_cut c.args.file _ f torn) c.cut_through.ensures.any_moment in
    let front = weaker g.D.Disk.moment g.D.Disk.left_since c.cut_through.new.disk c.write_through.new.disk _ P (λ f torn. less_front c.args.file _ _ f _ size c.in_ok-cut_through.ensures.cut torn) c.write_through.ensures.any_moment in
    and_then g.D.Disk.moment g.D.Disk.left_since c.args.disk.now c.cut_through.new.disk c.write_through.new.disk P cut front

pub returns-clause-written : goal.returns-clause-written
returns-clause-written g c =
    front_written c.args.file c.args.number _ _ _ _ (c.deref.ensures.value ∙ c.in_ok-front.ensures) c.in_ok-cut_through.ensures.cut c.in_ok-write_through.ensures.written
