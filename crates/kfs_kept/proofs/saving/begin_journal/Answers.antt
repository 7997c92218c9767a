use Rattle.std.proofs.Common.{Err, inl, sym, ap, ◌∙◌}
use Rattle.std.proofs.lemmas.Result.{err_from_is_err_and}
use Rattle.kfs_journal.proofs.Moments.{weaker}
use Rattle.kfs_kept.specs.Standing.{StandForAtMost}
use Rattle.kfs_kept.proofs.Meant.{begun, empty_mean_none, err_is, full_of, long_bytes, state_stand}
use Rattle.kfs_kept.proofs.Stays.{stayed}
use Rattle.kfs_kept.proofs.saving.begin_journal.Goals as goal

pub returns-in_err-state-clause-any_moment : goal.returns-in_err-state-clause-any_moment
returns-in_err-state-clause-any_moment g c =
    let disk = c.args.disk.now in
    stayed g.D.Disk.moment g.D.Disk.left_since (g.D.Disk.may_leave disk) disk (g.D.Disk.seen disk) (StandForAtMost c.args.desk.now.state) (λ f left. g.met.D.Disk.only_now disk f left) c.requires.durable
    (inl (empty_mean_none (g.D.Disk.seen disk) c.requires.empty))

pub returns-in_err-journal-clause-any_moment : goal.returns-in_err-journal-clause-any_moment
returns-in_err-journal-clause-any_moment g c =
    weaker g.D.Disk.moment g.D.Disk.left_since c.args.disk.now c.create.new.disk _ _ (λ f one. begun _ _ _ c.in_ok-state.ensures.state c.deref.ensures.value f one) c.create.ensures.any_moment

pub returns-clause-stand : goal.returns-clause-stand
returns-clause-stand g c = state_stand _ _ _ c.in_ok-state.ensures.state c.deref.ensures.value _ c.in_ok-journal.ensures.created

pub returns-clause-any_moment : goal.returns-clause-any_moment
returns-clause-any_moment g c =
    weaker g.D.Disk.moment g.D.Disk.left_since c.args.disk.now c.create.new.disk _ _ (λ f one. begun _ _ _ c.in_ok-state.ensures.state c.deref.ensures.value f one) c.create.ensures.any_moment

pub returns-in_err-journal-clause-full : goal.returns-in_err-journal-clause-full
returns-in_err-journal-clause-full g c = λ full.
    let p = err_from_is_err_and c.from_residual-in_err-journal.result c.from_residual-in_err-journal.ensures.1 in
    let is = err_is _ _ (sym p.1 ∙ full) in
    let found = full_of c.in_err-journal.field-0.0 (sym p.2 ∙ is) in
    long_bytes _ _ c.in_ok-state.state.items c.in_ok-state.ensures.saved c.deref.ensures.value (c.in_err-journal.ensures.full (ap Err found)).0
