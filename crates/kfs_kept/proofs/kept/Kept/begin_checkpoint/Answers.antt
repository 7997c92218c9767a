use Rattle.std.proofs.Common.{rules, refl, sym, subst, IsTrue, Err, ap, inl, inr, ⊎_elim}
use Rattle.kfs_journal.proofs.Moments.{weaker}
use Rattle.kfs_call_desk.specs.Restore.Saved.{IsSaved}
use Rattle.kfs_kept.proofs.Beside.{stand_beside}
use Rattle.kfs_kept.proofs.Meant.{long_bytes, same_stand}
use Rattle.kfs_kept.proofs.kept.Kept.begin_checkpoint.Goals as goal

pub state_of-requires : goal.state_of-requires
state_of-requires g c =
    let is_open : IsTrue c.args.self.now.is_open = search rules in
    record { beside = stand_beside _ _ (c.requires.kept is_open).stand }

pub returns-in-Ok-clause-kept : goal.returns-in-Ok-clause-kept
returns-in-Ok-clause-kept g c = λ is_open.
    record {
      settled = c.in-Ok.ensures.settled;
      stand = same_stand _ _ _ c.in-Ok.ensures.same (c.requires.kept is_open).stand;
      renewal = c.in-Ok.ensures.under_way _ c.in_ok-state.ensures.state;
    }

pub returns-in-Ok-clause-begun : goal.returns-in-Ok-clause-begun
returns-in-Ok-clause-begun g c =
    (subst (λ v. IsSaved c.args.self.now.desk.state v.items) (sym c.in-Ok.ensures.begun.0) c.in_ok-state.ensures.saved, c.in-Ok.ensures.begun.1, c.in-Ok.ensures.begun.2)

pub returns-in-Ok-clause-any_moment : goal.returns-in-Ok-clause-any_moment
returns-in-Ok-clause-any_moment g c = λ is_open.
    weaker g.D.Disk.moment g.D.Disk.left_since c.args.self.now.disk c.begin.new.disk _ _ (λ f means. same_stand _ f _ means (c.requires.kept is_open).stand) c.begin.ensures.any_moment

pub returns-in-Err-OutOfMemory-clause-any_moment : goal.returns-in-Err-OutOfMemory-clause-any_moment
returns-in-Err-OutOfMemory-clause-any_moment g c = λ is_open.
    weaker g.D.Disk.moment g.D.Disk.left_since c.args.self.now.disk c.begin.new.disk _ _ (λ f means. same_stand _ f _ means (c.requires.kept is_open).stand) c.begin.ensures.any_moment

pub returns-in-Err-Full-clause-any_moment : goal.returns-in-Err-Full-clause-any_moment
returns-in-Err-Full-clause-any_moment g c = λ is_open.
    weaker g.D.Disk.moment g.D.Disk.left_since c.args.self.now.disk c.begin.new.disk _ _ (λ f means. same_stand _ f _ means (c.requires.kept is_open).stand) c.begin.ensures.any_moment

pub returns-in-Err-Failed-clause-any_moment : goal.returns-in-Err-Failed-clause-any_moment
returns-in-Err-Failed-clause-any_moment g c = λ is_open.
    weaker g.D.Disk.moment g.D.Disk.left_since c.args.self.now.disk c.begin.new.disk _ _ (λ f means. same_stand _ f _ means (c.requires.kept is_open).stand) c.begin.ensures.any_moment

pub returns-in-Err-Full-clause-full : goal.returns-in-Err-Full-clause-full
returns-in-Err-Full-clause-full g c = λ _. ⊎_elim
    (λ long. inl (long_bytes _ _ c.in_ok-state.state.items c.in_ok-state.ensures.saved refl long))
    (λ last. inr last)
    (c.in-Err-Full.ensures.full (ap Err c.in-Err-Full.field-0-is))
