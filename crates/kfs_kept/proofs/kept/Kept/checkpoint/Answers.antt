use Rattle.std.proofs.Common.{rules, IsTrue, Err, ap, inl, inr, ⊎_elim}
use Rattle.kfs_journal.proofs.Moments.{weaker}
use Rattle.kfs_kept.proofs.Beside.{stand_beside}
use Rattle.kfs_kept.proofs.Meant.{long_bytes, renewed, state_stand}
use Rattle.kfs_kept.proofs.kept.Kept.checkpoint.Goals as goal

pub state_of-requires : goal.state_of-requires
state_of-requires g c =
    let is_open : IsTrue c.args.self.now.is_open = search rules in
    record { beside = stand_beside _ _ (c.requires.kept is_open).stand }

pub returns-in-Ok-clause-kept : goal.returns-in-Ok-clause-kept
returns-in-Ok-clause-kept g c = λ is_open.
    record { settled = c.in-Ok.ensures.settled; stand = state_stand _ _ _ c.in_ok-state.ensures.state c.deref.ensures.value _ c.in-Ok.ensures.changed; renewal = tt }

pub returns-in-Ok-clause-any_moment : goal.returns-in-Ok-clause-any_moment
returns-in-Ok-clause-any_moment g c = λ is_open.
    weaker g.D.Disk.moment g.D.Disk.left_since c.args.self.now.disk c.change.new.disk _ _ (λ f one. renewed _ _ _ c.in_ok-state.ensures.state c.deref.ensures.value _ (c.requires.kept is_open).stand f one) c.change.ensures.any_moment

pub returns-in-Err-OutOfMemory-clause-any_moment : goal.returns-in-Err-OutOfMemory-clause-any_moment
returns-in-Err-OutOfMemory-clause-any_moment g c = λ is_open.
    weaker g.D.Disk.moment g.D.Disk.left_since c.args.self.now.disk c.change.new.disk _ _ (λ f one. renewed _ _ _ c.in_ok-state.ensures.state c.deref.ensures.value _ (c.requires.kept is_open).stand f one) c.change.ensures.any_moment

pub returns-in-Err-Full-clause-any_moment : goal.returns-in-Err-Full-clause-any_moment
returns-in-Err-Full-clause-any_moment g c = λ is_open.
    weaker g.D.Disk.moment g.D.Disk.left_since c.args.self.now.disk c.change.new.disk _ _ (λ f one. renewed _ _ _ c.in_ok-state.ensures.state c.deref.ensures.value _ (c.requires.kept is_open).stand f one) c.change.ensures.any_moment

pub returns-clause-any_moment : goal.returns-clause-any_moment
returns-clause-any_moment g c = λ is_open.
    weaker g.D.Disk.moment g.D.Disk.left_since c.args.self.now.disk c.change.new.disk _ _ (λ f one. renewed _ _ _ c.in_ok-state.ensures.state c.deref.ensures.value _ (c.requires.kept is_open).stand f one) c.change.ensures.any_moment

pub returns-in-Err-Full-clause-full : goal.returns-in-Err-Full-clause-full
returns-in-Err-Full-clause-full g c = λ _. ⊎_elim
    (λ long. inl (long_bytes _ _ c.in_ok-state.state.items c.in_ok-state.ensures.saved c.deref.ensures.value long))
    (λ last. inr last)
    (c.in-Err-Full.ensures.full (ap Err c.in-Err-Full.field-0-is))
