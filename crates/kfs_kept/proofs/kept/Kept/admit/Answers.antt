use Rattle.std.proofs.Common.{rules, IsTrue, Err, refl, ap, sym, subst, ◌∙◌, inl, inr, ⊎_elim}
use Rattle.kfs_desk.specs.Machine.{Desk}
use Rattle.kfs_journal.proofs.Moments.{weaker}
use Rattle.kfs_kept.specs.Standing.{StandFor}
use Rattle.kfs_kept.proofs.Admitted.{admits_itself, admitted_moment}
use Rattle.kfs_kept.proofs.Beside.{stand_beside}
use Rattle.kfs_kept.proofs.UnderWay.{still_stands}
use Rattle.kfs_kept.proofs.Meant.{long_bytes, state_stand}
use Rattle.kfs_kept.proofs.kept.Kept.admit.Goals as goal

pub returns-in-Ok-clause-kept : goal.returns-in-Ok-clause-kept
returns-in-Ok-clause-kept g c = λ is_open.
    let stand = state_stand _ _ _ c.in_ok-made.ensures.restored c.deref.ensures.value _ c.in-Ok.ensures.changed in
    record {
      settled = c.in-Ok.ensures.settled;
      stand = subst (λ (d : Desk). StandFor (g.D.Disk.seen c.change.new.disk) d.state) (sym c.in_ok-made.ensures.desk) stand;
      renewal = tt;
    }

pub returns-in-Ok-clause-any_moment : goal.returns-in-Ok-clause-any_moment
returns-in-Ok-clause-any_moment g c = λ is_open.
    let old = c.args.self.now in
    let admitted = admitted_moment _ _ old.desk.state c.args.clients.now c.in_ok-made.ensures.restored c.deref.ensures.value c.in_ok-made.ensures.admits (g.D.Disk.seen old.disk) (c.requires.kept is_open).stand in
    weaker g.D.Disk.moment g.D.Disk.left_since old.disk c.change.new.disk _ _ admitted c.change.ensures.any_moment

pub returns-in-Err-OutOfMemory-clause-any_moment : goal.returns-in-Err-OutOfMemory-clause-any_moment
returns-in-Err-OutOfMemory-clause-any_moment g c = λ is_open.
    let old = c.args.self.now in
    let admitted = admitted_moment _ _ old.desk.state c.args.clients.now c.in_ok-made.ensures.restored c.deref.ensures.value c.in_ok-made.ensures.admits (g.D.Disk.seen old.disk) (c.requires.kept is_open).stand in
    weaker g.D.Disk.moment g.D.Disk.left_since old.disk c.change.new.disk _ _ admitted c.change.ensures.any_moment

pub returns-in-Err-Full-clause-any_moment : goal.returns-in-Err-Full-clause-any_moment
returns-in-Err-Full-clause-any_moment g c = λ is_open.
    let old = c.args.self.now in
    let admitted = admitted_moment _ _ old.desk.state c.args.clients.now c.in_ok-made.ensures.restored c.deref.ensures.value c.in_ok-made.ensures.admits (g.D.Disk.seen old.disk) (c.requires.kept is_open).stand in
    weaker g.D.Disk.moment g.D.Disk.left_since old.disk c.change.new.disk _ _ admitted c.change.ensures.any_moment

pub returns-clause-any_moment : goal.returns-clause-any_moment
returns-clause-any_moment g c = λ is_open.
    let old = c.args.self.now in
    let admitted = admitted_moment _ _ old.desk.state c.args.clients.now c.in_ok-made.ensures.restored c.deref.ensures.value c.in_ok-made.ensures.admits (g.D.Disk.seen old.disk) (c.requires.kept is_open).stand in
    weaker g.D.Disk.moment g.D.Disk.left_since old.disk c.change.new.disk _ _ admitted c.change.ensures.any_moment

pub returns-in-Err-Full-clause-full : goal.returns-in-Err-Full-clause-full
returns-in-Err-Full-clause-full g c = λ _. ⊎_elim
    (λ long. inl (long_bytes _ _ c.in_ok-made.made.state.items c.in_ok-made.ensures.saved c.deref.ensures.value long))
    (λ last. inr last)
    (c.in-Err-Full.ensures.full (ap Err c.in-Err-Full.field-0-is))

pub returns-then-are_same-clause-admits : goal.returns-then-are_same-clause-admits
returns-then-are_same-clause-admits g c =
    let old = c.args.self.now in
    let is_open : IsTrue old.is_open = search rules in
    admits_itself old.desk.state.clients c.args.clients.now (c.are_same.ensures.0 c.if-are_same.true ∙ c.clients.ensures.shown) (stand_beside _ _ (c.requires.kept is_open).stand)

pub returns-in-Err-OutOfMemory-clause-kept : goal.returns-in-Err-OutOfMemory-clause-kept
returns-in-Err-OutOfMemory-clause-kept g c = λ is_open.
    let old = c.args.self.now in
    let same = c.in-Err-OutOfMemory.ensures.memory (ap Err c.in-Err-OutOfMemory.field-0-is) in
    still_stands g.D.Disk.seen g.D.Disk.may_leave old c.change.new.self c.change.new.disk old.renewal same.0 same.1 refl (c.requires.kept is_open)

pub returns-in-Err-Full-clause-kept : goal.returns-in-Err-Full-clause-kept
returns-in-Err-Full-clause-kept g c = λ is_open.
    let old = c.args.self.now in
    let same = c.in-Err-Full.ensures.full_same (ap Err c.in-Err-Full.field-0-is) in
    still_stands g.D.Disk.seen g.D.Disk.may_leave old c.change.new.self c.change.new.disk old.renewal same.0 same.1 refl (c.requires.kept is_open)
