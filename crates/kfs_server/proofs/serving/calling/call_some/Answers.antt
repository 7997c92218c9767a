use Rattle.std.proofs.Common.{◌≡◌, ℕ, List, [], length, map, Bor, inl, refl, sym, subst, rules}
use Rattle.std.proofs.lemmas.List.{nil_from_length}
use Rattle.std.specs.Prelude.{Result}
use Rattle.kfs_call_desk.specs.declared.made.Called.{Called}
use Rattle.kfs_call_desk.specs.declared.made.CallFault.{CallFault}
use Rattle.kfs_journal.proofs.Moments.{started}
use Rattle.kfs_kept.specs.Calls.Making.{Runs}
use Rattle.kfs_kept.specs.Standing.{StandForBeforeOrAfter}
use Rattle.kfs_server.proofs.ServingLemmas.Crashes.{left_stand}
use Rattle.kfs_server.proofs.serving.calling.call_some.Goals as goal

pub returns-then-is_empty-clause-answers : goal.returns-then-is_empty-clause-answers
returns-then-is_empty-clause-answers g c =
    let zero : length c.args.calls.now ≡ 0 = search rules in
    let none : c.args.calls.now ≡ [] = nil_from_length c.args.calls.now zero in
    rw none (subst (λ (xs : List (Result Called CallFault)). Runs c.args.kept.now.desk [] xs c.args.kept.now.desk) (sym c.new.ensures.items) refl)

pub returns-then-is_empty-clause-acknowledged : goal.returns-then-is_empty-clause-acknowledged
returns-then-is_empty-clause-acknowledged g c =
    let was = c.requires.kept c.requires.open in
    let kept = c.args.kept.now in
    left_stand (g.D.Disk.seen kept.disk) (g.D.Disk.may_leave kept.disk) kept.desk.state was.settled.durable was.stand

pub returns-then-is_empty-clause-any_moment : goal.returns-then-is_empty-clause-any_moment
returns-then-is_empty-clause-any_moment g c =
    let was = c.requires.kept c.requires.open in
    let kept = c.args.kept.now in
    started g.D.Disk.moment g.D.Disk.left_since kept.disk (StandForBeforeOrAfter kept.desk (map (λ (x : Bor (List ℕ)). x.now) c.args.calls.now))
    (λ f left. inl (left_stand (g.D.Disk.seen kept.disk) (g.D.Disk.may_leave kept.disk) kept.desk.state was.settled.durable was.stand f (g.met.D.Disk.only_now kept.disk f left)))
