use Rattle.std.proofs.Common.{◌≡◌, length, ap, sym, subst, rules, IsTrue}
use Rattle.std.specs.Prelude.{IfSome}
use Rattle.std.proofs.lemmas.List.{nil_from_length}
use Rattle.kfs_model.specs.Judgement.{State}
use Rattle.kfs_journal.proofs.Moments.{weaker}
use Rattle.kfs_kept.specs.Standing.{StandFor}
use Rattle.kfs_kept.specs.Renewing.{IsUnderWay, StaysOrEnds}
use Rattle.kfs_kept.proofs.Meant.{left_stand, put_leads, put_moment, put_stand}
use Rattle.kfs_kept.proofs.UnderWay.{moved, stays}
use Rattle.kfs_kept.proofs.Unanswered.{desk_stays, group_is_empty, state_stays}
use Rattle.kfs_kept.proofs.kept.Kept.call_all.Goals as goal

pub returns-in-Ok-clause-kept : goal.returns-in-Ok-clause-kept
returns-in-Ok-clause-kept g c =
    let is_open : IsTrue c.args.self.now.is_open = search rules in
    let was = c.requires.kept is_open in
    let old = c.args.self.now in
    let new = g.D.Disk.seen c.put.new.disk in
    let leads = put_leads _ _ _ _ _ _ _ was.stand c.make_all.ensures.made c.as_slice-group.ensures.value in
    let still = moved (g.D.Disk.seen old.disk) new old.journal c.put.new.self old.desk.state old.renewal c.take.result c.take.ensures.value c.in-Ok.ensures.draft was.renewal in
    λ _. record {
      settled = c.in-Ok.ensures.settled;
      stand = put_stand _ _ _ _ _ _ _ was.stand c.make_all.ensures.made c.as_slice-group.ensures.value _ c.in-Ok.ensures.acknowledged;
      renewal = c.with_group.ensures.under_way new c.put.new.self old.desk.state c.make_all.new.desk.state still leads;
    }

pub returns-in-Ok-clause-checkpoint : goal.returns-in-Ok-clause-checkpoint
returns-in-Ok-clause-checkpoint g c = subst (λ o. StaysOrEnds o c.with_group.result) c.take.ensures.value c.with_group.ensures.stays

pub returns-then-is_empty-clause-checkpoint : goal.returns-then-is_empty-clause-checkpoint
returns-then-is_empty-clause-checkpoint g c = stays c.args.self.now.renewal

pub returns-in-Ok-clause-acknowledged : goal.returns-in-Ok-clause-acknowledged
returns-in-Ok-clause-acknowledged g c =
    let is_open : IsTrue c.args.self.now.is_open = search rules in
    let was = c.requires.kept is_open in
    λ f left. left_stand _ _ _ c.in-Ok.ensures.settled.durable (put_stand _ _ _ _ _ _ _ was.stand c.make_all.ensures.made c.as_slice-group.ensures.value _ c.in-Ok.ensures.acknowledged) f left

pub returns-in-Ok-clause-any_moment : goal.returns-in-Ok-clause-any_moment
returns-in-Ok-clause-any_moment g c = λ is_open.
    let was = c.requires.kept is_open in
    weaker g.D.Disk.moment g.D.Disk.left_since c.args.self.now.disk c.put.new.disk _ _ (λ f one. put_moment _ _ _ _ _ _ _ was.stand c.make_all.ensures.made c.as_slice-group.ensures.value f one) c.put.ensures.any_moment

pub returns-in-Err-Failed-clause-any_moment : goal.returns-in-Err-Failed-clause-any_moment
returns-in-Err-Failed-clause-any_moment g c = λ is_open.
    let was = c.requires.kept is_open in
    weaker g.D.Disk.moment g.D.Disk.left_since c.args.self.now.disk c.put.new.disk _ _ (λ f one. put_moment _ _ _ _ _ _ _ was.stand c.make_all.ensures.made c.as_slice-group.ensures.value f one) c.put.ensures.any_moment

pub returns-then-is_empty-clause-kept : goal.returns-then-is_empty-clause-kept
returns-then-is_empty-clause-kept g c =
    let is_open : IsTrue c.args.self.now.is_open = search rules in
    let was = c.requires.kept is_open in
    let zero : length c.make_all.new.self.group.items ≡ 0 = search rules in
    let same = state_stays _ _ _ _ _ c.make_all.ensures.made (nil_from_length c.make_all.new.self.group.items zero) in
    let files = g.D.Disk.seen c.args.self.now.disk in
    λ _. record {
      settled = was.settled;
      stand = subst (λ (s : State). StandFor files s) (sym same) was.stand;
      renewal = subst (λ (s : State). IfSome c.args.self.now.renewal (λ r. IsUnderWay files c.args.self.now.journal r s)) (sym same) was.renewal;
    }

pub returns-then-is_empty-clause-acknowledged : goal.returns-then-is_empty-clause-acknowledged
returns-then-is_empty-clause-acknowledged g c =
    let is_open : IsTrue c.args.self.now.is_open = search rules in
    let was = c.requires.kept is_open in
    let zero : length c.make_all.new.self.group.items ≡ 0 = search rules in
    let same = state_stays _ _ _ _ _ c.make_all.ensures.made (nil_from_length c.make_all.new.self.group.items zero) in
    λ f left. subst (λ (s : State). StandFor f s) (sym same) (left_stand _ _ _ was.settled.durable was.stand f left)

pub returns-then-is_empty-clause-idle : goal.returns-then-is_empty-clause-idle
returns-then-is_empty-clause-idle g c = λ none.
    let is_open : IsTrue c.args.self.now.is_open = search rules in
    let same : c.make_all.new.desk ≡ c.args.self.now.desk = desk_stays _ _ _ _ _ c.make_all.ensures.made none in
    λ i. record { desk = same i; journal = c.args.self.now.journal; disk = c.args.self.now.disk; is_open = sym is_open i; renewal = c.args.self.now.renewal }

pub returns-in-Ok-clause-idle : goal.returns-in-Ok-clause-idle
returns-in-Ok-clause-idle g c = λ none.
    let zero : length c.make_all.new.self.group.items ≡ 0 = ap length (group_is_empty _ _ _ _ _ c.make_all.ensures.made none) in
    let no : ⊥ = search (rules, zero) in
    absurd no
