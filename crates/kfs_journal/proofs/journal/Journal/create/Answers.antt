use Rattle.std.proofs.Common.{inl, ap, ◌∙◌}
use Rattle.std.specs.Prelude.{[], Some, None}
use Rattle.kfs_journal.specs.Format.{meaning}
use Rattle.kfs_journal.specs.Journal.{IsOneOf}
use Rattle.kfs_journal.proofs.Moments.{started, weaker}
use Rattle.kfs_journal.proofs.Changes.{empty_means, create_moment, create_settled, create_means}
use Rattle.kfs_journal.proofs.journal.Journal.create.Goals as goal

pub returns-in_err-write_head-clause-any_moment : goal.returns-in_err-write_head-clause-any_moment
returns-in_err-write_head-clause-any_moment g c =
    weaker g.D.Disk.moment g.D.Disk.left_since c.args.disk.now c.write_head.new.disk _ _ (λ f renewing. create_moment _ c.requires.empty c.args.state.now f renewing) c.write_head.ensures.any_moment

pub returns-clause-any_moment : goal.returns-clause-any_moment
returns-clause-any_moment g c =
    weaker g.D.Disk.moment g.D.Disk.left_since c.args.disk.now c.write_head.new.disk _ _ (λ f renewing. create_moment _ c.requires.empty c.args.state.now f renewing) c.write_head.ensures.any_moment

pub returns-clause-settled : goal.returns-clause-settled
returns-clause-settled g c =
    create_settled _ c.requires.empty c.args.state.now _ _ c.in_ok-write_head.ensures.written c.in_ok-write_head.ensures.durable

pub returns-clause-created : goal.returns-clause-created
returns-clause-created g c =
    create_means _ c.requires.empty c.args.state.now _ c.in_ok-write_head.ensures.written

pub returns-then-state-ge-MAX_STATE-clause-any_moment : goal.returns-then-state-ge-MAX_STATE-clause-any_moment
returns-then-state-ge-MAX_STATE-clause-any_moment g c =
    started g.D.Disk.moment g.D.Disk.left_since c.args.disk.now (IsOneOf None (Some (c.args.state.now, []))) (λ f left. inl (ap meaning (c.requires.durable f (g.met.D.Disk.only_now c.args.disk.now f left)) ∙ empty_means _ c.requires.empty c.args.state.now))
