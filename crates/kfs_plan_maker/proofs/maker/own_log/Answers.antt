use Rattle.std.proofs.Common.{Ok}
use Rattle.kfs_entry.specs.Answers.{log_of}
use Rattle.kfs_plan_maker.proofs.OwnLogs.{other_log, refused_log, same_log}
use Rattle.kfs_plan_maker.proofs.maker.own_log.Goals as goal

pub returns-then-log-number-clause-own : goal.returns-then-log-number-clause-own
returns-then-log-number-clause-own g c = record {
  owner = c.if-log-number.true;
  spelled = c.in-Ok.ensures.found;
  within = c.in-Ok.ensures.spans;
  spanned = c.in-Ok.ensures.spanned;
  short = c.in-Ok.ensures.count;
  only = λ other is. same_log (log_of c.args.source.now c.in-Ok.log) other (c.in-Ok.ensures.only (Ok other) is);
}

pub returns-else-log-number-clause-none : goal.returns-else-log-number-clause-none
returns-else-log-number-clause-none g c none = other_log g.row.A.Denot c.args.number c.args.source.now c.in-Ok.log c.if-log-number.false c.in-Ok.ensures.only

pub returns-in_ok-unless_refused-in-Err-clause-none : goal.returns-in_ok-unless_refused-in-Err-clause-none
returns-in_ok-unless_refused-in-Err-clause-none g c none =
    refused_log g.row.A.Denot c.args.number c.args.source.now c.in-Err.fault c.in_ok-unless_refused-in-Err.ensures c.in-Err.ensures.only
