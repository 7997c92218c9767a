-- What the replies say follows from the run, since the docket is legal and each state on its way is shown.
use Rattle.std.proofs.Common.{map, option_map, subst}
use Rattle.kfs_plan.specs.Judging.{submission_of}
use Rattle.kfs_workers.specs.Script.{IsRun, DoesSteps}
use Rattle.kfs_workers.proofs.Claimed.{all_allowed, else_nothing, goes_on, settled, shows}
use Rattle.kfs_workers.proofs.script.run_script.Given as given
use Rattle.kfs_workers.proofs.script.run_script.Goals as goal

pub returns-clause-run : goal.returns-clause-run
returns-clause-run g c =
    let end = c.end-end in
    record {
      state = c.make_all.new.state;
      runs = subst (λ state. DoesSteps state c.args.steps.now c.make_all.new.state) c.in_ok-state.ensures.ok c.make_all.ensures;
      replied = end.ensures.replies;
      remains = end.ensures.left;
      ends = end.ensures.desk;
    }

module _ (g : given.Over) (c : goal.After-docket-docket-2 g) where
  run : IsRun c.args.desk (map submission_of c.args.submissions.items) c.args.steps.now c.end-end.result.replies.items (map (option_map submission_of) c.end-end.result.left.items) c.end-end.result.desk
  run = returns-clause-run g c

pub returns-clause-goes_on : goal.returns-clause-goes_on
returns-clause-goes_on g c = goes_on c.args.desk c.end-end.result.desk (map submission_of c.args.submissions.items) c.args.steps.now c.end-end.result.replies.items (map (option_map submission_of) c.end-end.result.left.items) (run g c) c.docket-docket.ensures.legal

pub returns-clause-tickets : goal.returns-clause-tickets
returns-clause-tickets g c = settled c.args.desk c.end-end.result.desk (map submission_of c.args.submissions.items) c.args.steps.now c.end-end.result.replies.items (map (option_map submission_of) c.end-end.result.left.items) (run g c) c.docket-docket.ensures.legal

pub returns-clause-yes : goal.returns-clause-yes
returns-clause-yes g c =
    shows c.args.desk c.end-end.result.desk (map submission_of c.args.submissions.items) c.args.steps.now c.end-end.result.replies.items (map (option_map submission_of) c.end-end.result.left.items) (run g c) c.docket-docket.ensures.legal c.docket-docket-2.ensures.images

pub returns-clause-allowed : goal.returns-clause-allowed
returns-clause-allowed g c = all_allowed c.args.desk c.end-end.result.desk (map submission_of c.args.submissions.items) c.args.steps.now c.end-end.result.replies.items (map (option_map submission_of) c.end-end.result.left.items) (run g c) c.docket-docket.ensures.legal

pub returns-clause-otherwise : goal.returns-clause-otherwise
returns-clause-otherwise g c = else_nothing c.args.desk c.end-end.result.desk (map submission_of c.args.submissions.items) c.args.steps.now c.end-end.result.replies.items (map (option_map submission_of) c.end-end.result.left.items) (run g c) c.docket-docket.ensures.legal
