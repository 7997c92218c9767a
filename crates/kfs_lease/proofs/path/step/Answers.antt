use Rattle.std.proofs.Common.{sym, ◌∙◌}
use Rattle.kfs_image_nodes.specs.Contents.{sight_of}
use Rattle.kfs_types.specs.Views.{header_of}
use Rattle.kfs_lease.proofs.PathSteps.{stops_at_file, stops_unsearched, stops_unnamed, goes_on}
use Rattle.kfs_lease.proofs.path.step.Goals as goal

pub returns-in_default-clause-err : goal.returns-in_default-clause-err
returns-in_default-clause-err g c = λ names.
    stops_at_file (sight_of c.args.shape.now) c.args.client.now c.args.dir c.args.index c.args.component.now names c.in_default.ensures.none

pub returns-then-not-may-clause-err : goal.returns-then-not-may-clause-err
returns-then-not-may-clause-err g c = λ names.
    stops_unsearched (sight_of c.args.shape.now) c.args.client.now c.args.dir c.args.index c.args.component.now names (header_of c.in-Some.header) c.in-Some.ensures.header c.in-Some.ensures.kind
    (sym c.may.ensures ∙ c.if-not-may.true)

pub returns-in-Some-target_of-clause-ok : goal.returns-in-Some-target_of-clause-ok
returns-in-Some-target_of-clause-ok g c = λ names.
    goes_on (sight_of c.args.shape.now) c.args.client.now c.args.dir c.args.index c.args.component.now names (header_of c.in-Some.header) c.in-Some.ensures.header c.in-Some.ensures.kind
    (sym c.may.ensures ∙ c.if-not-may.false) c.in-Some-target_of.number (sym c.in-Some-target_of.ensures)

pub returns-in-None-clause-err : goal.returns-in-None-clause-err
returns-in-None-clause-err g c = λ names.
    stops_unnamed (sight_of c.args.shape.now) c.args.client.now c.args.dir c.args.index c.args.component.now names (header_of c.in-Some.header) c.in-Some.ensures.header c.in-Some.ensures.kind
    (sym c.may.ensures ∙ c.if-not-may.false) (sym c.in-None.ensures)
