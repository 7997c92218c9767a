use Rattle.std.proofs.Common.{◌≡◌, length, rules, arith}
use Rattle.std.proofs.lemmas.List.{nil_from_length}
use Rattle.std.proofs.lemmas.Result.{err_from_is_err_and}
use Rattle.kfs_server.proofs.ServingLemmas.Onward.{served_none, served_on, served_out, stopped_on}
use Rattle.kfs_server.proofs.ServingLemmas.Sessions.{nothing_served}
use Rattle.kfs_server.proofs.serving.onward.answer_frames.Goals as goal

pub frames-init : goal.frames-init
frames-init g c =
    let disk = g.D.Disk in
    let kept = c.args.kept.now in record {
      kept = c.requires.kept;
      is_open = c.requires.open;
      few = c.requires.few;
      unsaid = c.requires.unsaid;
      served = λ all are. served_none disk.may_leave disk.moment disk.left_since _ kept all c.args.frames.now are
          (nothing_served disk.may_leave disk.moment disk.left_since disk.seen kept (λ files left. g.met.D.Disk.only_now kept.disk files left) (c.requires.kept c.requires.open));
    }

pub frames-preserved : goal.frames-preserved
frames-preserved g c =
    let disk = g.D.Disk in
    let so_far = c.frames.invariant in record {
      kept = c.answer_next.ensures.kept;
      is_open = c.in_ok-rest.ensures.open;
      few = omega (arith, so_far.few, c.in_ok-rest.ensures.fewer);
      unsaid = c.in_ok-rest.ensures.unsaid;
      served = λ all are.
          let before = so_far.served all are in
          served_on disk.may_leave disk.moment disk.left_since _ _ _ c.args.kept.now c.frames.kept c.answer_next.new.kept all c.frames.rest.now _ before (c.in_ok-rest.ensures.served before.later before.are);
    }

pub frames-smaller : goal.frames-smaller
frames-smaller g c = omega (arith, c.in_ok-rest.ensures.fewer)

pub returns-clause-served : goal.returns-clause-served
returns-clause-served g c = λ all are.
    let disk = g.D.Disk in
    let zero : length c.frames.rest.now ≡ 0 = search rules in
    served_out disk.may_leave disk.moment disk.left_since _ _ c.args.kept.now c.frames.kept all c.frames.rest.now (nil_from_length c.frames.rest.now zero) (c.frames.invariant.served all are)

pub returns-in_err-rest-clause-served : goal.returns-in_err-rest-clause-served
returns-in_err-rest-clause-served g c = λ all are.
    let disk = g.D.Disk in
    let p = err_from_is_err_and c.from_residual.result c.from_residual.ensures.1 in
    let before = c.frames.invariant.served all are in
    rw (p.1, p.2) (stopped_on disk.may_leave disk.moment disk.left_since c.in_err-rest.field-0.0 _ _ _ c.args.kept.now c.frames.kept c.answer_next.new.kept all c.frames.rest.now before (c.in_err-rest.ensures.served before.later before.are))
