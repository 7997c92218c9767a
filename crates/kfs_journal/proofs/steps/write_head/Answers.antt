use Rattle.std.proofs.Common.{refl, ◌∙◌, arith}
use Rattle.kfs_journal.specs.Disk.{In}
use Rattle.kfs_journal.specs.Format.{before_gate}
use Rattle.kfs_journal.specs.Journal.{IsRenewed}
use Rattle.kfs_journal.proofs.Moments.{and_then, weaker}
use Rattle.kfs_journal.proofs.Renewal.{renewed_less, renewed_head, gate_size, fresh}
use Rattle.kfs_journal.proofs.steps.write_head.Goals as goal

pub returns-in_err-close_head-clause-any_moment : goal.returns-in_err-close_head-clause-any_moment
returns-in_err-close_head-clause-any_moment g c =
    weaker g.D.Disk.moment g.D.Disk.left_since c.args.disk.now c.close_head.new.disk _ _ (λ f less. renewed_less c.args.file c.args.number c.args.state.now _ f less) c.close_head.ensures.any_moment

pub add_state-requires-clause-closed : goal.add_state-requires-clause-closed
add_state-requires-clause-closed g c = record {
  front = before_gate c.args.number;
  end = gate_size c.args.number;
  parts = c.in_ok-close_head.ensures.written.changed;
}

pub returns-in_err-add_state-clause-any_moment : goal.returns-in_err-add_state-clause-any_moment
returns-in_err-add_state-clause-any_moment g c =
    let P = In c.args.file (IsRenewed c.args.number c.args.state.now) (g.D.Disk.seen c.args.disk.now) in
    let closed = c.in_ok-close_head.ensures.written in
    let begun = weaker g.D.Disk.moment g.D.Disk.left_since c.args.disk.now c.close_head.new.disk _ P (λ f less. renewed_less c.args.file c.args.number c.args.state.now _ f less) c.close_head.ensures.any_moment in
    let head = weaker g.D.Disk.moment g.D.Disk.left_since c.close_head.new.disk c.add_state.new.disk _ P (λ f opening. renewed_head c.args.number c.args.state.now (omega arith) (omega (arith, c.requires.room)) c.args.file _ _ f _ refl closed.changed closed.stays opening) c.add_state.ensures.any_moment in
    and_then g.D.Disk.moment g.D.Disk.left_since c.args.disk.now c.close_head.new.disk c.add_state.new.disk P begun head

pub returns-clause-any_moment : goal.returns-clause-any_moment
returns-clause-any_moment g c =
    let P = In c.args.file (IsRenewed c.args.number c.args.state.now) (g.D.Disk.seen c.args.disk.now) in
    let closed = c.in_ok-close_head.ensures.written in
    let begun = weaker g.D.Disk.moment g.D.Disk.left_since c.args.disk.now c.close_head.new.disk _ P (λ f less. renewed_less c.args.file c.args.number c.args.state.now _ f less) c.close_head.ensures.any_moment in
    let head = weaker g.D.Disk.moment g.D.Disk.left_since c.close_head.new.disk c.add_state.new.disk _ P (λ f opening. renewed_head c.args.number c.args.state.now (omega arith) (omega (arith, c.requires.room)) c.args.file _ _ f _ refl closed.changed closed.stays opening) c.add_state.ensures.any_moment in
    and_then g.D.Disk.moment g.D.Disk.left_since c.args.disk.now c.close_head.new.disk c.add_state.new.disk P begun head

pub returns-clause-written : goal.returns-clause-written
returns-clause-written g c =
    let closed = c.in_ok-close_head.ensures.written in
    let written = c.in_ok-add_state.ensures.written in
    record {
      changed = fresh c.args.number c.args.state.now (omega arith) (omega (arith, c.requires.room)) _ _ refl (written.changed (before_gate c.args.number) closed.changed);
      stays = written.stays ∙ closed.stays;
    }
