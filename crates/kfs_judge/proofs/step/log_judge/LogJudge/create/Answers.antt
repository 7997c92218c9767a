-- The new node has the client's uid and gid, and its cells were looked at.
use Rattle.std.specs.Prelude.{refl, ◌==◌, ◌||◌}
use Rattle.std.specs.Option.{option_map}
use Rattle.std.proofs.Common.{ap, ◌+◌, ◌++◌, ◌∙◌, arith}
use Rattle.kfs_model.specs.Check.{checks_of, looked}
use Rattle.kfs_model.specs.Entry.{Create}
use Rattle.kfs_model.specs.Sight.{NameIn, HeaderOf}
use Rattle.kfs_types.specs.Views.{kind_of}
use Rattle.kfs_model.specs.SeenAfter.{seen_after}
use Rattle.kfs_judge_reads.specs.Draft.Overlay.{over, entry_context_of, with_node}
use Rattle.kfs_judge.specs.Check.Checks.{reason_of}
use Rattle.kfs_judge.proofs.StepLemmas.CleanLooks.{create_looks}
use Rattle.kfs_judge.proofs.CheckLemmas.Looking.{written_wider}
use Rattle.kfs_judge_reads.proofs.DraftLemmas.Overlays.{shifts_wider}
use Rattle.kfs_judge_reads.proofs.Recording.{left_is_part, right_is_part}
use Rattle.kfs_judge.proofs.StepLemmas.Entered.{is_cut_short, has_fault}
use Rattle.kfs_judge.proofs.step.log_judge.LogJudge.create.Goals as goal

pub returns-in_err-fault : goal.returns-in_err-fault
returns-in_err-fault g c = is_cut_short c.args.self.now _ (Create c.args.dir c.args.name.now c.args.number (kind_of c.args.kind) c.args.mode) (c.in_err-fault.ensures (kind_of c.args.kind) c.args.mode).goes refl _ c.from_residual.ensures.0

pub returns-in-Some : goal.returns-in-Some
returns-in-Some g c = has_fault c.args.self.now _ (Create c.args.dir c.args.name.now c.args.number (kind_of c.args.kind) c.args.mode) (c.in_ok-fault.ensures (kind_of c.args.kind) c.args.mode).goes refl c.in-Some.reason (λ state agrees. (c.in_ok-fault.ensures (kind_of c.args.kind) c.args.mode).known state agrees ∙ ap (option_map reason_of) c.in-Some.is) (c.in_ok-fault.ensures (kind_of c.args.kind) c.args.mode).among

pub returns-in_err-add_node : goal.returns-in_err-add_node
returns-in_err-add_node g c = is_cut_short c.args.self.now _ (Create c.args.dir c.args.name.now c.args.number (kind_of c.args.kind) c.args.mode) (c.in_ok-fault.ensures (kind_of c.args.kind) c.args.mode).goes refl _ c.from_residual-in_err-add_node.ensures.0

pub returns : goal.returns
unfolding seen_after
returns g c = record {
  goes = (c.in_ok-fault.ensures (kind_of c.args.kind) c.args.mode).goes;
  client = refl;
  known = λ state agrees. (c.in_ok-fault.ensures (kind_of c.args.kind) c.args.mode).known state agrees ∙ ap (option_map reason_of) c.in_default.is;
  among = (c.in_ok-fault.ensures (kind_of c.args.kind) c.args.mode).among;
  change = λ _. record {
    shown = λ state agrees.
        c.in_ok-add_node.ensures.shown state.sight
        ∙ λ i. with_node c.args.dir c.args.name.now c.args.number (record { kind = kind_of c.args.kind; mode = c.args.mode; uid = c.uid.ensures i; gid = c.gid.ensures i; links = 1; size = 0 }) (over c.args.self.now.draft state.sight);
    written = λ state agrees among written.
        let p = entry_context_of c.args.self.now.client.now c.args.self.now.draft state in
        let front = looked p (checks_of p (Create c.args.dir c.args.name.now c.args.number (kind_of c.args.kind) c.args.mode)) in
        let clean = (c.in_ok-fault.ensures (kind_of c.args.kind) c.args.mode).known state agrees ∙ ap (option_map reason_of) c.in_default.is in
        let looks = create_looks p c.args.dir c.args.name.now c.args.number (kind_of c.args.kind) c.args.mode clean in
        c.in_ok-add_node.ensures.written (front ++ among) (written_wider c.args.self.now.draft among (front ++ among) (right_is_part front among) written) (left_is_part front among (NameIn c.args.dir c.args.name.now) looks.0) (left_is_part front among (HeaderOf c.args.number) looks.1);
    created = λ numbers are n. c.in_ok-add_node.ensures.created n ∙ ap (λ was. (c.args.number == n) || was) (are n);
    kept = c.in_ok-add_node.ensures.kept;
    reached = λ n never. cc;
    shifts = λ most bound. shifts_wider c.add_node.new.self (most + 1) (most + 3) (omega arith) (c.in_ok-add_node.ensures.shifts most bound);
  };
}

pub add_node-requires : goal.add_node-requires
add_node-requires g c = shifts_wider c.args.self.now.draft 2147483644 2147483646 (omega arith) c.requires
