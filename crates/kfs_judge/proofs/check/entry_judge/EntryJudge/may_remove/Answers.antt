-- What the first look tells still holds after the second.
use Rattle.std.specs.Prelude.{[], ◌∷◌}
use Rattle.std.proofs.Common.{ap₂, sym, ◌∙◌}
use Rattle.kfs_model.specs.Check as checks
use Rattle.kfs_model.specs.Sight.{HeaderOf}
use Rattle.kfs_judge_reads.proofs.Recording.{look_cut_short, goes_then, within_then, within_wider, left_is_part, right_is_part}
use Rattle.kfs_judge.proofs.check.entry_judge.EntryJudge.may_remove.Goals as goal

pub returns-in_err-node : goal.returns-in_err-node
returns-in_err-node g c = look_cut_short (goes_then c.in_ok-directory.ensures.goes c.in_err-node.ensures.goes) _ _ _ c.from_residual-in_err-node.ensures.0

pub returns : goal.returns
returns g c =
    let first = HeaderOf c.args.dir ∷ [] in
    let second = HeaderOf c.args.number ∷ [] in
    record {
      goes = goes_then c.in_ok-directory.ensures.goes c.in_ok-node.ensures.goes;
      known = λ state agrees.
          ap₂ (checks.may_remove c.args.self.now.client.now) (c.in_ok-directory.ensures.known state (c.in_ok-node.ensures.goes.grows state agrees)) (c.in_ok-node.ensures.known state agrees)
          ∙ sym c.may_be_removed.ensures;
      among = within_then (within_wider (left_is_part first second) c.in_ok-directory.ensures.among) (within_wider (right_is_part first second) c.in_ok-node.ensures.among);
    }
