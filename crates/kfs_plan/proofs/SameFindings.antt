-- What holds of an outcome holds of the same one with another net of the same rows.
use Rattle.std.specs.Prelude.{◌≡◌, ℕ, List}
use Rattle.std.proofs.Common.{sym, ap, subst, ◌∙◌}
use Rattle.kfs_model.specs.Sight.{sight}
use Rattle.kfs_model.specs.Judgement.{State, Submission, Verdict, Yes, No}
use Rattle.kfs_judge.proofs.SameNets.{same_net}
use Rattle.kfs_judge.specs.Views.{View, Read, ReadAnswer}
use Rattle.kfs_plan.specs.declared.submission.Outcome.{Outcome}
use Rattle.kfs_plan.specs.declared.submission.Outcome.TheVariants as outcomes
use Rattle.kfs_plan.specs.Judging.{AreLooked, IsSameFinding, IsVerdict, RefusesByFault, TellsVerdict, stops_before}

module _ {A : Type 0} where
  pub same_verdict : (s : State) (submission : Submission) (outcome other : Outcome A (List ℕ)) → IsSameFinding outcome other → IsVerdict s submission outcome → IsVerdict s submission other
  same_verdict s submission (outcomes.No fault) (outcomes.No other) same is = subst (λ f. IsVerdict {A = A} s submission (outcomes.No f)) (sym same) is
  same_verdict s submission (outcomes.Yes log plan net told) (outcomes.Yes l p n t) same is =
      subst (IsVerdict s submission) (λ i. outcomes.Yes (sym same.0 i) (sym same.1 i) n (sym same.3 i))
      (record { verdict = is.verdict; judgement = is.judgement; told = tells is.verdict is.told })
    where
      tells : (verdict : Verdict) → TellsVerdict s submission (outcomes.Yes log plan net told) verdict → TellsVerdict s submission (outcomes.Yes log plan n told) verdict
      tells (Yes after marked_after) right = record {
        spelled = right.spelled;
        client = right.client;
        row = right.row;
        comes = record {
          ran = right.comes.ran;
          sound = right.comes.sound;
          allowed = right.comes.allowed;
          differs = same_net (sight s.tree) (sight after) net n same.2 right.comes.differs;
          ran_marked = right.comes.ran_marked;
        };
        right = right.right;
        need_told = right.need_told;
      }
      tells (No refusal) right = absurd right
  same_verdict s submission (outcomes.No fault) (outcomes.Yes l p n t) same is = absurd same
  same_verdict s submission (outcomes.Yes log plan net told) (outcomes.No other) same is = absurd same

  pub same_refusal : (outcome other : Outcome A (List ℕ)) → IsSameFinding outcome other → RefusesByFault outcome → RefusesByFault other
  same_refusal (outcomes.No fault) (outcomes.No other) same is = subst (λ f. RefusesByFault {A = A} (outcomes.No f)) (sym same) is
  same_refusal (outcomes.Yes log plan net told) (outcomes.Yes l p n t) same is = is
  same_refusal (outcomes.No fault) (outcomes.Yes l p n t) same is = absurd same
  same_refusal (outcomes.Yes log plan net told) (outcomes.No other) same is = absurd same

  stops_alike : (outcome other : Outcome A (List ℕ)) → IsSameFinding outcome other → stops_before other ≡ stops_before outcome
  stops_alike (outcomes.No fault) (outcomes.No other) same = ap (λ f. stops_before {A = A} (outcomes.No f)) same
  stops_alike (outcomes.Yes log plan net told) (outcomes.Yes l p n t) same = cc
  stops_alike (outcomes.No fault) (outcomes.Yes l p n t) same = absurd same
  stops_alike (outcomes.Yes log plan net told) (outcomes.No other) same = absurd same

  pub same_looks : (view : View A) (submission : Submission) (outcome other : Outcome A (List ℕ)) (reads : List (Read × ReadAnswer)) → IsSameFinding outcome other → AreLooked view submission outcome reads → AreLooked view submission other reads
  same_looks view submission outcome other reads same are =
      let alike = stops_alike outcome other same in
      record { unread = λ stops. are.unread (sym alike ∙ stops); looked = λ goes. are.looked (sym alike ∙ goes) }
