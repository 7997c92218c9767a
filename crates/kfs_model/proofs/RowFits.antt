-- What a call comes to makes a row that fits.
use Rattle.std.proofs.Common.{◌≡◌, true, cond, Option, Some, None, refl, ap, ◌∙◌}
use Rattle.kfs_model.specs.Judgement.{State, is_yes}
use Rattle.kfs_model.specs.Machine.{CallAnswer, CallAnswer-equality, same_answer, CallOutcome, outcome_of, Row, answered, next}

same_answer_itself : (a : CallAnswer) → same_answer a a ≡ true
same_answer_itself a = by (CallAnswer-equality a a)
  where
    by : (d : Dec (a ≡ a)) → is_yes d ≡ true
    by (yes same) = refl
    by (no differ) = absurd (differ refl)

pub row_fits : (s t : State) (row : Row) → outcome_of s row.call row.places ≡ Some (row.answer, t) → next s row ≡ Some t
unfolding next
row_fits s t row is =
    ap (λ (o : Option CallOutcome). elim o [ None ↦ None | Some outcome ↦ answered row.answer outcome ]) is
    ∙ ap (λ b. cond b (Some t) None) (same_answer_itself row.answer)
