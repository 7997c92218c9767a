use Rattle.std.proofs.Common.{◌≡◌, false, List, ◌∷◌, [], ◌++◌, length, Result, Ok, Err, refl, sym, ap, subst, ◌∙◌, append_assoc, append-nil, arith}
use Rattle.std.specs.Vec.Iter.{into_iter_items}
use Rattle.std.specs.Prelude.{IfOk, IfErr}
use Rattle.kfs_plan.specs.Judging.{submission_of}
use Rattle.kfs_plan.specs.declared.submission.Back.{Back}
use Rattle.kfs_plan.specs.declared.submission.Submission.{Submission}
use Rattle.kfs_desk.specs.declared.history.answers.Reply.{Reply}
use Rattle.kfs_desk.specs.Machine.{Desk, IsAnswered, RunsThrough}
use Rattle.kfs_desk.proofs.Histories.{runs_first}
use Rattle.kfs_desk.proofs.desk.Desk.submit_all.Goals as goal

nothing_left : {X : Type 0} (xs : List X) → length xs ≡ 0 → xs ≡ []
nothing_left [] none = refl
nothing_left (x ∷ xs) none = absurd (omega arith)

-- an answer leaves the opening and the limit
both_stay : {A : Type 0} (submission : Submission A) (old new : Desk) (answer : Result Reply (Back A))
    → IfOk answer (λ reply. IsAnswered old (submission_of submission) false reply new) → IfErr answer (λ back. (back.submission ≡ submission) × (new ≡ old))
    → (new.opening ≡ old.opening) × (new.limit ≡ old.limit)
both_stay submission old new (Ok reply) answered same = (answered.opening, answered.limit)
both_stay submission old new (Err back) answered same = (ap (λ (d : Desk). d.opening) same.1, ap (λ (d : Desk). d.limit) same.1)

pub push_reserved-requires : goal.push_reserved-requires
push_reserved-requires g c =
    let steps = ap length c.in-Some.ensures.steps.0 in
    let room = c.loop-submission.invariant.room in
    omega arith

pub loop-submission-preserved : goal.loop-submission-preserved
loop-submission-preserved g c =
    let at = c.loop-submission in
    let answer = c.submit-answer.result in
    let steps = c.in-Some.ensures.steps.0 in
    let stay = both_stay c.in-Some.submission at.self c.submit-answer.new.self c.submit-answer.result c.submit-answer.ensures.answered c.submit-answer.ensures.back in
    record {
      runs = λ answers last rest.
          let told = c.submit-answer.ensures in
          let first = runs_first at.self c.in-Some.submission c.submit-answer.new.self (into_iter_items c.next.new.self) answer answers last told.answered told.back told.full rest in
          subst (λ all. RunsThrough c.args.self.now (into_iter_items c.into_iter-submission-iterator.result) all last)
          (sym (append_assoc at.answers.items (answer ∷ []) answers) ∙ ap (λ front. front ++ answers) (sym c.push_reserved.ensures.items))
          (at.invariant.runs (answer ∷ answers) last (subst (λ submissions. RunsThrough at.self submissions (answer ∷ answers) last) (sym steps) first));
      room =
          let counted = ap length steps in
          let room = at.invariant.room in
          let len = c.push_reserved.ensures.len in
          let capacity = c.push_reserved.ensures.capacity in
          omega arith;
      count =
          let was = at.invariant.count in
          let gone = c.in-Some.ensures.steps.1 in
          let counted = ap length steps in
          omega arith;
      opening = stay.0 ∙ at.invariant.opening;
      limit = stay.1 ∙ at.invariant.limit;
      legal = c.submit-answer.ensures.legal;
    }

pub returns-clause-answers : goal.returns-clause-answers
returns-clause-answers g c =
    let at = c.loop-submission in
    let none = c.in-None.ensures.steps in
    let empty : into_iter_items at.submission-iterator ≡ [] = nothing_left _ (sym at.invariant.count ∙ none.0) in
    let ended = at.invariant.runs [] at.self (subst (λ submissions. RunsThrough at.self submissions [] at.self) (sym empty) refl) in
    let whole = subst (λ all. RunsThrough c.args.self.now (into_iter_items c.into_iter-submission-iterator.result) all at.self) (append-nil at.answers.items) ended in
    subst (λ submissions. RunsThrough c.args.self.now submissions at.answers.items at.self) c.into_iter-submission-iterator.ensures.into_iter_gives.0 whole
