-- The worker holds the verdict, and the line says so.
use Rattle.std.proofs.Common.{rules, ◌≡◌, codes, None, Some, List, ℕ, ◌++◌, ◌∙◌, ap, append_assoc, sym, subst}
use Rattle.std.specs.Prelude.{decimal}
use Rattle.kfs_plan.specs.Judging.{submission_of}
use Rattle.kfs_desk.specs.Verdict.Verdict.{verdict_of}
use Rattle.kfs_program.specs.Engine.Session.{After, AnswersJudge}
use Rattle.kfs_program.specs.Verdicts.HeldVerdicts.{held_by}
use Rattle.kfs_program_text.specs.Parts.{line_of}
use Rattle.kfs_program.proofs.sessions.verdicts.judge_for.Goals as goal

-- parts that are appended one by one are appended together
in_one : (before first second third : List ℕ) → ((before ++ first) ++ second) ++ third ≡ before ++ ((first ++ second) ++ third)
in_one before first second third = ap (λ (l : List ℕ). l ++ third) (append_assoc before first second) ∙ append_assoc before (first ++ second) third

pub returns-clause-ok : goal.returns-clause-ok
returns-clause-ok g c =
    let desk = c.args.desk.now in
    let hands = c.args.hands.now in
    let worker = c.args.worker.number in
    let line : List ℕ = line_of (codes "judged " ++ decimal worker) in
    let none : held_by hands worker ≡ None = search rules in
    let numbered : c.number-2.new.out.items ≡ (c.args.reply.now.items ++ codes "judged ") ++ decimal worker =
    c.number-2.ensures.items ∙ (λ i. c.text.ensures.items i ++ decimal (c.number.ensures.value i)) in
    let items : c.text-2.new.out.items ≡ c.args.reply.now.items ++ line =
    c.text-2.ensures.items ∙ ap (λ (l : List ℕ). l ++ codes "\n") numbered ∙ in_one c.args.reply.now.items (codes "judged ") (decimal worker) (codes "\n") in
    let answers : AnswersJudge desk hands worker None (submission_of c.args.submission) (line, After desk c.put.new.self) =
    (verdict_of c.in_ok-judged.judged, c.in_ok-judged.ensures.verdict, λ i. (line, After desk (c.put.ensures i))) in
    (line, items, subst (λ held. AnswersJudge desk hands worker held (submission_of c.args.submission) (line, After desk c.put.new.self)) (sym none) answers)
