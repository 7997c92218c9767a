use Rattle.std.proofs.Common.{◌≡◌, ◌+◌, suc, set, subst, rules, arith}
use Rattle.kfs_shared.specs.Batch.Jobs.{FromOn, IsJudged}
use Rattle.kfs_shared.proofs.BatchLemmas.OneTurn.{from_end, from_next}
use Rattle.kfs_shared.proofs.batch.together.+judge_from.Goals as goal

pub returns-then-from-jobs : goal.returns-then-from-jobs
returns-then-from-jobs g t c = from_end (λ v w. (w.number ≡ v.number) × IsJudged v.hand w.hand) c.args.from c.args.jobs.now (search rules)

pub returns : goal.returns
returns g t c =
    let next : c.args.from + 1 ≡ suc c.args.from = omega arith in
    from_next (λ v w. (w.number ≡ v.number) × IsJudged v.hand w.hand) c.args.from c.args.jobs.now c.judge_from.new.jobs c.index-jobs-from.result c.judge.new.self (search rules) (c.judge.ensures.number, c.judge.ensures.judged)
    (subst (λ k. FromOn (λ v w. (w.number ≡ v.number) × IsJudged v.hand w.hand) k (set c.args.jobs.now c.args.from c.judge.new.self) c.judge_from.new.jobs) next c.judge_from.ensures)
