-- A read that isn't kept is answered by the view, and goes last.
use Rattle.std.proofs.Common.{◌∙◌, ap, sym, refl}
use mathlib.Core.Bool.{true≢false}
use Rattle.kfs_judge_reads.specs.Kept.{ReadsShown}
use Rattle.kfs_judge_reads.proofs.ReadsAgree.{grows_by_one, known_at_end, agrees_by_one}
use Rattle.kfs_judge_reads.proofs.Recording.{within_one}
use Rattle.kfs_judge_reads.proofs.Ways.{hold_further}
use Rattle.kfs_judge_reads.proofs.reads.Recorder.read.Goals as goal

pub returns-clause-looks : goal.returns-clause-looks
returns-clause-looks g c =
    let last = ap (λ (r : ReadsShown). r.entries) c.see.ensures in
    let unkept = sym c.are_kept.ensures ∙ c.if-are_kept.false in
    record {
      goes = record {
        grows = grows_by_one _ _ _ _ last;
        same = refl;
        keeps = ap (λ (r : ReadsShown). r.keeps) c.see.ensures;
        agrees = agrees_by_one _ _ _ _ _ last c.view_answer-answer.ensures;
        once = λ kept. absurd (true≢false (sym kept ∙ unkept));
      };
      known = known_at_end _ _ _ _ last;
      among = within_one _ _ _ _ last;
    }

pub invariant_of-self : goal.invariant_of-self
invariant_of-self g c =
    let last = ap (λ (r : ReadsShown). r.entries) c.see.ensures in
    record { ways = hold_further c.args.self.now.reads.entries c.see.new.self.entries c.args.self.now.climbs (grows_by_one _ _ _ _ last) c.args.self.now.ways }
