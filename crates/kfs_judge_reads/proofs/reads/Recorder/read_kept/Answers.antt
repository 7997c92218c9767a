-- An answer that is recorded is that of its cell, and a new one goes last.
use Rattle.std.proofs.Common.{◌∷◌, [], ap, sym, refl}
use Rattle.kfs_judge_reads.specs.Kept.{ReadsShown}
use Rattle.kfs_judge_reads.proofs.ReadsAgree.{known_by_key, grows_by_one, known_at_end, agrees_by_one, once_by_one}
use Rattle.kfs_judge_reads.proofs.Recording.{goes_nowhere, within_same, within_one}
use Rattle.kfs_judge_reads.proofs.Ways.{hold_added}
use Rattle.kfs_judge_reads.specs.Reads.{cell_of}
use Rattle.kfs_judge_reads.proofs.reads.Recorder.read_kept.Goals as goal

pub returns-in-Some-clause-looks : goal.returns-in-Some-clause-looks
returns-in-Some-clause-looks g c = record {
  goes = goes_nowhere c.args.self.now;
  known = known_by_key _ _ _ (sym c.in-Some.ensures.found);
  among = within_same c.args.self.now.reads.entries (cell_of c.args.read ∷ []);
}

pub returns-clause-looks : goal.returns-clause-looks
returns-clause-looks g c =
    let last = ap (λ (r : ReadsShown). r.entries) c.in_ok-add.ensures.ok in
    record {
      goes = record {
        grows = grows_by_one _ _ _ _ last;
        same = refl;
        keeps = ap (λ (r : ReadsShown). r.keeps) c.in_ok-add.ensures.ok;
        agrees = agrees_by_one _ _ _ _ _ last c.view_answer-answer.ensures;
        once = λ kept. once_by_one _ _ _ _ last (c.in_default.ensures.none kept);
      };
      known = known_at_end _ _ _ _ last;
      among = within_one _ _ _ _ last;
    }

pub invariant_of-self : goal.invariant_of-self
invariant_of-self g c = record { ways = hold_added c.args.self.now.climbs c.add.result c.args.self.now.reads c.add.new.self c.args.read c.view_answer-answer.result c.add.ensures.ok c.add.ensures.err c.args.self.now.ways }
