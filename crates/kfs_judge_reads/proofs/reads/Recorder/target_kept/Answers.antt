-- An answer that is recorded is that of the name, and a new one is the view's.
use Rattle.std.proofs.Common.{◌≡◌, ◌∷◌, [], ◌∙◌, ap, sym}
use Rattle.kfs_model.specs.Sight.{ClientSight, NameIn, Number, answer}
use Rattle.kfs_judge_reads.specs.Reads.{answer_of, cell_of}
use Rattle.kfs_judge_reads.specs.Kept.{ReadsShown}
use Rattle.kfs_judge_reads.specs.View.{client_sight_in}
use Rattle.kfs_judge_reads.specs.declared.reads.Read.TheVariants.{Look}
use Rattle.kfs_judge_reads.specs.declared.reads.ReadAnswer.TheVariants as answers
use Rattle.kfs_image_nodes.specs.declared.cell.Cell.TheVariants.{Name}
use Rattle.kfs_image_nodes.specs.declared.cell.Answer.TheVariants as looks
use Rattle.kfs_judge_reads.proofs.ReadsAgree.{known_by_key, once_by_one}
use Rattle.kfs_judge_reads.proofs.Recording.{goes_nowhere, within_same}
use Rattle.kfs_judge_reads.proofs.OneLook.{looks_at_one, read_as}
use Rattle.kfs_judge_reads.proofs.Ways.{hold_added}
use Rattle.kfs_judge_reads.proofs.reads.Recorder.target_kept.Goals as goal

pub invariant_of-self : goal.invariant_of-self
invariant_of-self g c =
    let told = answers.Look (looks.Name c.target-number.result) in
    record { ways = hold_added c.args.self.now.climbs c.add.result c.args.self.now.reads c.add.new.self c.in_ok-read.read told c.add.ensures.ok c.add.ensures.err c.args.self.now.ways }

pub returns-in-Some : goal.returns-in-Some
returns-in-Some g c =
    let d = c.args.key.now.0 in
    let m = c.args.key.now.1 in
    record {
      goes = goes_nowhere c.args.self.now;
      known = λ state agrees.
          c.number_in.ensures (state.sight.name d m) (ap (λ read. answer state (cell_of read)) (sym c.in_ok-read.ensures.read) ∙ known_by_key _ c.in_ok-read.read _ (sym c.in-Some.ensures.found) state agrees);
      among = within_same c.args.self.now.reads.entries (NameIn d m ∷ []);
    }

pub returns : goal.returns
returns g c =
    let d = c.args.key.now.0 in
    let m = c.args.key.now.1 in
    let number = c.target-number.result in
    let told = answers.Look (looks.Name number) in
    let old = c.args.self.now in
    let last = ap (λ (r : ReadsShown). r.entries) c.in_ok-add.ensures.ok in
    looks_at_one old _ (Look (Name d m)) told
    (read_as old.reads.entries told c.in_ok-read.ensures.read last)
    (ap (λ (r : ReadsShown). r.keeps) c.in_ok-add.ensures.ok)
    (ap (λ view. client_sight_in view old.client) c.target-number.ensures.same)
    (ap Number (sym c.target-number.ensures.target))
    number (λ found before. before.sight.name d m ≡ found)
    (λ kept. once_by_one old.reads.entries c.add.new.self.entries c.in_ok-read.read told last (c.in_default.ensures.none kept))
    leads
  where
    leads : (state : ClientSight) → answer state (cell_of (Look (Name c.args.key.now.0 c.args.key.now.1))) ≡ answer_of (answers.Look (looks.Name c.target-number.result)) → state.sight.name c.args.key.now.0 c.args.key.now.1 ≡ c.target-number.result
    leads state is = cc
