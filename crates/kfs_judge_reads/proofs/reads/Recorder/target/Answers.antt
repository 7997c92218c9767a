-- A name that isn't kept leads where the view says.
use Rattle.std.proofs.Common.{◌≡◌, ◌∙◌, ap, sym}
use Rattle.kfs_model.specs.Sight.{ClientSight, Number, answer}
use Rattle.kfs_judge_reads.specs.Kept.{ReadsShown}
use Rattle.kfs_judge_reads.specs.Reads.{answer_of, cell_of}
use Rattle.kfs_judge_reads.specs.View.{client_sight_in}
use Rattle.kfs_judge_reads.specs.declared.reads.Read.TheVariants.{Look}
use Rattle.kfs_judge_reads.specs.declared.reads.ReadAnswer.TheVariants as answers
use Rattle.kfs_image_nodes.specs.declared.cell.Cell.TheVariants.{Name}
use Rattle.kfs_image_nodes.specs.declared.cell.Answer.TheVariants as looks
use Rattle.kfs_judge_reads.proofs.ReadsAgree.{grows_by_one}
use Rattle.kfs_judge_reads.proofs.OneLook.{unkept_look}
use Rattle.kfs_judge_reads.proofs.Ways.{hold_further}
use Rattle.kfs_judge_reads.proofs.reads.Recorder.target.Goals as goal

pub invariant_of-self : goal.invariant_of-self
invariant_of-self g c =
    let last = ap (λ (r : ReadsShown). r.entries) c.see_name.ensures in
    record { ways = hold_further c.args.self.now.reads.entries c.see_name.new.self.entries c.args.self.now.climbs (grows_by_one _ _ _ _ last) c.args.self.now.ways }

pub returns : goal.returns
returns g c =
    let d = c.args.key.now.0 in
    let m = c.args.key.now.1 in
    let number = c.target-number.result in
    let told = answers.Look (looks.Name number) in
    unkept_look c.args.self.now _ (Look (Name d m)) told
    (ap (λ (r : ReadsShown). r.entries) c.see_name.ensures)
    (ap (λ (r : ReadsShown). r.keeps) c.see_name.ensures)
    (ap (λ view. client_sight_in view c.args.self.now.client) c.target-number.ensures.same)
    (ap Number (sym c.target-number.ensures.target))
    number (λ found before. before.sight.name d m ≡ found)
    (sym c.are_kept.ensures ∙ c.if-are_kept.false)
    leads
  where
    leads : (state : ClientSight) → answer state (cell_of (Look (Name c.args.key.now.0 c.args.key.now.1))) ≡ answer_of (answers.Look (looks.Name c.target-number.result)) → state.sight.name c.args.key.now.0 c.args.key.now.1 ≡ c.target-number.result
    leads state is = cc
