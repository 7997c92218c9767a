-- A header that isn't kept is the view's.
use Rattle.std.proofs.Common.{◌≡◌, ◌∙◌, ap, sym, option_map}
use Rattle.kfs_types.specs.Views.{header_of}
use Rattle.kfs_model.specs.Sight.{ClientSight, Head, answer}
use Rattle.kfs_judge_reads.specs.Kept.{ReadsShown}
use Rattle.kfs_judge_reads.specs.Reads.{answer_of, cell_of}
use Rattle.kfs_judge_reads.specs.View.{client_sight_in}
use Rattle.kfs_judge_reads.specs.declared.reads.Read.TheVariants.{Look}
use Rattle.kfs_judge_reads.specs.declared.reads.ReadAnswer.TheVariants as answers
use Rattle.kfs_image_nodes.specs.declared.cell.Cell.TheVariants as cells
use Rattle.kfs_image_nodes.specs.declared.cell.Answer.TheVariants as looks
use Rattle.kfs_judge_reads.proofs.ReadsAgree.{grows_by_one}
use Rattle.kfs_judge_reads.proofs.OneLook.{unkept_look, read_as}
use Rattle.kfs_judge_reads.proofs.Ways.{hold_further}
use Rattle.kfs_judge_reads.proofs.reads.Recorder.header.Goals as goal

pub invariant_of-self : goal.invariant_of-self
invariant_of-self g c =
    let last = ap (λ (r : ReadsShown). r.entries) c.see.ensures in
    record { ways = hold_further c.args.self.now.reads.entries c.see.new.self.entries c.args.self.now.climbs (grows_by_one _ _ _ _ last) c.args.self.now.ways }

pub returns : goal.returns
returns g c =
    let header = c.header-header.result in
    unkept_look c.args.self.now _ (Look (cells.Header c.args.number)) (answers.Look (looks.Header header))
    (read_as c.args.self.now.reads.entries (answers.Look (looks.Header header)) c.header-seen.ensures (ap (λ (r : ReadsShown). r.entries) c.see.ensures))
    (ap (λ (r : ReadsShown). r.keeps) c.see.ensures)
    (ap (λ view. client_sight_in view c.args.self.now.client) c.header-header.ensures.same)
    (ap Head (sym c.header-header.ensures.header))
    header (λ found before. before.sight.head c.args.number ≡ option_map header_of found)
    (sym c.are_kept.ensures ∙ c.if-are_kept.false)
    leads
  where
    leads : (state : ClientSight) → answer state (cell_of (Look (cells.Header c.args.number))) ≡ answer_of (answers.Look (looks.Header c.header-header.result)) → state.sight.head c.args.number ≡ option_map header_of c.header-header.result
    leads state is = cc
