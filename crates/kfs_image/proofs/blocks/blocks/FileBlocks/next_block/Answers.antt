use Rattle.std.proofs.Common.{◌≡◌, ℕ, true, None, sym, ap, subst, ◌∙◌}
use Rattle.std.specs.Prelude.{IfNone, is_some}
use Rattle.kfs_model.specs.Table.{numbers, pairs, get}
use Rattle.kfs_maps.specs.Chunks.Starts.{is_from, IsNextEntry}
use Rattle.kfs_maps.proofs.ChunksLemmas.Tables.{get-table}
use Rattle.kfs_image.specs.Blocks.Blocks.{BlocksShown}
use Rattle.kfs_image.proofs.blocks.blocks.FileBlocks.next_block.Goals as goal

pub returns-in_err-block-clause-none : goal.returns-in_err-block-clause-none
returns-in_err-block-clause-none g c =
    let cmp = (pairs numbers numbers).compare in
    let start = c.args.start.now in
    subst (λ r. IfNone r ((q : ℕ × ℕ) → is_from cmp start q ≡ true → get c.args.self.now.placement q ≡ None)) (sym c.from_residual.ensures)
    (λ q from.
    ap (λ (b : BlocksShown). get b.placement q) (sym c.self.view_is)
    ∙ get-table (pairs numbers numbers) c.self.inside.placement q
    ∙ c.in_err-block.ensures.none q (subst (λ b. is_from cmp b q ≡ true) (sym c.as_ref.ensures) from))

pub returns-clause-found : goal.returns-clause-found
unfolding get
returns-clause-found g c =
    let cmp = (pairs numbers numbers).compare in
    let start = c.args.start.now in
    let placement = c.self.inside.placement in
    let block = c.in_ok-block.block.now in
    let place = c.in_ok-block.place.now in
    let next = subst (λ b. IsNextEntry cmp b placement block place) c.as_ref.ensures c.in_ok-block.ensures.some in
    subst (λ (b : BlocksShown). IsNextEntry cmp start b.placement.entries block place) c.self.view_is (record {
      found = get-table (pairs numbers numbers) placement block ∙ next.found;
      within = next.within;
      least = λ q from some. next.least q from (ap is_some (sym (get-table (pairs numbers numbers) placement q)) ∙ some);
    })
