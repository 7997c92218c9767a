use Rattle.std.proofs.Common.{◌≡◌, ◌∙◌, ap, sym, arith}
use Rattle.std.proofs.lemmas.List.{drop_all}
use Rattle.kfs_model.specs.Table.{get}
use Rattle.kfs_maps.specs.Pages.Edits.{rewritten}
use Rattle.kfs_maps.proofs.PagesLemmas.Tables.{get-rewritten}
use Rattle.kfs_maps.proofs.pages.page.Page.write.Goals as goal

pub returns-clause-shown : goal.returns-clause-shown
returns-clause-shown g c n =
    let kept : c.loop-edit.self.values ≡ rewritten c.args.self.now.values c.args.edits.now =
    ap (rewritten c.loop-edit.self.values) (sym (drop_all c.loop-edit.edit-index c.args.edits.now (omega (arith, c.loop-edit-test.false)))) ∙ c.loop-edit.invariant.values in
    ap (λ t. get t n) kept ∙ get-rewritten c.args.self.now.values c.args.edits.now n
