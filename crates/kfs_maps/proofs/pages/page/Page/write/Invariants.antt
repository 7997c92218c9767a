use Rattle.std.proofs.Common.{◌≡◌, drop}
use Rattle.kfs_maps.specs.Pages.Edits.{rewritten}
use Rattle.kfs_maps.proofs.pages.page.Page.write.Given as goal

abbrev pub invariant-loop-edit : goal.invariant-loop-edit
invariant-loop-edit g l = record {
  index : l.self.index ≡ l.fn.self.index;
  values : rewritten l.self.values (drop l.edit-index l.edits) ≡ rewritten l.fn.self.values l.edits;
}
