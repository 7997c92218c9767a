use Rattle.std.proofs.Common.{◌≡◌, ◌<◌, None, ℕ}
use Rattle.kfs_model.specs.Table.{get}
use Rattle.kfs_maps.specs.Pages.Edits.{page_of}
use Rattle.kfs_maps.proofs.pages.pages.Pages.next.Given as goal

abbrev pub invariant-loop-index : goal.invariant-loop-index
invariant-loop-index g l = (m : ℕ) → l.after < m → page_of m < l.index → get l.self m ≡ None
