use Rattle.std.proofs.Common.{◌≡◌, ◌<◌, None, get_or, ℕ}
use Rattle.kfs_maps.proofs.pages.page.Page.is_blank.Given as goal

abbrev pub invariant-loop-value : goal.invariant-loop-value
invariant-loop-value g l = (k : ℕ) → k < l.value-index → get_or l.value-items k None ≡ None
