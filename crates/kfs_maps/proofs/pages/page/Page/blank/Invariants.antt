use Rattle.std.proofs.Common.{◌≡◌, None, length, get_or, ℕ}
use Rattle.kfs_maps.proofs.pages.page.Page.blank.Given as goal

abbrev pub invariant-loop : goal.invariant-loop
invariant-loop g l = (length l.values.items ≡ l.counter) × ((k : ℕ) → get_or l.values.items k None ≡ None)
