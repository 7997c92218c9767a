use Rattle.std.proofs.Common.{◌≡◌, ◌<◌, ◌≤◌, ◌*◌, ◌-◌, None, get_or, ℕ}
use Rattle.kfs_maps.proofs.pages.page.Page.next.Given as goal

abbrev pub invariant-loop-place : goal.invariant-loop-place
invariant-loop-place g l = (k : ℕ) → l.after - 64 * l.self-inside.index ≤ k → k < l.place → get_or l.self-inside.values.items k None ≡ None
