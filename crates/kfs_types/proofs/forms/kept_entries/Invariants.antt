use Rattle.std.proofs.Common.{◌≡◌, take}
use Rattle.kfs_types.proofs.forms.kept_entries.Given as goal

abbrev pub invariant-loop-entry : goal.invariant-loop-entry
invariant-loop-entry g l = l.kept.items ≡ take l.entry-index l.entries
