use Rattle.std.proofs.Common.{◌≡◌, take}
use Rattle.kfs_types.proofs.forms.borrowed_entries.Given as goal

abbrev pub invariant-loop-entry : goal.invariant-loop-entry
invariant-loop-entry g l = l.borrowed.items ≡ take l.entry-index l.entries
