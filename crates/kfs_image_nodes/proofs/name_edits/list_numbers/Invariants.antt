use Rattle.std.proofs.Common.{◌≡◌, ◌++◌}
use Rattle.kfs_image_nodes.specs.NodeEdits.{edits_from}
use Rattle.kfs_image_nodes.proofs.name_edits.list_numbers.Given as goal

-- the edits so far, and those of the entries that are left, are those of all
abbrev pub invariant-loop-number : goal.invariant-loop-number
invariant-loop-number g l = record {
  ready : (goal.iterator-loop-number g).can_next l.number-iterator;
  ends : (goal.iterator-loop-number g).is_finite l.number-iterator;
  listed : l.edits.items ++ edits_from l.number-iterator ≡ edits_from l.fn.latest.entries;
}
