use Rattle.std.proofs.Common.{◌≡◌, ◌++◌}
use Rattle.kfs_maps.specs.Chunks.Overlays.{key_edits}
use Rattle.kfs_maps.proofs.chunks.overlay.list_keys.Given as goal

-- the edits so far, and those of the entries that are left, are those of all
abbrev pub invariant-loop-key : goal.invariant-loop-key
invariant-loop-key g l = record {
  ready : (goal.iterator-loop-key g).can_next l.key-iterator;
  ends : (goal.iterator-loop-key g).is_finite l.key-iterator;
  listed : l.edits.items ++ key_edits l.key-iterator ≡ key_edits l.fn.latest.entries;
}
