use Rattle.std.proofs.Common.{◌≡◌, ◌≤◌, ◌+◌, All, length, drop}
use Rattle.std.specs.declared.ops.Bound.TheVariants.{Included}
use Rattle.kfs_maps.specs.Chunks.Edits.{entered_all}
use Rattle.kfs_maps.specs.Chunks.Starts.{first_from}
use Rattle.kfs_maps.proofs.chunks.entries.Entries.write.Given as goal

abbrev pub invariant-loop-edit : goal.invariant-loop-edit
invariant-loop-edit g l = record {
  room : length l.edits ≤ l.self.room + l.edit-index;
  from : All (λ e. l.from ≤ first_from g.K.Ord.cmp (Included e.key) l.self.pairs) (drop l.edit-index l.edits);
  pairs : entered_all g.K.Ord.cmp l.self.pairs (drop l.edit-index l.edits) ≡ entered_all g.K.Ord.cmp l.fn.self.pairs l.edits;
}
