use Rattle.std.proofs.Common.{◌≡◌, ℕ, Option, drop}
use Rattle.std.specs.Ordering.{nat_cmp}
use Rattle.std.specs.BTreeMap.{get}
use Rattle.kfs_types.specs.declared.entry.Header.{Header}
use Rattle.kfs_image_nodes.specs.NodeEdits.{left_by}
use Rattle.kfs_maps.specs.Chunks.Overlays.{said_or}
use Rattle.kfs_image_nodes.proofs.edits.latest_rows.Given as goal

-- the rows that are left make of what was said so far what all rows make
abbrev pub invariant-loop-row : goal.invariant-loop-row
invariant-loop-row g l = (q : ℕ) (there : Option Header) → left_by (drop l.row-index l.nodes) q (said_or (get nat_cmp l.overlay.latest q) there) ≡ left_by l.nodes q there
