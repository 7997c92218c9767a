-- A walk over the mapped blocks of a run, and new places of blocks, laid over a placement.
use Rattle.std.specs.Prelude.{◌≡◌, ℕ, ◌<◌, ◌≤◌, List, None}
use Rattle.kfs_model.specs.Table.{pairs, numbers, get}
use Rattle.kfs_model.specs.Placement.{Place, Placement}
use Rattle.kfs_maps.specs.Chunks.Tables.{table}
use Rattle.kfs_maps.specs.declared.chunks.overlay.Overlay.{Overlay}
use Rattle.kfs_maps.specs.Chunks.Overlays.{overlaid}

-- no block of the file from `first` on and below `end` is mapped
abbrev pub AreUnmapped : List ((ℕ × ℕ) × Place) → (number first end : ℕ) → Type 0
AreUnmapped placement number first end = (block : ℕ) → first ≤ block → block < end → get (table (pairs numbers numbers) placement) (number, block) ≡ None

-- the placement that these entries make
abbrev pub placed : List ((ℕ × ℕ) × Place) → Placement
placed entries = table (pairs numbers numbers) entries

module _ {A : Type 0} where
  -- the placement, with the new places of blocks in place of its own
  abbrev pub seen : Overlay (ℕ × ℕ) Place A → List ((ℕ × ℕ) × Place) → Placement
  seen overlay placement = overlaid (table (pairs numbers numbers) placement) overlay.latest.entries

  -- a block that isn't mapped has no new place either
  abbrev pub SeesMapped : List ((ℕ × ℕ) × Place) → Overlay (ℕ × ℕ) Place A → Type 0
  SeesMapped placement overlay = (block : ℕ × ℕ) → get (table (pairs numbers numbers) placement) block ≡ None → get (seen overlay placement) block ≡ None
