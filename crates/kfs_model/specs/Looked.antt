-- The cells that a log looks at, and what two states that give the same answers there have in common.
use Rattle.std.specs.Prelude.{◌≡◌, ◌⊎◌, ℕ, Bool, List, [], ◌∷◌, ◌++◌, Some, None, Result, Ok, Err}
use Rattle.std.specs.List.{AllByRecursion}
use Rattle.kfs_model.specs.Access.{Client}
use Rattle.kfs_model.specs.Tree.{Tree}
use Rattle.kfs_model.specs.Entry.{Entry}
use Rattle.kfs_model.specs.Sight.{Sight, ClientSight, Cell, client_sight, answer}
use Rattle.kfs_model.specs.Check.{first_fault, entry_cells}
use Rattle.kfs_model.specs.Run.{EntryFault, entry_context, created_by, run, over_bytes}
use Rattle.kfs_model.specs.SeenAfter.{seen_after, seen_run_from, shown_run}

module _ (client : Client) (before : ClientSight) where
  -- the cells that the entries' checks look at, each entry's up to its first failed check
  unfoldable pub looked_from : (created : List ℕ) → Sight → List Entry → List Cell
  looked_from created now [] = []
  looked_from created now (entry ∷ entries) =
      entry_cells (entry_context client before now created) entry
      ++ elim (first_fault (entry_context client before now created) entry) [ None ↦ looked_from (created_by entry created) (seen_after client now entry) entries | Some reason ↦ [] ]

  abbrev pub looked_cells : List Entry → List Cell
  looked_cells entries = looked_from [] before.sight entries

  abbrev pub seen_run : List Entry → Result Sight EntryFault
  seen_run entries = seen_run_from client before 0 [] before.sight entries

abbrev pub AgreeAt : ClientSight → ClientSight → List Cell → Type 0
AgreeAt s u cells = AllByRecursion (λ cell. answer s cell ≡ answer u cell) cells

-- the other state gives the same answers at the cells that the log looks at in the one
abbrev pub AgreeWhereLooked : Client → (one other : ClientSight) → List Entry → Type 0
AgreeWhereLooked client one other entries = AgreeAt one other (looked_cells client one entries)

-- both runs end with the same fault; or both end without one, and wherever the states gave the same
-- answers before, they do afterwards
abbrev pub EndInAgreement : ClientSight → ClientSight → Result Sight EntryFault → Result Sight EntryFault → Type 0
EndInAgreement s u (Ok now) (Ok other) = (cell : Cell) → answer s cell ≡ answer u cell → answer (record s { sight = now }) cell ≡ answer (record u { sight = other }) cell
EndInAgreement s u (Ok now) (Err fault) = ⊥
EndInAgreement s u (Err fault) (Ok other) = ⊥
EndInAgreement s u (Err fault) (Err other) = fault ≡ other

-- where the looked-at cells have the same answers, the runs over the two trees end alike, whatever
-- leases the client holds in each
abbrev pub TreesEndInAgreement : Client → (one other : Tree ℕ) → List Entry → Type 0
TreesEndInAgreement client one other entries = (held other_held : ℕ → Bool) → AgreeWhereLooked client (client_sight one held) (client_sight other other_held) entries
    → EndInAgreement (client_sight one held) (client_sight other other_held)
    (shown_run (run over_bytes client (client_sight one held) one entries)) (shown_run (run over_bytes client (client_sight other other_held) other entries))

-- ---- what a log changes

-- both had the same value before and have the same value now, or neither changed
abbrev pub IsSameChange : {X : Type 0} → (before after other_before other_after : X) → Type 0
IsSameChange before after other_before other_after = ((before ≡ other_before) × (after ≡ other_after)) ⊎ ((after ≡ before) × (other_after ≡ other_before))

-- the log changes the same names and headers in both states, from and to the same values
pub record HaveSameChanges (s u : ClientSight) (now other : Sight) : Type 0 where
  pub heads : (n : ℕ) → IsSameChange (s.sight.head n) (now.head n) (u.sight.head n) (other.head n)
  pub names : (d : ℕ) (m : List ℕ) → IsSameChange (s.sight.name d m) (now.name d m) (u.sight.name d m) (other.name d m)

abbrev pub HaveSameNet : ClientSight → ClientSight → Result Sight EntryFault → Result Sight EntryFault → Type 0
HaveSameNet s u (Ok now) (Ok other) = HaveSameChanges s u now other
HaveSameNet s u (Ok now) (Err fault) = ⊥
HaveSameNet s u (Err fault) end = Unit {0}

-- where the looked-at cells have the same answers, the log changes the same names and headers of the two
-- trees, whatever leases the client holds in each
abbrev pub TreesHaveSameNet : Client → (one other : Tree ℕ) → List Entry → Type 0
TreesHaveSameNet client one other entries = (held other_held : ℕ → Bool) → AgreeWhereLooked client (client_sight one held) (client_sight other other_held) entries
    → HaveSameNet (client_sight one held) (client_sight other other_held)
    (shown_run (run over_bytes client (client_sight one held) one entries)) (shown_run (run over_bytes client (client_sight other other_held) other entries))

-- the log ends alike in both states, makes the same changes, and looks at the same cells
pub record HaveSameRun (client : Client) (one other : ClientSight) (entries : List Entry) : Type 0 where
  pub ends : EndInAgreement one other (seen_run client one entries) (seen_run client other entries)
  pub changes : HaveSameNet one other (seen_run client one entries) (seen_run client other entries)
  pub looks : looked_cells client one entries ≡ looked_cells client other entries
