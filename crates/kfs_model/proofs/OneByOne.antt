-- A run without a fault gives its tree one by one, each entry allowed.
use Rattle.std.specs.Prelude.{◌≡◌, ℕ, ◌+◌, List, [], ◌∷◌, Option, Some, None, Result, Ok, Err, refl}
use Rattle.kfs_model.specs.Access.{Client}
use Rattle.kfs_model.specs.Tree.{Tree}
use Rattle.kfs_model.specs.Sight.{sight, ClientSight}
use Rattle.kfs_model.specs.Entry.{Entry}
use Rattle.kfs_model.specs.Check.{Reason, first_fault}
use Rattle.kfs_model.specs.Effect.{effect}
use Rattle.kfs_model.specs.Run.{EntryFault, over_bytes, entry_context, created_by, run_from}
use Rattle.kfs_model.specs.Machine.{OneByOne}
use Rattle.kfs_model.proofs.CleanIsAllowed.{clean_is_allowed}

pub run_is_one_by_one : (client : Client) (before : ClientSight) (index : ℕ) (created : List ℕ) (t : Tree ℕ) (entries : List Entry) (after : Tree ℕ) → run_from over_bytes client before index created t entries ≡ Ok after → OneByOne client before index created t entries after
unfolding run_from
run_is_one_by_one client before index created t [] after ran = (tt, cc)
run_is_one_by_one client before index created t (entry ∷ entries) after ran =
    by_fault (run_is_one_by_one client before (index + 1) (created_by entry created) (effect over_bytes client index entry t) entries after) (first_fault (entry_context client before (sight t) created) entry) refl ran
  where
    outcome : Option Reason → Result (Tree ℕ) EntryFault
    outcome found = elim found [
      | None ↦ run_from over_bytes client before (index + 1) (created_by entry created) (effect over_bytes client index entry t) entries
      | Some reason ↦ Err (record { entry = index; reason = reason })
    ]

    by_fault : (run_from over_bytes client before (index + 1) (created_by entry created) (effect over_bytes client index entry t) entries ≡ Ok after → OneByOne client before (index + 1) (created_by entry created) (effect over_bytes client index entry t) entries after) → (found : Option Reason) → first_fault (entry_context client before (sight t) created) entry ≡ found → outcome found ≡ Ok after → OneByOne client before index created t (entry ∷ entries) after
    by_fault rest None clean ran' = let later = rest ran' in ((clean_is_allowed (entry_context client before (sight t) created) entry clean, later.0), later.1)
    by_fault rest (Some reason) bad ran' = cc
