-- What a check of a plan answers, and right pieces of a log, in terms of the definitions.
use Rattle.std.specs.Prelude.{◌≡◌, ℕ, ◌==◌, min, cond, Bool, List, length, map, nat_eq, Option, None, Some, Result, Ok, Err, IfOk}
use Rattle.kfs_model.specs.Sight.{ClientSight, sight, client_sight}
use Rattle.kfs_model.specs.Access.{Client}
use Rattle.kfs_model.specs.Tree.{Tree}
use Rattle.kfs_model.specs.Run.{Mark, run, over_marks, marked}
use Rattle.kfs_model.specs.Plan.{ArePieces}
use Rattle.kfs_model.specs.PlanRow.{Piece}
use Rattle.kfs_model.specs.FirstWrong.{RowFault, Names, Nodes, Pieces, same_pair, same_place, same_headers, first_difference, or_else, first_wrong_piece, first_wrong_row}
use Rattle.kfs_model.specs.Placement.{need}
use Rattle.kfs_model.specs.CleanStep.{Fits}
use Rattle.kfs_entry.specs.Answers.{SpansAreWithin, plan_of}
use Rattle.kfs_types.specs.Views.{entry_of, piece_of}
use Rattle.kfs_types.specs.declared.entry.Log.{Log as CodeLog}
use Rattle.kfs_types.specs.declared.plan.NameRow.{NameRow as CodeNameRow}
use Rattle.kfs_types.specs.declared.plan.Plan.{Plan as CodePlan}
use Rattle.kfs_pieces.specs.declared.log.FileSize.{FileSize}
use Rattle.kfs_pieces.specs.Sizes.{AreSizes}
use Rattle.kfs_image_nodes.specs.declared.net.Net.{Net}
use Rattle.kfs_plan.specs.declared.rows.RowFault.{RowFault as CodeRowFault}
use Rattle.kfs_plan.specs.declared.rows.RowFault.TheVariants as faults
use Rattle.kfs_judge.specs.Views.{Agrees}
use Rattle.kfs_judge.specs.declared.walk.Walk.{Walk}
use Rattle.kfs_judge.specs.Step.Rows.{keyed_name_row, keyed_node_row}

-- the answer names the first wrong row, or is the need where there is none; a refusal of memory says
-- nothing
abbrev pub TellsRow : Option RowFault → (need : ℕ) → Result ℕ CodeRowFault → Type 0
TellsRow first need (Ok told) = (first ≡ None) × (told ≡ need)
TellsRow first need (Err (faults.Names index)) = first ≡ Some (Names index)
TellsRow first need (Err (faults.Nodes index)) = first ≡ Some (Nodes index)
TellsRow first need (Err (faults.Pieces index)) = first ≡ Some (Pieces index)
TellsRow first need (Err faults.OutOfMemory) = Unit {0}

-- P holds of each tree before the log and the marks after it, at every tree and all leases that agree
-- with the walk's reads, and whatever bytes the payloads are
abbrev pub AtEachEnd : {A : Type 0} → Client → CodeLog A (List ℕ) → Walk A (List ℕ) → (Tree ℕ → Tree Mark → Type 0) → Type 0
AtEachEnd client log walk P =
    (source : List ℕ) → SpansAreWithin (length source) log → (tree : Tree ℕ) (held : ℕ → Bool) → Fits client tree (map (entry_of source) log.entries) → Agrees walk.reads.entries (client_sight tree held)
    → (after : Tree Mark) × (run over_marks client (client_sight tree held) (marked tree) (map (entry_of source) log.entries) ≡ Ok after) × P tree after

-- these are right pieces of the client's log
abbrev pub ArePiecesOf : {A : Type 0} → Client → CodeLog A (List ℕ) → Walk A (List ℕ) → List Piece → Type 0
ArePiecesOf client log walk pieces = AtEachEnd client log walk (λ tree after. ArePieces after pieces)

-- the answer names the first wrong row of the plan for the client's log, or is the number of blocks
-- that the log writes
abbrev pub TellsOfEachTree : {A : Type 0} → Client → CodeLog A (List ℕ) → Walk A (List ℕ) → CodePlan A (List ℕ) → Result ℕ CodeRowFault → Type 0
TellsOfEachTree client log walk plan result = AtEachEnd client log walk (λ tree after. TellsRow (first_wrong_row tree after (plan_of plan)) (need after) result)

-- ---- two lists of rows

-- where the lists differ, or else where the shorter one ends
abbrev pub at_end : Option ℕ → (length other_length : ℕ) → Option ℕ
at_end (Some k) n m = Some k
at_end None n m = cond (n == m) None (Some (min n m))

-- the rows have one key and one number
abbrev pub is_same_row : CodeNameRow (List ℕ) → CodeNameRow (List ℕ) → Bool
is_same_row row other = same_pair same_place nat_eq (keyed_name_row row) (keyed_name_row other)

-- ---- over a net

-- the first row of the plan that differs from the net's, or else the first piece that is wrong for
-- these marks
abbrev pub first_unlike : {A : Type 0} → Net A (List ℕ) → (after : Tree Mark) → CodePlan A (List ℕ) → Option RowFault
first_unlike net after plan =
    or_else Names (first_difference (same_pair same_place nat_eq) (map keyed_name_row plan.names) (map keyed_name_row net.names.items))
    (or_else Nodes (first_difference (same_pair nat_eq same_headers) (map keyed_node_row plan.nodes) (map keyed_node_row net.nodes.items))
    (or_else Pieces (first_wrong_piece after (map piece_of plan.pieces)) None))

-- for each run of the entries with these file sizes, whatever bytes the payloads are, the answer is
-- right for the net and for the marks at its end
abbrev pub TellsOfEachRun : {A : Type 0} → List FileSize → CodeLog A (List ℕ) → Net A (List ℕ) → CodePlan A (List ℕ) → Result ℕ CodeRowFault → Type 0
TellsOfEachRun sizes log net plan result =
    (source : List ℕ) → SpansAreWithin (length source) log → (client : Client) (before : ClientSight) (tree : Tree ℕ) → before.sight ≡ sight tree
    → IfOk (run over_marks client before (marked tree) (map (entry_of source) log.entries)) (λ after. AreSizes tree (map (entry_of source) log.entries) after sizes → TellsRow (first_unlike net after plan) (need after) result)
