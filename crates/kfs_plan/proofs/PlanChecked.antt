-- The first row of a plan that isn't the net's is the first wrong row, and what is told of a walk's end.
use Rattle.std.specs.Prelude.{◌≡◌, ℕ, Bool, nat_eq, List, map, None, Result, Ok, Err, IfOk}
use Rattle.std.proofs.Common.{ap, sym, subst, ◌∙◌}
use mathlib.Core.List.{map-map}
use Rattle.kfs_model.specs.Access.{Client}
use Rattle.kfs_model.specs.Entry.{Entry}
use Rattle.kfs_model.specs.Tree.{Tree, headers}
use Rattle.kfs_model.specs.Sight.{sight, client_sight, ClientSight}
use Rattle.kfs_model.specs.Run.{Mark, run, over_marks, marked}
use Rattle.kfs_model.specs.Plan.{ArePieces, number_now, header_now, keyed_name, keyed_node}
use Rattle.kfs_model.specs.PlanRow.{Piece}
use Rattle.kfs_model.specs.Placement.{need}
use Rattle.kfs_model.specs.FirstWrong.{Names, Nodes, Pieces, same_header, same_headers, same_place, same_pair, first_difference, first_wrong_name, first_wrong_node, first_wrong_piece, first_wrong_row, or_else}
use Rattle.kfs_model.proofs.Exact.{numbers-exact, headers-exact}
use Rattle.kfs_model.proofs.Differences.{differences_only}
use Rattle.kfs_entry.specs.Answers.{plan_of}
use Rattle.kfs_types.specs.Views.{name_row_of, node_row_of, piece_of}
use Rattle.kfs_types.specs.declared.plan.Plan.{Plan as CodePlan}
use Rattle.kfs_pieces.specs.declared.log.FileSize.{FileSize}
use Rattle.kfs_pieces.specs.Sizes.{AreSizes, AreSwept}
use Rattle.kfs_pieces.proofs.LogMade.{of_value}
use Rattle.kfs_pieces.proofs.SizesBetween.{sizes_between}
use Rattle.kfs_image_nodes.specs.declared.net.Net.{Net}
use Rattle.kfs_plan.specs.declared.rows.RowFault.{RowFault as CodeRowFault}
use Rattle.kfs_plan.specs.declared.rows.RowFault.TheVariants as refused
use Rattle.kfs_plan.specs.PlanCheck.{first_unlike, TellsRow}
use Rattle.kfs_judge.specs.Step.Rows.{keyed_name_row, keyed_node_row}
use Rattle.kfs_judge.specs.Walks.{ComesToTree}
use Rattle.kfs_judge.specs.Step.Nets.{IsNetOf}
use Rattle.kfs_plan.proofs.MarkedRuns.{EndsBeside, ends_beside}

module _ {A : Type 0} (client : Client) (before : ClientSight) (tree : Tree ℕ) (entries : List Entry) (after : Tree ℕ) (net : Net A (List ℕ)) (plan : CodePlan A (List ℕ)) (beside : EndsBeside client before tree entries after) (differs : IsNetOf (sight tree) (sight after) net) where
  wrong_name : first_wrong_name tree.names beside.marked_after.names (plan_of plan).names ≡ first_difference (same_pair same_place nat_eq) (map keyed_name_row plan.names) (map keyed_name_row net.names.items)
  wrong_name =
      let shown = map-map keyed_name name_row_of plan.names in
      let rows = differences_only nat_eq numbers-exact number_now tree.names after.names (map keyed_name_row net.names.items) differs.names in
      ap (λ names. first_wrong_name tree.names names (plan_of plan).names) (sym beside.names)
      ∙ λ i. first_difference (same_pair same_place nat_eq) (shown i) (sym rows i)

  wrong_node : first_wrong_node (headers tree) (headers beside.marked_after) (plan_of plan).nodes ≡ first_difference (same_pair nat_eq same_headers) (map keyed_node_row plan.nodes) (map keyed_node_row net.nodes.items)
  wrong_node =
      let shown = map-map keyed_node node_row_of plan.nodes in
      let rows = differences_only same_header headers-exact header_now (headers tree) (headers after) (map keyed_node_row net.nodes.items) differs.nodes in
      ap (λ heads. first_wrong_node (headers tree) heads (plan_of plan).nodes) (sym beside.heads)
      ∙ λ i. first_difference (same_pair nat_eq same_headers) (shown i) (sym rows i)

  pub first_wrong-unlike : first_wrong_row tree beside.marked_after (plan_of plan) ≡ first_unlike net beside.marked_after plan
  unfolding first_wrong_row
  first_wrong-unlike = λ i. or_else Names (wrong_name i) (or_else Nodes (wrong_node i) (or_else Pieces (first_wrong_piece beside.marked_after (map piece_of plan.pieces)) None))

-- ---- at the end of a walk without a fault

module _ {A : Type 0} (client : Client) (held : ℕ → Bool) (tree : Tree ℕ) (entries : List Entry) (sizes : List FileSize) (net : Net A (List ℕ)) (comes : ComesToTree client held tree entries (Ok net) sizes) where
  abbrev before : ClientSight
  before = client_sight tree held

  end : EndsBeside client before tree entries comes.0
  end = ends_beside client before tree entries comes.0 comes.1

  -- what is said of the run's end where the sizes are those of the run
  at_end : (P : Tree Mark → Type 0) → IfOk (run over_marks client before (marked tree) entries) (λ after. AreSizes tree entries after sizes → P after) → P end.marked_after
  at_end P all =
      let are = sizes_between tree comes.0 end.marked_after comes.2 end.heads entries sizes comes.5 in
      of_value (λ after. AreSizes tree entries after sizes → P after) (run over_marks client before (marked tree) entries) end.marked_after end.ran all are

  pub told_at_end : (plan : CodePlan A (List ℕ)) (result : Result ℕ CodeRowFault) → IfOk (run over_marks client before (marked tree) entries) (λ after. AreSizes tree entries after sizes → TellsRow (first_unlike net after plan) (need after) result)
      → (after : Tree Mark) × (run over_marks client before (marked tree) entries ≡ Ok after) × TellsRow (first_wrong_row tree after (plan_of plan)) (need after) result
  told_at_end plan result all =
      let first = first_wrong-unlike client before tree entries comes.0 net plan end comes.4 in
      let told = at_end (λ after. TellsRow (first_unlike net after plan) (need after) result) all in
      (end.marked_after, end.ran, subst (λ row. TellsRow row (need end.marked_after) result) (sym first) told)

  -- the same where memory is refused
  pub refused_at_end : (plan : CodePlan A (List ℕ)) → (after : Tree Mark) × (run over_marks client before (marked tree) entries ≡ Ok after) × TellsRow (first_wrong_row tree after (plan_of plan)) (need after) (Err refused.OutOfMemory)
  refused_at_end plan = (end.marked_after, end.ran, tt)

  pub pieces_at_end : (pieces : List Piece) → IfOk (run over_marks client before (marked tree) entries) (λ after. AreSizes tree entries after sizes → AreSwept sizes after pieces)
      → (after : Tree Mark) × (run over_marks client before (marked tree) entries ≡ Ok after) × ArePieces after pieces
  pieces_at_end pieces all = (end.marked_after, end.ran, (at_end (λ after. AreSwept sizes after pieces) all).right)
