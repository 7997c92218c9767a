-- Plans of the code that can be encoded.
use Rattle.std.specs.Prelude.{ℕ, ◌^◌, ◌<◌, All, List, length}
use Rattle.kfs_model.specs.Spelling.{IsNameRow, IsNodeRow, IsPiece}
use Rattle.kfs_types.specs.Views.{name_row_of, node_row_of, piece_of}
use Rattle.kfs_types.specs.declared.plan.NameRow.{NameRow}
use Rattle.kfs_types.specs.declared.plan.NodeRow.{NodeRow}
use Rattle.kfs_types.specs.declared.plan.Piece.{Piece}
use Rattle.kfs_types.specs.declared.plan.Plan.{Plan as CodePlan}

-- each row is in the ranges of its fields
pub record RowsFit {A : Type 0} (plan : CodePlan A (List ℕ)) : Type 0 where
  pub names : All (λ (row : NameRow (List ℕ)). IsNameRow (name_row_of row)) plan.names
  pub nodes : All (λ (row : NodeRow). IsNodeRow (node_row_of row)) plan.nodes
  pub pieces : All (λ (row : Piece). IsPiece (piece_of row)) plan.pieces

-- each part of the plan has as few rows as its count can say
pub record IsShort {A : Type 0} (plan : CodePlan A (List ℕ)) : Type 0 where
  pub names : length plan.names < 2 ^ 16
  pub nodes : length plan.nodes < 2 ^ 16
  pub pieces : length plan.pieces < 2 ^ 32
