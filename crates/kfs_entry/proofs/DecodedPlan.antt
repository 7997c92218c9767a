-- A plan that was decoded, and why one was not, as the definitions say it.
use Rattle.std.proofs.Common.{◌≡◌, ℕ, List, ◌++◌, length, drop, map, sym, subst, ◌∙◌}
use Rattle.kfs_model.specs.PlanRow.{Plan}
use Rattle.kfs_model.specs.Spelling.{AreRows, Begins, BeginsWithRows, LacksRow, PlanHeader, IsPlanHeader, plan_header, PartLacksRow, PlanAnswer, name_row_bytes, IsNameRow, node_row_bytes, IsNodeRow, piece_bytes, IsPiece, plan_bytes, IsPlan}
use Rattle.kfs_model.proofs.AnswersExist.{plan_is_spelled}
use Rattle.kfs_types.specs.declared.plan.NameRow.{NameRow}
use Rattle.kfs_types.specs.declared.plan.NodeRow.{NodeRow}
use Rattle.kfs_types.specs.declared.plan.Piece.{Piece}
use Rattle.kfs_types.specs.Views.{name_row_of, node_row_of, piece_of}
use Rattle.kfs_entry.specs.declared.fault.SpellFault.{SpellFault}
use Rattle.kfs_entry.specs.declared.fault.SpellFault.TheVariants as faults
use Rattle.kfs_entry.specs.Codec.RowList.{AreRead}
use Rattle.kfs_entry.specs.Missing.{PartRowMissing}
use Rattle.kfs_entry.specs.Answers.{OnRefusal}
use Rattle.kfs_entry.proofs.RowLaws.{stand_from, stop_from}

-- the rows of a part that were read stand there
abbrev pub part_stands : {R V : Type 0} (view : R → V) (F : V → Type 0) (s : V → List ℕ) (rows : List R) (count : ℕ) (bytes rest : List ℕ)
    → length rows ≡ count → AreRows (λ r. F (view r)) (λ r. s (view r)) rows bytes rest → BeginsWithRows F s count bytes rest
part_stands view F s rows count bytes rest number are = stand_from view (λ r. F (view r)) F s (λ r f. f) rows count bytes rest number are

-- the plan of a header and the rows behind it
abbrev pub plan_from : PlanHeader → List (NameRow (List ℕ)) → List NodeRow → List Piece → Plan
plan_from h names nodes pieces = record { version = h.version; names = map name_row_of names; nodes = map node_row_of nodes; pieces = map piece_of pieces }

pub plan_was_read : (source : List ℕ) (at b d end given_names given_nodes : ℕ) (h : PlanHeader) (names : List (NameRow (List ℕ))) (nodes : List NodeRow) (pieces : List Piece)
    → IsPlanHeader h → source ≡ plan_header h ++ drop at source
    → given_names ≡ h.names → AreRead (λ r. IsNameRow (name_row_of r)) (λ r. name_row_bytes (name_row_of r)) source at given_names names b
    → given_nodes ≡ h.nodes → AreRead (λ r. IsNodeRow (node_row_of r)) (λ r. node_row_bytes (node_row_of r)) source b given_nodes nodes d
    → AreRead (λ r. IsPiece (piece_of r)) (λ r. piece_bytes (piece_of r)) source d h.pieces pieces end
    → IsPlan (plan_from h names nodes pieces) × (source ≡ plan_bytes (plan_from h names nodes pieces) ++ drop end source)
plan_was_read source at b d end given_names given_nodes h names nodes pieces fits front same_names names_read same_nodes nodes_read pieces_read =
    plan_is_spelled source (drop at source) (drop b source) (drop d source) (drop end source) h fits front
    (part_stands name_row_of IsNameRow name_row_bytes names h.names (drop at source) (drop b source) (names_read.number ∙ same_names) names_read.are)
    (part_stands node_row_of IsNodeRow node_row_bytes nodes h.nodes (drop b source) (drop d source) (nodes_read.number ∙ same_nodes) nodes_read.are)
    (part_stands piece_of IsPiece piece_bytes pieces h.pieces (drop d source) (drop end source) pieces_read.number pieces_read.are)

-- a part of a plan whose row is missing: what stands before it makes the answer
pub part_is_missing : {R V : Type 0} (view : R → V) (F : V → Type 0) (s : V → List ℕ) (source bytes : List ℕ) (h : PlanHeader) (rows : List ℕ) (number given count : ℕ) (fault : SpellFault)
    → given ≡ count → IsPlanHeader h → source ≡ plan_header h ++ rows → ((k : ℕ) → LacksRow F s count k bytes → PartLacksRow h number k rows)
    → PartRowMissing (λ r. F (view r)) (λ r. s (view r)) (Begins F s) given number bytes fault → OnRefusal (PlanAnswer source) fault
part_is_missing view F s source bytes h rows number given count (faults.BadRow part k) same fits front stops missing =
    let stop : LacksRow F s count k bytes = subst (λ (n : ℕ). LacksRow F s n k bytes) same (stop_from view (λ r. F (view r)) F s (λ r f. f) given k bytes missing.1) in
    (h, rows, fits, front, subst (λ (n : ℕ). PartLacksRow h n k rows) (sym missing.0) (stops k stop))
part_is_missing view F s source bytes h rows number given count faults.OutOfMemory same fits front stops missing = tt
part_is_missing view F s source bytes h rows number given count faults.BadHeader same fits front stops missing = absurd missing
part_is_missing view F s source bytes h rows number given count faults.Trailing same fits front stops missing = absurd missing
part_is_missing view F s source bytes h rows number given count (faults.BadEntry k) same fits front stops missing = absurd missing
