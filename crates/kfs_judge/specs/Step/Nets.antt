-- The net change of entries.
use Rattle.std.specs.Prelude.{ℕ, List, map, Result, IfOk, OnOk}
use Rattle.kfs_model.specs.Table.{numbers}
use Rattle.kfs_model.specs.Tree.{name_order}
use Rattle.kfs_model.specs.Sight.{Cell, ClientSight, Sight}
use Rattle.kfs_model.specs.Plan.{AreDifferences, number_now, header_now}
use Rattle.kfs_judge_reads.specs.declared.draft.draft.Draft.{Draft}
use Rattle.kfs_judge_reads.specs.Draft.Overlay.{ChangesAreAmong, over}
use Rattle.kfs_judge_reads.specs.declared.reads.Recorder.{Recorder}
use Rattle.kfs_judge_reads.specs.Recorders.{GoesOn, Known, ReadsAt}
use Rattle.kfs_judge.specs.Step.Rows.{keyed_name_row, keyed_node_row}
use Rattle.kfs_types.specs.declared.plan.NameRow.{NameRow as CodeNameRow}
use Rattle.kfs_types.specs.declared.plan.NodeRow.{NodeRow as CodeNodeRow}
use Rattle.kfs_image_nodes.specs.declared.net.Net.{Net}

-- the rows are exactly the names that differ; below, the same for headers
abbrev pub AreNamesOf : Sight → Sight → List (CodeNameRow (List ℕ)) → Type 0
AreNamesOf before after rows = AreDifferences name_order number_now (λ key. before.name key.0 key.1) (λ key. after.name key.0 key.1) (map keyed_name_row rows)

abbrev pub AreNodesOf : Sight → Sight → List CodeNodeRow → Type 0
AreNodesOf before after rows = AreDifferences numbers header_now before.head after.head (map keyed_node_row rows)

pub record IsNetOf {A : Type 0} (before after : Sight) (net : Net A (List ℕ)) : Type 0 where
  pub names : AreNamesOf before after net.names.items
  pub nodes : AreNodesOf before after net.nodes.items

-- the net change between a state and what the draft shows over it
abbrev pub IsNetOver : {A B : Type 0} → Draft A → Sight → Net B (List ℕ) → Type 0
IsNetOver draft s net = IsNetOf s (over draft s) net

-- a look at all that a draft has written: its answer is true of each state that agrees with what was
-- read, and only written cells were read; or memory runs out
pub record LooksOver {A X E : Type 0} (draft : Draft A) (old new : Recorder A) (result : Result X E) (says : X → ClientSight → Type 0) : Type 0 where
  pub goes : GoesOn old new
  pub known : IfOk result (λ x. Known new (says x))
  pub among : OnOk result ((among : List Cell) → ChangesAreAmong draft among → ReadsAt old new among)
