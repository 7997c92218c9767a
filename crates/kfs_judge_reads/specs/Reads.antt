-- Recorded reads as cells with their answers, and the states that agree with them.
use Rattle.std.specs.Prelude.{◌≡◌, ◌≢◌, ◌⊎◌, pos, List, All, AllPairs, Contains}
use Rattle.std.specs.Option.{option_map}
use Rattle.std.specs.List.{AllByRecursion}
use Rattle.kfs_image_nodes.specs.declared.cell.Cell.{Cell as CodeCell}
use Rattle.kfs_image_nodes.specs.declared.cell.Cell.TheVariants as cells
use Rattle.kfs_image_nodes.specs.declared.cell.Answer.{Answer as CodeAnswer}
use Rattle.kfs_image_nodes.specs.declared.cell.Answer.TheVariants as answers
use Rattle.kfs_judge_reads.specs.declared.reads.Read.{Read}
use Rattle.kfs_judge_reads.specs.declared.reads.Read.TheVariants as reads
use Rattle.kfs_judge_reads.specs.declared.reads.ReadAnswer.{ReadAnswer}
use Rattle.kfs_judge_reads.specs.declared.reads.ReadAnswer.TheVariants as read_answers
use Rattle.kfs_types.specs.Views.{header_of}
use Rattle.kfs_model.specs.Sight.{Cell, HeaderOf, NameIn, CountOf, ParentOf, LeaseOn, Answer, Head, Number, Count, Held, ClientSight, answer}

abbrev pub look_of : CodeCell → Cell
look_of (cells.Header n) = HeaderOf n
look_of (cells.Name d m) = NameIn d m
look_of (cells.Count d) = CountOf d
look_of (cells.Parent n) = ParentOf n

abbrev pub cell_of : Read → Cell
cell_of (reads.Look cell) = look_of cell
cell_of (reads.Lease n) = LeaseOn n

abbrev pub look_answer_of : CodeAnswer → Answer
look_answer_of (answers.Header h) = Head (option_map header_of h)
look_answer_of (answers.Name n) = Number n
look_answer_of (answers.Count c) = Count (pos c)
look_answer_of (answers.Parent n) = Number n

abbrev pub answer_of : ReadAnswer → Answer
answer_of (read_answers.Look a) = look_answer_of a
answer_of (read_answers.Lease held) = Held held

-- the state gives each recorded answer at its cell
abbrev pub AgreesAlong : List (Read × ReadAnswer) → ClientSight → Type 0
AgreesAlong entries state = AllByRecursion (λ e. answer state (cell_of e.0) ≡ answer_of e.1) entries

pub record Agrees (entries : List (Read × ReadAnswer)) (state : ClientSight) : Type 0 where
  pub each : AgreesAlong entries state

-- P holds of each state that agrees
abbrev pub Always : List (Read × ReadAnswer) → (ClientSight → Type 0) → Type 0
Always entries P = (state : ClientSight) → Agrees entries state → P state

-- a state that agrees with the new reads agrees with the old ones
abbrev pub Grows : List (Read × ReadAnswer) → List (Read × ReadAnswer) → Type 0
Grows old new = (state : ClientSight) → Agrees new state → Agrees old state

-- each new read is an old one, or is at one of these cells
pub record Within (old new : List (Read × ReadAnswer)) (among : List Cell) : Type 0 where
  pub each : (e : Read × ReadAnswer) → Contains new e → Contains old e ⊎ Contains among (cell_of e.0)

-- each read is at one of these cells
abbrev pub AreAmong : List (Read × ReadAnswer) → List Cell → Type 0
AreAmong entries among = All (λ e. Contains among (cell_of e.0)) entries

-- no read is recorded twice
abbrev pub AreOnce : List (Read × ReadAnswer) → Type 0
AreOnce entries = AllPairs (λ e f. e.0 ≢ f.0) entries

-- each cell of the first list is in the second
abbrev pub IsPart : List Cell → List Cell → Type 0
IsPart few many = (cell : Cell) → Contains few cell → Contains many cell
