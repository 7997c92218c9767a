-- What a log's judge has done with several entries in a row.
use Rattle.std.specs.Prelude.{ℕ, List, map, length, Option}
use Rattle.std.specs.List.{AllByRecursion}
use Rattle.kfs_model.specs.Looked.{looked_cells}
use Rattle.kfs_types.specs.Views.{entry_of, IsWithin}
use Rattle.kfs_types.specs.declared.entry.Entry.{Entry as CodeEntry}
use Rattle.kfs_types.specs.declared.entry.Span.{Span}
use Rattle.kfs_judge.specs.declared.step.log_judge.LogJudge.{LogJudge}
use Rattle.kfs_judge.specs.declared.walk.EntryFault.{EntryFault}
use Rattle.kfs_judge_reads.specs.Draft.Overlay.{ChangesAreAmong}
use Rattle.kfs_judge_reads.specs.Recorders.{Known, ReadsAt}
use Rattle.kfs_judge.specs.Step.FileSizes.{HasFilesOf}
use Rattle.kfs_judge.specs.Walks.{EndsAt}

-- the payloads' spans lie in the source
abbrev pub AreWithin : List ℕ → List (CodeEntry Span (List ℕ)) → Type 0
AreWithin source entries = AllByRecursion (IsWithin (length source)) entries

-- the draft has the header of each file that the entries reach
abbrev pub HasTheirFiles : {A : Type 0} → LogJudge A → List (CodeEntry Span (List ℕ)) → Type 0
HasTheirFiles judge entries = (source : List ℕ) → AreWithin source entries → HasFilesOf judge.draft (map (entry_of source) entries)

-- entries, entered by a judge that has entered none before
module _ {A : Type 0} (old new : LogJudge A) (entries : List (CodeEntry Span (List ℕ))) where
  -- the run over the cells stops at this fault, or ends with what the draft shows
  abbrev pub RunStopsAt : Option EntryFault → Type 0
  RunStopsAt fault = Known new.recorder (λ before. (source : List ℕ) → AreWithin source entries → EndsAt old.client.now new.draft before (map (entry_of source) entries) fault)

  abbrev pub ReadsTheirCells : Type 0
  ReadsTheirCells = Known new.recorder (λ before. (source : List ℕ) → AreWithin source entries → ReadsAt old.recorder new.recorder (looked_cells old.client.now before (map (entry_of source) entries)))

  abbrev pub WritesTheirCells : Type 0
  WritesTheirCells = Known new.recorder (λ before. (source : List ℕ) → AreWithin source entries → ChangesAreAmong new.draft (looked_cells old.client.now before (map (entry_of source) entries)))
