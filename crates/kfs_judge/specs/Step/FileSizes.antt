-- The files that entries reach, and their sizes before and after the entries.
use Rattle.std.specs.Prelude.{ℕ, List, IsTrue}
use Rattle.std.specs.List.{list_any}
use Rattle.kfs_model.specs.Entry.{Entry}
use Rattle.kfs_model.specs.Sight.{Sight}
use Rattle.kfs_judge_reads.specs.declared.draft.draft.Draft.{Draft}
use Rattle.kfs_judge_reads.specs.Draft.Overlay.{over, has_header}
use Rattle.kfs_pieces.specs.declared.log.FileSize.{FileSize}
use Rattle.kfs_pieces.specs.Sizes.{AreSizesBetween, reaches_file}

module _ {A : Type 0} (draft : Draft A) where
  -- the draft has the header of the file that the entry reaches, if it reaches one
  abbrev pub HasFileOf : Entry → Type 0
  HasFileOf entry = (n : ℕ) → IsTrue (reaches_file n entry) → IsTrue (has_header draft n)

  -- the same for each of the entries
  abbrev pub HasFilesOf : List Entry → Type 0
  HasFilesOf entries = (n : ℕ) → IsTrue (list_any (reaches_file n) entries) → IsTrue (has_header draft n)

  -- the sizes are those of the state, and those that the draft shows over it, for all entries whose
  -- files the draft has
  abbrev pub AreSizesOver : Sight → List FileSize → Type 0
  AreSizesOver s sizes = (entries : List Entry) → HasFilesOf entries → AreSizesBetween s (over draft s) entries sizes
