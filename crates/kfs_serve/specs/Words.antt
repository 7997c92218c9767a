-- What the words of the command line ask for.
use Rattle.std.specs.Prelude.{◌≡◌, ◌≤◌, ◌+◌, ◌⊎◌, ℕ, List, [], length, slice_index_or, codes, Option, Some, None}
use Rattle.std.specs.Borrow.{Bor}
use Rattle.kfs_model.specs.Placement.{TierSizes}
use Rattle.kfs_program_text.specs.Cut.{cut, space}
use Rattle.kfs_program_text.specs.Decimals.{decimal32}
use Rattle.kfs_program_text.specs.Reading.{only}
use Rattle.kfs_serve.specs.declared.words.Asked.{Asked}
use Rattle.kfs_serve.specs.declared.words.FirstStart.{FirstStart}

-- the words as a caller hands them in: the first is the program's name
abbrev pub Words : Type 0
Words = List (Bor (List ℕ))

-- the text of the word of this index, empty where there is none
abbrev pub word_at : Words → ℕ → List ℕ
word_at words i = (slice_index_or words i (record { ref_ptr = (0, 0); now = [] })).now

-- the decimal number that a word is
abbrev pub number_of : List ℕ → Option ℕ
number_of word = only decimal32 (cut space word)

-- the words are these sizes of tiers, in blocks
pub record IsSizeOf (first second third : List ℕ) (sizes : TierSizes) : Type 0 where
  pub first_is : number_of first ≡ Some sizes.first
  pub second_is : number_of second ≡ Some sizes.second
  pub third_is : number_of third ≡ Some sizes.third

-- the word is this number of judges
pub record AreJudges (word : List ℕ) (judges : ℕ) : Type 0 where
  pub number : number_of word ≡ Some judges
  pub some : 1 ≤ judges
  pub few : judges ≤ 8

-- `--judges N` behind so many words
pub record NamesJudges (words : Words) (count judges : ℕ) : Type 0 where
  pub count_is : length words ≡ count + 2
  pub name : word_at words count ≡ codes "--judges"
  pub judges_are : AreJudges (word_at words (count + 1)) judges

-- so many words, and one judge; or `--judges N` behind them
abbrev pub AsksForJudges : (words : Words) → (count judges : ℕ) → Type 0
AsksForJudges words count judges = ((length words ≡ count) × (judges ≡ 1)) ⊎ NamesJudges words count judges

-- nothing; or `--clients FILE` behind `open FOLDER LIMIT`; and then the judges
abbrev pub AsksForClients : (words : Words) → (admitted : Option (Bor (List ℕ))) → (judges : ℕ) → Type 0
AsksForClients words None judges = AsksForJudges words 4 judges
AsksForClients words (Some file) judges = (word_at words 4 ≡ codes "--clients") × (word_at words 5 ≡ file.now) × AsksForJudges words 6 judges

-- `open FOLDER LIMIT`
pub record AsksToOpen (words : Words) (asked : Asked) : Type 0 where
  pub admitted : AsksForClients words asked.admitted asked.judges
  pub name : word_at words 1 ≡ codes "open"
  pub folder : word_at words 2 ≡ asked.folder.now
  pub limit : number_of (word_at words 3) ≡ Some asked.limit

-- `new FOLDER LIMIT CLIENTS A B C`
pub record AsksForNew (words : Words) (asked : Asked) (first : FirstStart) : Type 0 where
  pub none_admitted : asked.admitted ≡ None
  pub judges : AsksForJudges words 8 asked.judges
  pub name : word_at words 1 ≡ codes "new"
  pub folder : word_at words 2 ≡ asked.folder.now
  pub limit : number_of (word_at words 3) ≡ Some asked.limit
  pub clients : word_at words 4 ≡ first.clients.now
  pub sizes : IsSizeOf (word_at words 5) (word_at words 6) (word_at words 7) first.sizes

abbrev pub IsAskedFor : Words → Asked → Type 0
IsAskedFor words asked = elim asked.first [ None ↦ AsksToOpen words asked | Some first ↦ AsksForNew words asked first ]
