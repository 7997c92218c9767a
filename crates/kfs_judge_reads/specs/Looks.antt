-- What is remembered of a view.
use Rattle.std.specs.Prelude.{◌≡◌, ℕ, List, Option}
use Rattle.std.specs.Option.{option_map}
use Rattle.kfs_model.specs.Table.{get}
use Rattle.kfs_model.specs.Tree.{target}
use Rattle.kfs_types.specs.Views.{header_of}
use Rattle.kfs_types.specs.declared.entry.Header.{Header as CodeHeader}
use Rattle.kfs_judge_reads.specs.declared.looks.Recall.{Recall}
use Rattle.kfs_judge_reads.specs.declared.view.View.{View}
use Rattle.kfs_judge_reads.specs.Recall.{Holds}
use Rattle.kfs_judge_reads.specs.View.{contents_of}

module _ {A : Type 0} (view : View A) where
  -- each header that is remembered is the view's
  abbrev pub HeadersAreRight : Recall ℕ (Option CodeHeader) → Type 0
  HeadersAreRight headers = (number : ℕ) (header : Option CodeHeader) → Holds headers number header → option_map header_of header ≡ get (contents_of view).heads number

  -- each name that is remembered leads to that number in the view
  abbrev pub NamesAreRight : Recall (ℕ × List ℕ) (Option ℕ) → Type 0
  NamesAreRight names = (key : ℕ × List ℕ) (number : Option ℕ) → Holds names key number → number ≡ target (contents_of view).names key.0 key.1
