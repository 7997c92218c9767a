-- The answer of a look at a cell.
use Rattle.std.specs.Prelude.{◌≡◌, ℕ, ◌<◌, List, Option, Some, None, IsSome, option_map, false}
use Rattle.std.specs.declared.cmp.Ordering.TheVariants.{Less}
use Rattle.std.specs.Ordering.{nat_cmp, is_lt}
use Rattle.std.specs.Cmp.Lexicographic.{slice_cmp}
use Rattle.std.specs.Borrow.{Bor}
use Rattle.kfs_types.specs.Views.{header_of}
use Rattle.kfs_model.specs.Header.{Header}
use Rattle.kfs_model.specs.Table.{Table, numbers, get}
use Rattle.kfs_model.specs.Tree.{NameTable, target, entry_count}
use Rattle.kfs_model.specs.Sight.{parent_in}
use Rattle.kfs_image_nodes.specs.declared.cell.Cell.{Cell}
use Rattle.kfs_image_nodes.specs.declared.cell.Cell.TheVariants as cells
use Rattle.kfs_image_nodes.specs.declared.cell.Answer.{Answer}
use Rattle.kfs_image_nodes.specs.declared.cell.Answer.TheVariants as answers
use Rattle.kfs_image_nodes.specs.Contents.{Contents}

-- the answer is of the cell's case and right for these nodes and names
abbrev pub IsAnswer : Contents → Cell → Answer → Type 0
IsAnswer c (cells.Header number) answer = IsHeader c number answer
  where
    IsHeader : Contents → ℕ → Answer → Type 0
    IsHeader c number (answers.Header header) = option_map header_of header ≡ get c.heads number
    IsHeader c number (answers.Name number') = ⊥
    IsHeader c number (answers.Count count) = ⊥
    IsHeader c number (answers.Parent parent) = ⊥
IsAnswer c (cells.Name dir name) answer = IsTarget c dir name answer
  where
    IsTarget : Contents → ℕ → List ℕ → Answer → Type 0
    IsTarget c dir name (answers.Header header) = ⊥
    IsTarget c dir name (answers.Name number) = number ≡ target c.names dir name
    IsTarget c dir name (answers.Count count) = ⊥
    IsTarget c dir name (answers.Parent parent) = ⊥
IsAnswer c (cells.Count dir) answer = IsCount c dir answer
  where
    IsCount : Contents → ℕ → Answer → Type 0
    IsCount c dir (answers.Header header) = ⊥
    IsCount c dir (answers.Name number) = ⊥
    IsCount c dir (answers.Count count) = count ≡ entry_count c.names dir
    IsCount c dir (answers.Parent parent) = ⊥
IsAnswer c (cells.Parent number) answer = IsParent c number answer
  where
    IsParent : Contents → ℕ → Answer → Type 0
    IsParent c number (answers.Header header) = ⊥
    IsParent c number (answers.Name number') = ⊥
    IsParent c number (answers.Count count) = ⊥
    IsParent c number (answers.Parent parent) = parent ≡ parent_in (get c.heads) c.names number

-- the name comes after the given one, if one is given
abbrev pub IsAfter : Option (Bor (List ℕ)) → List ℕ → Type 0
IsAfter None name = Unit {0}
IsAfter (Some before) name = slice_cmp nat_cmp before.now name ≡ Less

-- the name is the directory's least after the given one, and leads to the number
pub record IsNext (names : NameTable) (directory : ℕ) (after : Option (Bor (List ℕ))) (name : List ℕ) (number : ℕ) : Type 0 where
  pub leads : target names directory name ≡ Some number
  pub later : IsAfter after name
  pub least : (m : List ℕ) (n : ℕ) → target names directory m ≡ Some n → IsAfter after m → is_lt (slice_cmp nat_cmp m name) ≡ false

-- the number is a node's, and the least one above `after`
pub record IsNextNode (heads : Table numbers Header) (after number : ℕ) : Type 0 where
  pub node : IsSome (get heads number)
  pub later : after < number
  pub least : (m : ℕ) → after < m → m < number → get heads m ≡ None
