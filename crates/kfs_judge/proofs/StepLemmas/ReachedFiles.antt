-- Entries one after another: the draft has the file of each that was entered.
use Rattle.std.specs.Prelude.{◌≡◌, ℕ, ◌||◌, Bool, true, false, List, [], ◌∷◌, IsTrue, refl}
use Rattle.std.specs.List.{list_any}
use Rattle.std.proofs.lemmas.Bool.{or_left, or_right}
use Rattle.kfs_model.specs.Entry.{Entry}
use Rattle.kfs_judge_reads.specs.declared.draft.draft.Draft.{Draft}
use Rattle.kfs_judge_reads.specs.Draft.Overlay.{has_header, KeepsHeaders}
use Rattle.kfs_judge.specs.Step.FileSizes.{HasFileOf, HasFilesOf}
use Rattle.kfs_pieces.specs.Sizes.{reaches_file}

module _ {A : Type 0} where
  -- of each file that the entries reach the draft has the header, or one of the entries that are left reaches it
  abbrev pub ReachesOn : Draft A → (entries rest : List Entry) → Type 0
  ReachesOn draft entries rest = (n : ℕ) → IsTrue (list_any (reaches_file n) entries) → IsTrue (has_header draft n || list_any (reaches_file n) rest)

  pub reaches_first : (draft : Draft A) (entries : List Entry) → ReachesOn draft entries entries
  reaches_first draft entries n is = or_right (has_header draft n) (list_any (reaches_file n) entries) is

  pub reaches_next : (old new : Draft A) (entry : Entry) (entries rest : List Entry) → ReachesOn old entries (entry ∷ rest) → KeepsHeaders old new → HasFileOf new entry → ReachesOn new entries rest
  reaches_next old new entry entries rest on kept reached n is = at (has_header old n) refl (reaches_file n entry) refl (on n is)
    where
      at : (had : Bool) → has_header old n ≡ had → (own : Bool) → reaches_file n entry ≡ own → IsTrue (had || (own || list_any (reaches_file n) rest)) → IsTrue (has_header new n || list_any (reaches_file n) rest)
      at true had own own_is later = or_left _ _ (kept n had)
      at false had true own_is later = or_left _ _ (reached n own_is)
      at false had false own_is later = or_right (has_header new n) (list_any (reaches_file n) rest) later

  pub reaches_out : (draft : Draft A) (entries : List Entry) → ReachesOn draft entries [] → HasFilesOf draft entries
  reaches_out draft entries on n is = at (has_header draft n) (on n is)
    where
      at : (had : Bool) → IsTrue (had || false) → IsTrue had
      at true is' = refl
      at false is' = is'
