-- For each number the ancestor that a list leads it to.
use Rattle.std.specs.Prelude.{◌≡◌, ℕ, ◌<◌, ◌==◌, ◌&&◌, ◌||◌, Bool, true, false, List, length, slice_get, Option, Some, None, if◌then◌else◌}
use Rattle.kfs_model.specs.Table.{option_or}
use Rattle.kfs_model.specs.Sight.{is_file}
use Rattle.kfs_model.specs.Device.RawImage.{RawNode, RawImage}
use Rattle.kfs_model.specs.Device.Rules.{Test, test, parent_of}

-- where the list leads from a number; nowhere for a number past its end
abbrev pub ancestor_at : List (Option ℕ) → (number : ℕ) → Option ℕ
ancestor_at ancestors number = elim (slice_get ancestors number) [ None ↦ None | Some up ↦ up ]

-- where the list leads from there, if anywhere
abbrev pub ancestor_from : List (Option ℕ) → Option ℕ → Option ℕ
ancestor_from ancestors None = None
ancestor_from ancestors (Some number) = ancestor_at ancestors number

-- the list leads each directory to its parent, and the root to itself
abbrev pub ParentsOf : List (Option ℕ) → RawImage → Type 0
ParentsOf ancestors raw = (number : ℕ) → ancestor_at ancestors number ≡ (if number == 1 then Some 1 else parent_of raw number)

-- the number leads to `up`, if it is taken and led nowhere; all others lead where they did
pub record LeadsFirst (old new : List (Option ℕ)) (taken : Bool) (number up : ℕ) : Type 0 where
  pub len : length new ≡ length old
  pub each : (n : ℕ) → n < length old → ancestor_at new n ≡ option_or (ancestor_at old n) (if taken && (number == n) then Some up else None)

abbrev pub is_root : Option ℕ → Bool
is_root None = false
is_root (Some number) = number == 1

-- whether this leads nowhere, or to the root
abbrev pub not_elsewhere : Option ℕ → Bool
not_elsewhere None = true
not_elsewhere (Some number) = number == 1

-- the list leads no number elsewhere than to the root
abbrev pub EndAtRoot : List (Option ℕ) → Type 0
EndAtRoot ancestors = (number : ℕ) → not_elsewhere (ancestor_at ancestors number) ≡ true

-- whether the node is a file, or the list leads it to the root
abbrev pub top_test : List (Option ℕ) → RawNode → Test
top_test tops row = test (is_file (Some row.header) || is_root (ancestor_at tops row.number)) row.number
