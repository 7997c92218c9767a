-- What is wrong with an image: the least rule that is broken, and the least number at which it is broken.
use Rattle.std.specs.Prelude.{◌≡◌, ℕ, ◌≤◌, ◌==◌, ◌&&◌, not, min, Bool, false, List, [], ◌∷◌, Option, Some, None, IsTrue, if◌then◌else◌}
use Rattle.std.specs.List.{list_any}
use Rattle.kfs_model.specs.Table.{get}
use Rattle.kfs_model.specs.Device.RawImage.{RawImage}
use Rattle.kfs_model.specs.Device.Rules.{Test, rules}

pub record Finding : Type 0 where
  pub rule : ℕ
  pub number : ℕ

abbrev pub fails_at : (number : ℕ) → Test → Bool
fails_at number test = not test.holds && (test.number == number)

-- whether a test of the rule fails at the number
abbrev pub is_broken_at : RawImage → (rule number : ℕ) → Bool
is_broken_at raw rule number = elim (get rules rule) [ None ↦ false | Some tests ↦ list_any (fails_at number) (tests raw) ]

-- the rule is broken at the number, no lower rule is broken anywhere, and this one at no lower number
pub record IsLeastBroken (raw : RawImage) (finding : Finding) : Type 0 where
  pub broken : IsTrue (is_broken_at raw finding.rule finding.number)
  pub least_rule : (rule number : ℕ) → IsTrue (is_broken_at raw rule number) → finding.rule ≤ rule
  pub least_number : (number : ℕ) → IsTrue (is_broken_at raw finding.rule number) → finding.number ≤ number

-- the lesser of the number and the other one, if there is another one
abbrev pub least_of : ℕ → Option ℕ → ℕ
least_of number None = number
least_of number (Some other) = min number other

-- the least number at which one of the tests fails
abbrev pub least_failed : List Test → Option ℕ
least_failed [] = None
least_failed (test ∷ tests) = if test.holds then least_failed tests else Some (least_of test.number (least_failed tests))

-- the first of these rules that is broken, with the least number at which it is
abbrev pub finding_from : RawImage → List (ℕ × (RawImage → List Test)) → Option Finding
finding_from raw [] = None
finding_from raw (rule ∷ rest) = elim (least_failed (rule.1 raw)) [ None ↦ finding_from raw rest | Some number ↦ Some (record { rule = rule.0; number = number }) ]

unfoldable pub finding_of : RawImage → Option Finding
finding_of raw = finding_from raw rules.entries

abbrev pub IsWellFormed : RawImage → Type 0
IsWellFormed raw = finding_of raw ≡ None
