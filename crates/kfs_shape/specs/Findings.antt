-- What the check of an image answers, next to the finding of the definitions.
use Rattle.std.specs.Prelude.{◌≡◌, ℕ, List, [], ◌∷◌, Option, Some, None, Result, Ok, Err}
use Rattle.kfs_model.specs.Device.RawImage.{RawImage}
use Rattle.kfs_model.specs.Device.Rules.{Test, rule_1, rule_2, rule_3, rule_4, rule_5, rule_6, rule_7, rule_8, rule_9, rule_10}
use Rattle.kfs_model.specs.Device.Finding.{Finding}
use Rattle.kfs_shape.specs.declared.fault.Finding.{Finding as CodeFinding}
use Rattle.kfs_shape.specs.declared.fault.ShapeFault.{ShapeFault}
use Rattle.kfs_shape.specs.declared.fault.ShapeFault.TheVariants.{Found, OutOfMemory}

abbrev pub finding_shown : CodeFinding → Finding
finding_shown finding = record { rule = finding.rule; number = finding.number }

-- the finding of a rule whose tests fail at this least number
abbrev pub found_at : (rule : ℕ) → (least : Option ℕ) → Option Finding
found_at rule None = None
found_at rule (Some number) = Some (record { rule = rule; number = number })

-- the fault names this finding; where memory ran out it says nothing
abbrev pub Names : ShapeFault → Option Finding → Type 0
Names (Found found) finding = finding ≡ Some (finding_shown found)
Names OutOfMemory finding = Unit {0}

-- there is a value only where nothing is found
abbrev pub FindsNoneWhere : {T : Type 0} → Result T ShapeFault → Option Finding → Type 0
FindsNoneWhere (Ok value) finding = finding ≡ None
FindsNoneWhere (Err fault) finding = Names fault finding

abbrev pub node_rules : List (ℕ × (RawImage → List Test))
node_rules = (1, rule_1) ∷ (2, rule_2) ∷ (3, rule_3) ∷ []

abbrev pub name_rules : List (ℕ × (RawImage → List Test))
name_rules = (4, rule_4) ∷ (5, rule_5) ∷ (6, rule_6) ∷ (7, rule_7) ∷ []

abbrev pub extent_rules : List (ℕ × (RawImage → List Test))
extent_rules = (8, rule_8) ∷ (9, rule_9) ∷ (10, rule_10) ∷ []
