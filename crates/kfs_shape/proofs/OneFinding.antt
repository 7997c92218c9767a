-- The finding of rules that are checked one after another.
use Rattle.std.proofs.Common.{◌≡◌, ℕ, List, [], ◌∷◌, ◌++◌, Option, Some, None, Result, Ok, Err, refl, sym, ap, ◌∙◌}
use Rattle.std.specs.Result.{IsErrAnd}
use Rattle.kfs_model.specs.Table.{option_or}
use Rattle.kfs_model.specs.Device.RawImage.{RawImage}
use Rattle.kfs_model.specs.Device.Rules.{Test}
use Rattle.kfs_model.specs.Device.Finding.{Finding, least_failed, finding_from, finding_of}
use Rattle.kfs_shape.specs.declared.fault.ShapeFault.{ShapeFault}
use Rattle.kfs_shape.specs.declared.fault.ShapeFault.TheVariants.{Found, OutOfMemory}
use Rattle.kfs_shape.specs.Findings.{finding_shown, node_rules, name_rules, extent_rules, Names, FindsNoneWhere}

abbrev Rules : Type 0
Rules = List (ℕ × (RawImage → List Test))

-- what is told of the first of two findings is told of both, where a fault tells it
pub told_before : {T : Type 0} (fault : ShapeFault) (result : Result T ShapeFault) (first later : Option Finding) → IsErrAnd result (λ other. other ≡ fault) → Names fault first → FindsNoneWhere result (option_or first later)
told_before fault (Ok value) first later is told = absurd is
told_before OutOfMemory (Err OutOfMemory) first later is told = tt
told_before OutOfMemory (Err (Found other)) first later is told = cc
told_before (Found found) (Err OutOfMemory) first later is told = tt
told_before (Found found) (Err (Found other)) None later is told = cc
told_before (Found found) (Err (Found other)) (Some finding) later is told = let same : other ≡ found = cc in told ∙ ap (λ f. Some (finding_shown f)) (sym same)

-- what is told of the last finding, where a fault tells it
pub told_last : {T : Type 0} (fault : ShapeFault) (result : Result T ShapeFault) (last : Option Finding) → IsErrAnd result (λ other. other ≡ fault) → Names fault last → FindsNoneWhere result last
told_last fault result None is told = told_before fault result None None is told
told_last fault result (Some finding) is told = told_before fault result (Some finding) None is told

module _ (raw : RawImage) where
  in_turn : (first second : Rules) → finding_from raw (first ++ second) ≡ option_or (finding_from raw first) (finding_from raw second)
  in_turn [] second = refl
  in_turn (r ∷ first) second = at (least_failed (r.1 raw)) (in_turn first second)
    where
      at : (o : Option ℕ) → finding_from raw (first ++ second) ≡ option_or (finding_from raw first) (finding_from raw second)
          → elim o [ None ↦ finding_from raw (first ++ second) | Some least ↦ Some (record { rule = r.0; number = least }) ]
          ≡ option_or (elim o [ None ↦ finding_from raw first | Some least ↦ Some (record { rule = r.0; number = least }) ]) (finding_from raw second)
      at None rest = rest
      at (Some least) rest = refl

  pub in_three_parts : finding_of raw ≡ option_or (finding_from raw node_rules) (option_or (finding_from raw name_rules) (finding_from raw extent_rules))
  unfolding finding_of
  in_three_parts = in_turn node_rules (name_rules ++ extent_rules) ∙ ap (option_or (finding_from raw node_rules)) (in_turn name_rules extent_rules)
