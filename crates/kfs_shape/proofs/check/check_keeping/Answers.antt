use Rattle.std.proofs.Common.{subst, sym, ap, ◌∙◌}
use Rattle.kfs_model.specs.Table.{option_or}
use Rattle.kfs_model.specs.Device.Finding.{finding_from}
use Rattle.kfs_shape.specs.Findings.{name_rules, extent_rules, FindsNoneWhere}
use Rattle.kfs_image.specs.Codec.RawImages.{raw_of}
use Rattle.kfs_shape.proofs.OneFinding.{in_three_parts, told_before, told_last}
use Rattle.kfs_shape.proofs.check.check_keeping.Goals as goal

pub returns-in_err-headers-clause-told : goal.returns-in_err-headers-clause-told
returns-in_err-headers-clause-told g c =
    let raw = raw_of c.args.raw.now in
    subst (λ finding. FindsNoneWhere c.from_residual.result finding) (sym (in_three_parts raw)) (told_before c.in_err-headers.field-0.0 c.from_residual.result _ _ c.from_residual.ensures.1 c.in_err-headers.ensures.told)

pub returns-in_err-check_names-clause-told : goal.returns-in_err-check_names-clause-told
returns-in_err-check_names-clause-told g c =
    let raw = raw_of c.args.raw.now in
    let first = ap (λ o. option_or o (option_or (finding_from raw name_rules) (finding_from raw extent_rules))) c.in_ok-headers.ensures.told in
    subst (λ finding. FindsNoneWhere c.from_residual-in_err-check_names.result finding) (sym (in_three_parts raw ∙ first)) (told_before c.in_err-check_names.field-0.0 c.from_residual-in_err-check_names.result _ _ c.from_residual-in_err-check_names.ensures.1 c.in_err-check_names.ensures)

pub returns-in_err-check_extents-clause-told : goal.returns-in_err-check_extents-clause-told
returns-in_err-check_extents-clause-told g c =
    let raw = raw_of c.args.raw.now in
    let first = ap (λ o. option_or o (option_or (finding_from raw name_rules) (finding_from raw extent_rules))) c.in_ok-headers.ensures.told in
    let second = ap (λ o. option_or o (finding_from raw extent_rules)) c.in_ok-check_names.ensures in
    subst (λ finding. FindsNoneWhere c.from_residual-in_err-check_extents.result finding) (sym (in_three_parts raw ∙ first ∙ second)) (told_last c.in_err-check_extents.field-0.0 c.from_residual-in_err-check_extents.result _ c.from_residual-in_err-check_extents.ensures.1 c.in_err-check_extents.ensures)

pub returns-clause-told : goal.returns-clause-told
returns-clause-told g c =
    let raw = raw_of c.args.raw.now in
    let first = ap (λ o. option_or o (option_or (finding_from raw name_rules) (finding_from raw extent_rules))) c.in_ok-headers.ensures.told in
    let second = ap (λ o. option_or o (finding_from raw extent_rules)) c.in_ok-check_names.ensures in
    in_three_parts raw ∙ first ∙ second ∙ c.in_ok-check_extents.ensures
