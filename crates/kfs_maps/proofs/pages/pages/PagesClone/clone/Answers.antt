use Rattle.std.proofs.Common.{◌∙◌, ap, sym, subst, length}
use Rattle.kfs_maps.specs.Pages.Groups.{flat, GroupsAreWhole}
use Rattle.kfs_maps.specs.Pages.Shown.{table_from, AreIndexedFrom}
use Rattle.kfs_maps.proofs.PagesLemmas.Groups.{copied_held, length-held}
use Rattle.kfs_maps.proofs.pages.pages.PagesClone.clone.Goals as goal

pub invariant_of-result : goal.invariant_of-result
invariant_of-result g c =
    let old = c.self.inside.groups.items in
    let new = c.in_ok-clone.field-0.items in
    let same = copied_held _ (λ a b same. same) (λ a none. none) (λ b none. none) old new c.in_ok-clone.ensures.cases.0 in
    (sym (length-held new) ∙ ap length same ∙ length-held old ∙ c.self.invariant.0, subst GroupsAreWhole (sym same) c.self.invariant.1, subst (λ groups. AreIndexedFrom 0 (flat groups)) (sym same) c.self.invariant.2)

pub returns : goal.returns
returns g c =
    record {
      cases =
          ap (λ groups. table_from 0 (flat groups)) (copied_held _ (λ a b same. same) (λ a none. none) (λ b none. none) c.self.inside.groups.items c.in_ok-clone.field-0.items c.in_ok-clone.ensures.cases.0) ∙ c.self.view_is;
    }
