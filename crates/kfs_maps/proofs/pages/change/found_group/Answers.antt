use Rattle.std.proofs.Common.{◌≡◌, ◌∙◌, ap, sym, not, false}
use Rattle.std.specs.Option.{is_some}
use Rattle.kfs_maps.specs.declared.pages.page.Group.{Group}
use Rattle.kfs_maps.specs.Pages.Groups.{held, all_held}
use Rattle.kfs_maps.proofs.PagesLemmas.Groups.{is_some-held, pages_of-none}
use Rattle.kfs_maps.proofs.pages.change.found_group.Goals as goal

pub returns-in_ok-new-clause-same : goal.returns-in_ok-new-clause-same
returns-in_ok-new-clause-same g c =
    let none : is_some c.args.slot.now ≡ false = c.is_none.ensures ∙ ap not c.if-is_none.true in
    ap (λ (group : Group _ _). all_held group.pages.items) c.in_ok-new.ensures.ok ∙ c.in_ok-group.ensures ∙ sym (pages_of-none (held c.args.slot.now) (is_some-held c.args.slot.now ∙ none))
