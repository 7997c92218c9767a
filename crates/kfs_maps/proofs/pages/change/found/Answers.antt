use Rattle.std.proofs.Common.{◌≡◌, ◌∙◌, ap, not, false}
use Rattle.std.specs.Option.{is_some}
use Rattle.kfs_maps.specs.Pages.Groups.{held}
use Rattle.kfs_maps.proofs.PagesLemmas.Groups.{is_some-held}
use Rattle.kfs_maps.proofs.PagesLemmas.Tables.{blank_shows}
use Rattle.kfs_maps.proofs.pages.change.found.Goals as goal

pub returns-in_ok-new-clause-shown : goal.returns-in_ok-new-clause-shown
returns-in_ok-new-clause-shown g c =
    let none : is_some c.args.slot.now ≡ false = c.is_none.ensures ∙ ap not c.if-is_none.true in
    blank_shows (held c.args.slot.now) c.in_ok-new.field-0.value c.args.index (is_some-held c.args.slot.now ∙ none) (c.in_ok-new.ensures.ok ∙ c.in_ok-page.ensures)
