use Rattle.std.proofs.Common.{◌∙◌, ap, sym}
use Rattle.std.specs.Option.{option_copied}
use Rattle.kfs_model.specs.Table.{get}
use Rattle.kfs_maps.specs.Pages.Groups.{all_held, flat, page_in}
use Rattle.kfs_maps.specs.Pages.Shown.{slot_shows}
use Rattle.kfs_maps.proofs.PagesLemmas.Tables.{get-at}
use Rattle.kfs_maps.proofs.pages.pages.Pages.get.Goals as goal

pub returns-in_err-page : goal.returns-in_err-page
returns-in_err-page g c =
    let q = c.args.number in
    let pages = flat (all_held c.self.inside.groups.items) in
    ap option_copied c.from_residual.ensures
    ∙ ap (λ page. slot_shows page q) (c.in_err-page.ensures ∙ ap (λ groups. page_in (flat (all_held groups)) c.page_of.result) c.deref.ensures.value ∙ ap (page_in pages) c.page_of.ensures)
    ∙ sym (get-at pages q)
    ∙ ap (λ t. get t q) c.self.view_is

pub returns : goal.returns
returns g c =
    let q = c.args.number in
    let pages = flat (all_held c.self.inside.groups.items) in
    c.get.ensures
    ∙ ap (λ page. slot_shows page q) (c.in_ok-page.ensures ∙ ap (λ groups. page_in (flat (all_held groups)) c.page_of.result) c.deref.ensures.value ∙ ap (page_in pages) c.page_of.ensures)
    ∙ sym (get-at pages q)
    ∙ ap (λ t. get t q) c.self.view_is
