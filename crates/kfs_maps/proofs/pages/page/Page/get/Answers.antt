use Rattle.std.proofs.Common.{◌∙◌, ◌+◌, ◌*◌, ap, sym, arith, get_or, None}
use Rattle.std.specs.Option.{option_copied}
use Rattle.kfs_model.specs.Table.{get}
use Rattle.kfs_maps.specs.Pages.Values.{Sheet}
use Rattle.kfs_maps.proofs.PagesLemmas.Numbers.{numbered-before, numbered-at}
use Rattle.kfs_maps.proofs.pages.page.Page.get.Goals as goal

pub returns-in_err-place : goal.returns-in_err-place
returns-in_err-place g c =
    ap option_copied c.from_residual.ensures
    ∙ sym (numbered-before (64 * c.self.inside.index + 1) c.self.inside.values.items c.args.number (omega (arith, c.in_err-place.ensures)))
    ∙ ap (λ (s : Sheet _). get s.values c.args.number) c.self.view_is

pub returns-in_err-get : goal.returns-in_err-get
returns-in_err-get g c =
    ap option_copied c.from_residual-in_err-get.ensures
    ∙ c.in_err-get.ensures.lookup.4 (omega arith) None
    ∙ ap (λ items. get_or items c.in_ok-place.place None) c.deref.ensures.value
    ∙ sym (numbered-at (64 * c.self.inside.index + 1) c.self.inside.values.items c.in_ok-place.place c.args.number (omega (arith, c.in_ok-place.ensures)))
    ∙ ap (λ (s : Sheet _). get s.values c.args.number) c.self.view_is

pub returns : goal.returns
returns g c =
    c.as_ref.ensures.value
    ∙ c.in_ok-get.ensures.lookup.4 (omega arith) None
    ∙ ap (λ items. get_or items c.in_ok-place.place None) c.deref.ensures.value
    ∙ sym (numbered-at (64 * c.self.inside.index + 1) c.self.inside.values.items c.in_ok-place.place c.args.number (omega (arith, c.in_ok-place.ensures)))
    ∙ ap (λ (s : Sheet _). get s.values c.args.number) c.self.view_is
