use Rattle.std.proofs.Common.{◌∙◌, ◌-◌, ◌+◌, ◌*◌, ap, arith}
use Rattle.kfs_maps.specs.Pages.Edits.{page_of}
use Rattle.kfs_maps.specs.Pages.Values.{Sheet}
use Rattle.kfs_model.specs.Table.{changed}
use Rattle.kfs_maps.proofs.PagesLemmas.Numbers.{numbered-set}
use Rattle.kfs_maps.proofs.pages.page.Page.set.Goals as goal

pub overflow_sub-place : goal.overflow_sub-place
unfolding page_of
overflow_sub-place g c = omega (arith, c.requires.page, c.requires.number, ap (λ (s : Sheet _). s.index) c.self.view_is)

pub index_mut-requires : goal.index_mut-requires
unfolding page_of
index_mut-requires g c = omega (arith, c.requires.page, c.requires.number, ap (λ (s : Sheet _). s.index) c.self.view_is, c.self.invariant.1, c.self.inside.values.ok)

pub returns : goal.returns
unfolding page_of
returns g c =
    let index = ap (λ (s : Sheet _). s.index) c.self.view_is in
    let place = c.args.number - (c.self.inside.index * 64 + 1) in
    let set = numbered-set (64 * c.self.inside.index + 1) c.self.inside.values.items place c.args.value c.args.number (omega (arith, c.requires.page, c.requires.number, index))
    (omega (arith, c.requires.page, c.requires.number, index, c.self.invariant.1)) ∙ ap (λ (s : Sheet _). changed s.values c.args.number c.args.value) c.self.view_is in
    λ i. record { index = index i; values = set i }
