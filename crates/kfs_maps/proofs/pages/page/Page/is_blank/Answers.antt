use Rattle.std.proofs.Common.{◌∙◌, ◌+◌, ◌*◌, ap, sym, arith, get_or, None}
use Rattle.std.proofs.lemmas.List.{get_or_default}
use Rattle.kfs_model.specs.Table.{get}
use Rattle.kfs_maps.specs.Pages.Values.{Sheet, numbered}
use Rattle.kfs_maps.proofs.PagesLemmas.Numbers.{numbered-none, numbered-at, numbered-own, some_is_not_none}
use Rattle.kfs_maps.proofs.pages.page.Page.is_blank.Goals as goal

pub returns-then-is_some-clause-filled : goal.returns-then-is_some-clause-filled
unfolding get
returns-then-is_some-clause-filled g c said blank =
    let first = 64 * c.self.inside.index + 1 in
    let place = c.loop-value.value-index in
    let items = c.deref-value-items.result.now in
    some_is_not_none c.value-item.result
    (c.value-item.is
    ∙ get_or_default items place _ None c.loop-value-test.true
    ∙ ap (λ values. get_or values place None) c.deref-value-items.ensures.value
    ∙ sym (numbered-at first c.self.inside.values.items place (first + place) (omega arith))
    ∙ ap (λ (s : Sheet _). get s.values (first + place)) c.self.view_is
    ∙ ap (λ t. get t (first + place)) blank)
    (sym c.is_some.ensures ∙ c.if-is_some.true)

pub returns-then-is_some-clause-own : goal.returns-then-is_some-clause-own
returns-then-is_some-clause-own g c n other =
    ap (λ (s : Sheet _). get s.values n) (sym c.self.view_is)
    ∙ numbered-own c.self.inside.index c.self.inside.values.items n c.self.invariant.1 (λ same. other (same ∙ ap (λ (s : Sheet _). s.index) c.self.view_is))

pub returns-clause-blank : goal.returns-clause-blank
returns-clause-blank g c said =
    ap (λ (s : Sheet _). s.values) (sym c.self.view_is)
    ∙ ap (numbered (64 * c.self.inside.index + 1)) (sym c.deref-value-items.ensures.value)
    ∙ numbered-none (64 * c.self.inside.index + 1) c.deref-value-items.result.now (λ k below. c.loop-value.invariant k (omega (arith, below, c.loop-value-test.false)))

pub returns-clause-own : goal.returns-clause-own
returns-clause-own g c n other =
    ap (λ (s : Sheet _). get s.values n) (sym c.self.view_is)
    ∙ numbered-own c.self.inside.index c.self.inside.values.items n c.self.invariant.1 (λ same. other (same ∙ ap (λ (s : Sheet _). s.index) c.self.view_is))
