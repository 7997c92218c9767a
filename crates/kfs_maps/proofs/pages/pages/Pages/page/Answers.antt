use Rattle.std.proofs.Common.{◌≡◌, ◌∙◌, ℕ, ap, sym, arith, Option, Some, None, List}
use Rattle.std.specs.Prelude.{IfNone}
use Rattle.kfs_model.specs.Table.{get}
use Rattle.kfs_maps.specs.Pages.Values.{Sheet}
use Rattle.kfs_maps.specs.Pages.Edits.{page_of}
use Rattle.kfs_maps.specs.Pages.Groups.{all_held, flat, page_in}
use Rattle.kfs_maps.specs.Pages.Shown.{slot_shows, part, table_from, AreIndexedFrom}
use Rattle.kfs_maps.proofs.PagesLemmas.Tables.{part-at, part-none, stands_at}
use Rattle.kfs_maps.proofs.pages.pages.Pages.page.Goals as goal

if_none : {X P : Type 0} (o : Option X) → P → IfNone o P
if_none None p = p
if_none (Some x) p = tt

-- the values of a page that is there are the map's part of its numbers
its_part : {V : Type 0} (pages : List (Option (Sheet V))) (index : ℕ) (page : Sheet V) → AreIndexedFrom 0 pages → Some page ≡ page_in pages index → ((n : ℕ) → (page_of n ≡ page.index → ⊥) → get page.values n ≡ None) → (page.index ≡ index) × (page.values ≡ part index (table_from 0 pages))
its_part pages index page placed here own =
    let stands : page.index ≡ index = stands_at pages 0 index page placed (sym here) ∙ omega arith in
    (stands, part-at pages index page.values (λ n other. own n (λ same. other (same ∙ stands))) (λ n. ap (λ slot. slot_shows slot n) (sym here)))

pub returns-in_err-page-clause-none : goal.returns-in_err-page-clause-none
returns-in_err-page-clause-none g c =
    let pages = flat (all_held c.self.inside.groups.items) in
    if_none c.from_residual.result (ap (part c.args.index) (sym c.self.view_is) ∙ part-none pages c.args.index (sym (c.in_err-page.ensures ∙ ap (λ groups. page_in (flat (all_held groups)) c.args.index) c.deref.ensures.value)))

pub returns-then-is_blank-clause-none : goal.returns-then-is_blank-clause-none
returns-then-is_blank-clause-none g c =
    let here = c.in_ok-page.ensures ∙ ap (λ groups. page_in (flat (all_held groups)) c.args.index) c.deref.ensures.value in
    let its = its_part (flat (all_held c.self.inside.groups.items)) c.args.index c.in_ok-page.page.now c.self.invariant.2 here c.is_blank.ensures.own in
    ap (part c.args.index) (sym c.self.view_is) ∙ sym its.1 ∙ c.is_blank.ensures.blank c.if-is_blank.true

pub returns-clause-page : goal.returns-clause-page
returns-clause-page g c =
    let here = c.in_ok-page.ensures ∙ ap (λ groups. page_in (flat (all_held groups)) c.args.index) c.deref.ensures.value in
    let its = its_part (flat (all_held c.self.inside.groups.items)) c.args.index c.in_ok-page.page.now c.self.invariant.2 here c.is_blank.ensures.own in
    let whole = its.1 ∙ ap (part c.args.index) c.self.view_is in
    λ i. record { index = its.0 i; values = whole i }

pub returns-clause-some : goal.returns-clause-some
returns-clause-some g c blank =
    let here = c.in_ok-page.ensures ∙ ap (λ groups. page_in (flat (all_held groups)) c.args.index) c.deref.ensures.value in
    let its = its_part (flat (all_held c.self.inside.groups.items)) c.args.index c.in_ok-page.page.now c.self.invariant.2 here c.is_blank.ensures.own in
    c.is_blank.ensures.filled c.if-is_blank.false (its.1 ∙ ap (part c.args.index) c.self.view_is ∙ blank)
