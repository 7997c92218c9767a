use Rattle.std.proofs.Common.{◌≡◌, ◌∙◌, ℕ, Bor, false, ap, sym, arith, Option, Some, None}
use Rattle.std.specs.Prelude.{IfSome, IfNone}
use Rattle.std.specs.Option.{is_some}
use Rattle.kfs_model.specs.Table.{get}
use Rattle.kfs_maps.specs.Pages.Edits.{page_of}
use Rattle.kfs_maps.specs.Pages.Groups.{all_held, flat}
use Rattle.kfs_maps.specs.Pages.Shown.{part, slot_shows}
use Rattle.kfs_maps.specs.Pages.Values.{IsNextNumber}
use Rattle.kfs_maps.proofs.PagesLemmas.Numbers.{by_less, get_or-behind}
use Rattle.kfs_maps.proofs.PagesLemmas.Groups.{length-flat, length-held}
use Rattle.kfs_maps.proofs.PagesLemmas.Tables.{get-part, get-at, next_whole}
use Rattle.kfs_maps.proofs.pages.pages.Pages.next.Goals as goal

none_holds : {X P : Type 0} (o : Option X) → IfNone o P → is_some o ≡ false → P
none_holds None p none = p
none_holds (Some x) p none = cc

pub loop-index-init : goal.loop-index-init
unfolding page_of
loop-index-init g c m above below = absurd (omega (arith, above, below))

pub returns-then-is_some-clause-found : goal.returns-then-is_some-clause-found
returns-then-is_some-clause-found g c =
    elim c.next_in-found.result as (λ (r : Option (ℕ × Bor _)). IfSome r (λ p. IsNextNumber (part c.loop-index.index c.args.self.now) c.args.after p.0 p.1.now) → IfSome r (λ p. IsNextNumber c.args.self.now c.args.after p.0 p.1.now)) [
      | None ↦ λ next. next
      | Some p ↦ λ next. next_whole c.loop-index.index c.args.self.now c.args.after p.0 p.1.now c.loop-index.invariant next
    ] c.next_in-found.ensures.found

pub loop-index-preserved : goal.loop-index-preserved
loop-index-preserved g c m above below =
    by_less (page_of m) c.loop-index.index (λ less. c.loop-index.invariant m above less)
    (λ from.
    sym (get-part c.loop-index.index c.args.self.now m (omega (arith, below, from)))
    ∙ none_holds c.next_in-found.result c.next_in-found.ensures.none (sym c.is_some.ensures ∙ c.if-is_some.false) m above)

pub returns-clause-none : goal.returns-clause-none
returns-clause-none g c m above =
    by_less (page_of m) c.loop-index.index (λ less. c.loop-index.invariant m above less)
    (λ from.
    ap (λ t. get t m) (sym c.self.view_is)
    ∙ get-at (flat (all_held c.self.inside.groups.items)) m
    ∙ ap (λ slot. slot_shows slot m)
    (get_or-behind (flat (all_held c.self.inside.groups.items)) (page_of m)
    (omega (arith, from, c.loop-index-test.false, c.self.invariant.0, length-flat (all_held c.self.inside.groups.items) c.self.invariant.1, length-held c.self.inside.groups.items))))
