use Rattle.std.proofs.Common.{◌≡◌, ◌<◌, ◌≤◌, ◌∙◌, ◌-◌, ◌+◌, ◌*◌, ℕ, List, Option, ap, sym, arith, get_or, None}
use Rattle.std.proofs.lemmas.List.{get_or_default}
use Rattle.kfs_model.specs.Table.{get}
use Rattle.kfs_maps.specs.Pages.Values.{Sheet, numbered}
use Rattle.kfs_maps.proofs.PagesLemmas.Numbers.{by_less, numbered-before, numbered-behind, numbered-at}
use Rattle.kfs_maps.proofs.pages.page.Page.next.Goals as goal

-- no number above this one and below the place has a value
nothing_between : {V : Type 0} (index after place : ℕ) (values : List (Option V)) → ((k : ℕ) → after - 64 * index ≤ k → k < place → get_or values k None ≡ None) → (m : ℕ) → after < m → m < 64 * index + 1 + place
    → get (numbered (64 * index + 1) values) m ≡ None
nothing_between index after place values none m above below =
    by_less m (64 * index + 1) (numbered-before (64 * index + 1) values m)
    (λ from. numbered-at (64 * index + 1) values (m - (64 * index + 1)) m (omega (arith, from)) ∙ none (m - (64 * index + 1)) (omega (arith, from, above)) (omega (arith, from, below)))

pub returns-in-Some-clause-found : goal.returns-in-Some-clause-found
returns-in-Some-clause-found g c =
    let index = c.self.inside.index in
    let items = c.self.inside.values.items in
    let place = c.loop-place.place in
    let number = index * 64 + 1 + place in
    record {
      above = omega (arith, c.loop-place.auto.place, c.saturating_sub-place.ensures);
      here = ap (λ (s : Sheet _). get s.values number) (sym c.self.view_is) ∙ numbered-at (64 * index + 1) items place number (omega arith) ∙ get_or_default items place None c.index.result.now (omega (arith, c.loop-place-test.true, c.self.invariant.1)) ∙ sym c.index.ensures ∙ c.in-Some.is;
      least = λ m above below. ap (λ (s : Sheet _). get s.values m) (sym c.self.view_is) ∙ nothing_between index c.args.after place items c.loop-place.invariant m above (omega (arith, below));
    }

pub returns-clause-none : goal.returns-clause-none
returns-clause-none g c m above =
    let index = c.self.inside.index in
    let items = c.self.inside.values.items in
    ap (λ (s : Sheet _). get s.values m) (sym c.self.view_is)
    ∙ by_less m (64 * index + 1 + 64) (λ below. nothing_between index c.args.after c.loop-place.place items c.loop-place.invariant m above (omega (arith, below, c.loop-place-test.false)))
    (λ from. numbered-behind (64 * index + 1) items m (omega (arith, from, c.self.invariant.1)))
