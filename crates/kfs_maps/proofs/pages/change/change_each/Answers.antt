use Rattle.std.proofs.Common.{◌≡◌, ◌∙◌, ◌+◌, ◌++◌, take, ap, sym, subst, arith, length-drop}
use Rattle.std.proofs.lemmas.List.{take-append-drop, get_or-drop}
use Rattle.kfs_maps.specs.declared.pages.change.NumberEdit.{NumberEdit}
use Rattle.kfs_maps.specs.Pages.Edits.{page_of, edited, Ascends, EditsAreWithin}
use Rattle.kfs_maps.specs.Pages.Groups.{all_held, flat}
use Rattle.kfs_maps.specs.Pages.Shown.{shown}
use Rattle.kfs_maps.proofs.PagesLemmas.Tables.{edited-append}
use Rattle.kfs_maps.proofs.pages.change.change_each.Goals as goal

pub loop-rest-preserved : goal.loop-rest-preserved
loop-rest-preserved g c =
    let es = c.loop-rest.rest.now in
    let r = c.min.result in
    let mine = c.split_at.result.0.now in
    let later = c.split_at.result.1.now in
    let before = flat (all_held c.loop-rest.groups) in
    let whole : mine ++ later ≡ es = ap (λ front. front ++ later) c.split_at.ensures.front ∙ ap (λ back. take r es ++ back) c.split_at.ensures.back ∙ take-append-drop r es in
    record {
      count = omega (arith, c.change_groups.auto.groups, c.loop-rest.invariant.count);
      ascends = subst Ascends (sym c.split_at.ensures.back)
          (λ i j d le below.
          omega (arith, ap (λ (e : NumberEdit _). page_of e.number) (get_or-drop r es i d), ap (λ (e : NumberEdit _). page_of e.number) (get_or-drop r es j d), c.loop-rest.invariant.ascends (r + i) (r + j) d (omega (arith, le)) (omega (arith, below, length-drop r es))));
      within = subst (EditsAreWithin 0 1024) (sym c.split_at.ensures.back)
          (λ k d below.
          let its = c.loop-rest.invariant.within (r + k) d (omega (arith, below, length-drop r es)) in
          let same = get_or-drop r es k d in
          (omega (arith, ap (λ (e : NumberEdit _). e.number) same, its.0), omega arith, omega (arith, ap (λ (e : NumberEdit _). page_of e.number) same, its.2)));
      whole = c.in_ok-change_groups.ensures.whole;
      placed = c.in_ok-change_groups.ensures.placed;
      made = λ n. ap (edited later n) (c.in_ok-change_groups.ensures.ok n) ∙ sym (edited-append mine later n (shown 0 before n)) ∙ ap (λ all. edited all n (shown 0 before n)) whole ∙ c.loop-rest.invariant.made n;
    }
