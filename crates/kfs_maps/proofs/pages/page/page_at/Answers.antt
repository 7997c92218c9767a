use Rattle.std.proofs.Common.{◌≡◌, ◌∙◌, ◌/◌, ◌%◌, ℕ, ap, sym, arith, get_or, List, Option, Some, None}
use Rattle.std.specs.declared.sync.Arc.{Arc}
use Rattle.std.specs.Option.{option_copied}
use Rattle.kfs_maps.specs.declared.pages.page.Group.{Group}
use Rattle.kfs_maps.specs.Pages.Groups.{held, all_held, page_in, pages_of, flat, GroupsAreWhole}
use Rattle.kfs_maps.proofs.PagesLemmas.Groups.{page_in-group, none_in, get_or-held}
use Rattle.kfs_maps.proofs.pages.page.page_at.Goals as goal

module _ {V A : Type 0} (groups : List (Option (Arc (Group V A) A))) (index : ℕ) (whole : GroupsAreWhole (all_held groups)) where
  no_group : None ≡ get_or groups (index / 32) None → None ≡ page_in (flat (all_held groups)) index
  no_group here = sym (page_in-group groups index whole ∙ ap (λ group. page_in (pages_of (held group)) (index % 32)) (sym here) ∙ none_in V (index % 32))

  of_group : (group : Arc (Group V A) A) → Some group ≡ get_or groups (index / 32) None → held (get_or group.value.pages.items (index % 32) None) ≡ page_in (flat (all_held groups)) index
  of_group group here = sym (page_in-group groups index whole ∙ ap (λ (g : Option (Arc (Group V A) A)). page_in (pages_of (held g)) (index % 32)) (sym here) ∙ get_or-held group.value.pages.items (index % 32))

pub returns-in_err-get : goal.returns-in_err-get
returns-in_err-get g c = ap option_copied c.from_residual.ensures ∙ no_group c.args.groups.now c.args.index c.requires (c.in_err-get.ensures.lookup.4 (omega arith) None)

pub returns-in_err-group : goal.returns-in_err-group
returns-in_err-group g c =
    ap option_copied c.from_residual-in_err-group.ensures ∙ no_group c.args.groups.now c.args.index c.requires (c.in_err-group.ensures.value ∙ c.in_ok-get.ensures.lookup.4 (omega arith) None)

pub returns-in_err-get-2 : goal.returns-in_err-get-2
returns-in_err-get-2 g c =
    let place = c.args.index % 32 in
    let items = c.deref-2.ensures.value ∙ ap (λ (group : Group _ _). group.pages.items) c.deref.ensures in
    ap option_copied c.from_residual-in_err-get-2.ensures
    ∙ ap held (c.in_err-get-2.ensures.lookup.4 (omega arith) None ∙ ap (λ pages. get_or pages place None) items)
    ∙ of_group c.args.groups.now c.args.index c.requires c.in_ok-group.group.now (c.in_ok-group.ensures.value ∙ c.in_ok-get.ensures.lookup.4 (omega arith) None)

pub returns-in_err-page : goal.returns-in_err-page
returns-in_err-page g c =
    let place = c.args.index % 32 in
    let items = c.deref-2.ensures.value ∙ ap (λ (group : Group _ _). group.pages.items) c.deref.ensures in
    ap option_copied c.from_residual-in_err-page.ensures
    ∙ ap held (c.in_err-page.ensures.value ∙ c.in_ok-get-2.ensures.lookup.4 (omega arith) None ∙ ap (λ pages. get_or pages place None) items)
    ∙ of_group c.args.groups.now c.args.index c.requires c.in_ok-group.group.now (c.in_ok-group.ensures.value ∙ c.in_ok-get.ensures.lookup.4 (omega arith) None)

pub returns : goal.returns
returns g c =
    let place = c.args.index % 32 in
    let items = c.deref-2.ensures.value ∙ ap (λ (group : Group _ _). group.pages.items) c.deref.ensures in
    ap Some c.deref-3.ensures
    ∙ ap held (c.in_ok-page.ensures.value ∙ c.in_ok-get-2.ensures.lookup.4 (omega arith) None ∙ ap (λ pages. get_or pages place None) items)
    ∙ of_group c.args.groups.now c.args.index c.requires c.in_ok-group.group.now (c.in_ok-group.ensures.value ∙ c.in_ok-get.ensures.lookup.4 (omega arith) None)
