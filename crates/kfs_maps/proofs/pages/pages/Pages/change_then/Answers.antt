use Rattle.std.proofs.Common.{◌≡◌, ◌∙◌, List, [], Option, ap, sym, arith, length, subst, slice_index_or, Ok, Err}
use Rattle.std.proofs.lemmas.List.{with_items_is}
use Rattle.std.specs.Prelude.{OnOk, OnErr}
use Rattle.std.specs.Vec.{with_items}
use Rattle.std.specs.declared.sync.Arc.{Arc}
use Rattle.kfs_maps.specs.declared.pages.change.NumberEdit.{NumberEdit}
use Rattle.kfs_maps.specs.declared.pages.page.Group.{Group}
use Rattle.kfs_model.specs.Table.{Table, numbers}
use Rattle.kfs_maps.specs.Pages.Edits.{page_of, rewritten, AreEdits, Ascends, EditsAreWithin}
use Rattle.kfs_maps.specs.Pages.Groups.{all_held, flat, GroupsAreWhole}
use Rattle.kfs_maps.specs.Pages.Shown.{Edited, table_from, AreIndexedFrom}
use Rattle.kfs_maps.proofs.PagesLemmas.Numbers.{by_less}
use Rattle.kfs_maps.proofs.PagesLemmas.Groups.{copied_held}
use Rattle.kfs_maps.proofs.PagesLemmas.Tables.{table_edited, table_kept}
use Rattle.kfs_maps.proofs.pages.pages.Pages.change_then.Goals as goal

abbrev pages_table : {V A : Type 0} → List (Option (Arc (Group V A) A)) → Table numbers V
pages_table groups = table_from 0 (flat (all_held groups))

module _ {V : Type 0} where
  ascending : (es : List (NumberEdit V)) → AreEdits es → Ascends es
  unfolding page_of
  ascending es are i j d le below =
      by_less i j (λ less. omega (arith, are.ascend i j d less below))
      (λ from. omega (arith, ap (λ k. (slice_index_or es k d).number) {x = i} {y = j} (omega (arith, le, from))))

  within : (es : List (NumberEdit V)) → AreEdits es → EditsAreWithin 0 1024 es
  unfolding page_of
  within es are k d below = (omega (arith, (are.range k d below).0), omega arith, omega (arith, (are.range k d below).1))

pub change_groups-requires-clause-ascends : goal.change_groups-requires-clause-ascends
change_groups-requires-clause-ascends g c = ascending c.args.edits.now c.requires.edits

pub change_each-requires-clause-ascends : goal.change_each-requires-clause-ascends
change_each-requires-clause-ascends g c = ascending c.args.edits.now c.requires.edits

pub change_each-requires-clause-within : goal.change_each-requires-clause-within
change_each-requires-clause-within g c = within c.args.edits.now c.requires.edits

-- few edits

pub change_groups-requires-clause-within : goal.change_groups-requires-clause-within
change_groups-requires-clause-within g c k d below =
    let its = within c.args.edits.now c.requires.edits k d below in
    (its.0, its.1, omega (arith, its.2, ap length c.as_mut_slice.ensures.value, c.self.invariant.0))

pub returns-then-edits-le-MOST_TOGETHER-clause-ok : goal.returns-then-edits-le-MOST_TOGETHER-clause-ok
returns-then-edits-le-MOST_TOGETHER-clause-ok g c =
    let old = c.as_mut_slice.result.now in
    let new = c.change_groups.new.groups in
    let written : (with_items c.self.inside.groups new).items ≡ new = with_items_is c.self.inside.groups new (omega (arith, c.change_groups.auto.groups, c.as_mut_slice.ensures.len)) in
    let es = c.args.edits.now in
    elim c.change_groups.result as (λ r. OnOk r (Edited 0 es (flat (all_held old)) (flat (all_held new))) → OnOk r (pages_table (with_items c.self.inside.groups new).items ≡ rewritten c.args.self.now es)) [
      | Ok done ↦ λ made. ap pages_table written ∙ table_edited (flat (all_held old)) (flat (all_held new)) es made ∙ ap (λ t. rewritten t es) (ap pages_table c.as_mut_slice.ensures.value ∙ c.self.view_is)
      | Err error ↦ λ made. made
    ] c.change_groups.ensures.ok

pub returns-then-edits-le-MOST_TOGETHER-clause-err : goal.returns-then-edits-le-MOST_TOGETHER-clause-err
returns-then-edits-le-MOST_TOGETHER-clause-err g c =
    let old = c.as_mut_slice.result.now in
    let new = c.change_groups.new.groups in
    let written : (with_items c.self.inside.groups new).items ≡ new = with_items_is c.self.inside.groups new (omega (arith, c.change_groups.auto.groups, c.as_mut_slice.ensures.len)) in
    elim c.change_groups.result as (λ r. OnErr r (Edited 0 [] (flat (all_held old)) (flat (all_held new))) → OnErr r (pages_table (with_items c.self.inside.groups new).items ≡ c.args.self.now)) [
      | Ok done ↦ λ same. same
      | Err error ↦ λ same. ap pages_table written ∙ table_kept (flat (all_held old)) (flat (all_held new)) same ∙ ap pages_table c.as_mut_slice.ensures.value ∙ c.self.view_is
    ] c.change_groups.ensures.err

-- many edits

pub change_each-requires-clause-whole : goal.change_each-requires-clause-whole
change_each-requires-clause-whole g c =
    let same = copied_held _ (λ a b same. same) (λ a none. none) (λ b none. none) c.self.inside.groups.items c.in_ok-groups.groups.items c.in_ok-groups.ensures.cases.0 in
    subst GroupsAreWhole (sym (ap all_held c.as_mut_slice-2.ensures.value ∙ same)) c.self.invariant.1

pub change_each-requires-clause-placed : goal.change_each-requires-clause-placed
change_each-requires-clause-placed g c =
    let same = copied_held _ (λ a b same. same) (λ a none. none) (λ b none. none) c.self.inside.groups.items c.in_ok-groups.groups.items c.in_ok-groups.ensures.cases.0 in
    subst (λ groups. AreIndexedFrom 0 (flat groups)) (sym (ap all_held c.as_mut_slice-2.ensures.value ∙ same)) c.self.invariant.2

pub returns-clause-ok : goal.returns-clause-ok
returns-clause-ok g c =
    let same = copied_held _ (λ a b same. same) (λ a none. none) (λ b none. none) c.self.inside.groups.items c.in_ok-groups.groups.items c.in_ok-groups.ensures.cases.0 in
    let old = c.as_mut_slice-2.result.now in
    let new = c.change_each.new.groups in
    let es = c.args.edits.now in
    let written : (with_items c.in_ok-groups.groups new).items ≡ new = with_items_is c.in_ok-groups.groups new (omega (arith, c.change_each.auto.groups, c.as_mut_slice-2.ensures.len)) in
    ap pages_table written
    ∙ table_edited (flat (all_held old)) (flat (all_held new)) es c.in_ok-change_each.ensures.edited
    ∙ ap (λ t. rewritten t es) (ap (λ groups. table_from 0 (flat groups)) (ap all_held c.as_mut_slice-2.ensures.value ∙ same) ∙ c.self.view_is)
