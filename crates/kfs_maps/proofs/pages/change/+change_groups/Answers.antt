use Rattle.std.proofs.Common.{rules, ◌≡◌, ◌∙◌, ℕ, ◌⊎◌, inl, inr, Result, ◌+◌, ◌*◌, ◌≤◌, ◌/◌, ◌++◌, ◌∷◌, [], All, length, arith, ap, sym, subst, take, drop, length-take, length-drop, Ok, Err}
use Rattle.std.proofs.lemmas.List.{take-append-drop, get_or-take, get_or-drop, length-append, with_items_is}
use Rattle.std.specs.Prelude.{OnOk, OnErr}
use Rattle.std.specs.Result.{is_ok}
use Rattle.std.specs.Vec.{with_items}
use Rattle.kfs_model.specs.Table.{get}
use Rattle.kfs_maps.specs.declared.pages.change.NumberEdit.{NumberEdit}
use Rattle.kfs_maps.specs.declared.pages.page.Group.{Group}
use Rattle.kfs_maps.specs.Pages.Values.{Sheet}
use Rattle.kfs_maps.specs.Pages.Edits.{page_of, edited, Ascends, EditsAreWithin, IsOfPage}
use Rattle.kfs_maps.specs.Pages.Groups.{held, all_held, pages_of, flat, GroupsAreWhole}
use Rattle.kfs_maps.specs.Pages.Shown.{slot_shows, Edited, AreIndexedFrom, HasIndex}
use Rattle.kfs_maps.proofs.PagesLemmas.Tables.{edited_behind, edited_page, placed_front, placed_again}
use Rattle.kfs_maps.proofs.PagesLemmas.Groups.{held_append, length-held, whole_front, whole_back, whole_both}
use Rattle.kfs_maps.proofs.PagesLemmas.Rest.{placed_groups, groups_again, edited_groups, placed_pages, pages_again, edited_pages}
use Rattle.kfs_maps.proofs.pages.change.+change_groups.Goals as goal

module _ {X E P Q : Type 0} where
  where_ok : (result : Result X E) → (P → Q) → OnOk result P → OnOk result Q
  where_ok (Ok done) f p = f p
  where_ok (Err error) f p = tt

  where_err : (result : Result X E) → (P → Q) → OnErr result P → OnErr result Q
  where_err (Ok done) f p = tt
  where_err (Err error) f p = f p

both_ok : {X E P Q R : Type 0} (result : Result X E) → (P → Q → R) → OnOk result P → OnOk result Q → OnOk result R
both_ok (Ok done) f p q = f p q
both_ok (Err error) f p q = tt

both_err : {X E P Q R : Type 0} (result : Result X E) → (P → Q → R) → OnErr result P → OnErr result Q → OnErr result R
both_err (Ok done) f p q = tt
both_err (Err error) f p q = f p q

-- the groups

pub change_groups-change_group-requires : goal.change_groups-change_group-requires
change_groups-change_group-requires g t c =
    let front = c.split_at_mut-rest.result.0.now in
    let group = c.in-Some-split_first_mut.group.now in
    let rest = c.in-Some-split_first_mut.rest.now in
    let index = c.page_of-index.result / 32 in
    let all : c.args.groups.now ≡ front ++ group ∷ rest = c.split_at_mut-rest.ensures.value ∙ ap (λ back. front ++ back) c.in-Some-split_first_mut.ensures.cases.0 in
    let here : c.args.first + length front ≡ index =
    omega (arith, c.split_at_mut-rest.ensures.front_len, c.page_of-index.ensures, ap (λ (e : NumberEdit _). page_of e.number) (c.in-Some.ensures.item.4 (omega arith) c.in-Some.edit.now), (c.requires.within 0 c.in-Some.edit.now c.in-Some.ensures.item.3.0).1) in
    let apart : GroupsAreWhole (all_held front ++ all_held (group ∷ rest)) = subst GroupsAreWhole (ap all_held all ∙ held_append front (group ∷ rest)) c.requires.whole in
    let whole = whole_back (all_held front) (all_held (group ∷ rest)) apart in
    let within : EditsAreWithin (32 * index) (32 * (index + 1 + length rest)) c.args.edits.now =
    λ k d below.
    let its = c.requires.within k d below in (
      its.0,
      omega (arith, c.page_of-index.ensures, ap (λ (e : NumberEdit _). page_of e.number) (c.in-Some.ensures.item.4 (omega arith) d), c.requires.ascends 0 k d (omega arith) below),
      omega (arith, its.2, here, ap length all, length-append front (group ∷ rest)),
    ) in
    λ κs lives. (
      omega (arith, ap length all, length-append front (group ∷ rest)),
      (
        search rules,
        (
          search rules,
          (
            search rules,
            (
              c.requires.ascends,
              (
                within,
                (
                  omega (arith, c.requires.end, here, ap length all, length-append front (group ∷ rest)),
                  (
                    whole.0,
                    (
                      whole.1,
                      (
                        placed_groups front (group ∷ rest) c.args.first index (whole_front (all_held front) (all_held (group ∷ rest)) apart) here (subst (λ groups. AreIndexedFrom (32 * c.args.first) (flat (all_held groups))) all c.requires.placed),
                        c.requires.then,
                      ),
                    ),
                  ),
                ),
              ),
            ),
          ),
        ),
      ),
    )

pub change_groups-returns-clause-whole : goal.change_groups-returns-clause-whole
change_groups-returns-clause-whole g t c =
    let front = c.split_at_mut-rest.result.0.now in
    let group = c.in-Some-split_first_mut.group.now in
    let rest = c.in-Some-split_first_mut.rest.now in
    let all : c.args.groups.now ≡ front ++ group ∷ rest = c.split_at_mut-rest.ensures.value ∙ ap (λ back. front ++ back) c.in-Some-split_first_mut.ensures.cases.0 in
    let news = c.change_group.new.slot ∷ c.change_group.new.rest in
    subst GroupsAreWhole (sym (held_append front news))
    (whole_both (all_held front) (all_held news) (whole_front (all_held front) (all_held (group ∷ rest)) (subst GroupsAreWhole (ap all_held all ∙ held_append front (group ∷ rest)) c.requires.whole)) (c.change_group.ensures.group, c.change_group.ensures.whole))

pub change_groups-returns-clause-placed : goal.change_groups-returns-clause-placed
change_groups-returns-clause-placed g t c =
    let front = c.split_at_mut-rest.result.0.now in
    let group = c.in-Some-split_first_mut.group.now in
    let rest = c.in-Some-split_first_mut.rest.now in
    let index = c.page_of-index.result / 32 in
    let all : c.args.groups.now ≡ front ++ group ∷ rest = c.split_at_mut-rest.ensures.value ∙ ap (λ back. front ++ back) c.in-Some-split_first_mut.ensures.cases.0 in
    let here : c.args.first + length front ≡ index =
    omega (arith, c.split_at_mut-rest.ensures.front_len, c.page_of-index.ensures, ap (λ (e : NumberEdit _). page_of e.number) (c.in-Some.ensures.item.4 (omega arith) c.in-Some.edit.now), (c.requires.within 0 c.in-Some.edit.now c.in-Some.ensures.item.3.0).1) in
    let whole = whole_front (all_held front) (all_held (group ∷ rest)) (subst GroupsAreWhole (ap all_held all ∙ held_append front (group ∷ rest)) c.requires.whole) in
    groups_again front (group ∷ rest) (c.change_group.new.slot ∷ c.change_group.new.rest) c.args.first index whole here (subst (λ groups. AreIndexedFrom (32 * c.args.first) (flat (all_held groups))) all c.requires.placed) c.change_group.ensures.placed

pub change_groups-returns-clause-ok : goal.change_groups-returns-clause-ok
change_groups-returns-clause-ok g t c =
    let es = c.args.edits.now in
    let front = c.split_at_mut-rest.result.0.now in
    let group = c.in-Some-split_first_mut.group.now in
    let rest = c.in-Some-split_first_mut.rest.now in
    let news = c.change_group.new.slot ∷ c.change_group.new.rest in
    let index = c.page_of-index.result / 32 in
    let all : c.args.groups.now ≡ front ++ group ∷ rest = c.split_at_mut-rest.ensures.value ∙ ap (λ back. front ++ back) c.in-Some-split_first_mut.ensures.cases.0 in
    let here : c.args.first + length front ≡ index =
    omega (arith, c.split_at_mut-rest.ensures.front_len, c.page_of-index.ensures, ap (λ (e : NumberEdit _). page_of e.number) (c.in-Some.ensures.item.4 (omega arith) c.in-Some.edit.now), (c.requires.within 0 c.in-Some.edit.now c.in-Some.ensures.item.3.0).1) in
    let whole = whole_front (all_held front) (all_held (group ∷ rest)) (subst GroupsAreWhole (ap all_held all ∙ held_append front (group ∷ rest)) c.requires.whole) in
    let away : All (λ e. 32 * index ≤ page_of e.number) es =
    λ k d below. omega (arith, c.page_of-index.ensures, ap (λ (e : NumberEdit _). page_of e.number) (c.in-Some.ensures.item.4 (omega arith) d), c.requires.ascends 0 k d (omega arith) below) in
    where_ok c.change_group.result (λ made. subst (λ groups. Edited (32 * c.args.first) es (flat (all_held groups)) (flat (all_held (front ++ news)))) (sym all) (edited_groups front (group ∷ rest) news c.args.first index es whole here away made)) c.change_group.ensures.ok

pub change_groups-returns-clause-err : goal.change_groups-returns-clause-err
change_groups-returns-clause-err g t c =
    let front = c.split_at_mut-rest.result.0.now in
    let group = c.in-Some-split_first_mut.group.now in
    let rest = c.in-Some-split_first_mut.rest.now in
    let news = c.change_group.new.slot ∷ c.change_group.new.rest in
    let index = c.page_of-index.result / 32 in
    let all : c.args.groups.now ≡ front ++ group ∷ rest = c.split_at_mut-rest.ensures.value ∙ ap (λ back. front ++ back) c.in-Some-split_first_mut.ensures.cases.0 in
    let here : c.args.first + length front ≡ index =
    omega (arith, c.split_at_mut-rest.ensures.front_len, c.page_of-index.ensures, ap (λ (e : NumberEdit _). page_of e.number) (c.in-Some.ensures.item.4 (omega arith) c.in-Some.edit.now), (c.requires.within 0 c.in-Some.edit.now c.in-Some.ensures.item.3.0).1) in
    let whole = whole_front (all_held front) (all_held (group ∷ rest)) (subst GroupsAreWhole (ap all_held all ∙ held_append front (group ∷ rest)) c.requires.whole) in
    where_err c.change_group.result
    (λ kept. subst (λ groups. Edited (32 * c.args.first) [] (flat (all_held groups)) (flat (all_held (front ++ news)))) (sym all) (edited_groups front (group ∷ rest) news c.args.first index [] whole here (λ k d below. omega (arith, below)) kept)) c.change_group.ensures.err

-- a group

-- what a group holds, copied or not
same_pages : {V A : Type 0} (new old : Group V A) → (new ≡ old) ⊎ (all_held new.pages.items ≡ all_held old.pages.items) → all_held new.pages.items ≡ all_held old.pages.items
same_pages new old (inl e) = ap (λ (group : Group _ _). all_held group.pages.items) e
same_pages new old (inr e) = e

pub change_group-change_pages-requires : goal.change_group-change_pages-requires
change_group-change_pages-requires g t c =
    let pages = c.as_mut_slice-pages.result.now in
    let before : all_held pages ≡ pages_of (held c.args.slot.now) =
    ap all_held c.as_mut_slice-pages.ensures.value ∙ same_pages _ _ c.in_ok-group.ensures.value ∙ ap (λ slot. pages_of (held slot)) (sym c.in-Some.is) ∙ c.found_group.ensures.same in
    let count : length pages ≡ 32 = sym (length-held pages) ∙ ap length before ∙ c.requires.group in
    λ κs lives. (
      omega (arith, count),
      (
        search rules,
        (
          search rules,
          (
            search rules,
            (
              c.requires.ascends,
              (
                c.requires.within,
                (omega (arith, count), (c.requires.end, (c.requires.whole, (subst (λ first. AreIndexedFrom (32 * c.args.index) (first ++ flat (all_held c.args.rest.now))) (sym before) c.requires.placed, c.requires.then)))),
              ),
            ),
          ),
        ),
      ),
    )

pub change_group-returns-clause-group : goal.change_group-returns-clause-group
change_group-returns-clause-group g t c =
    let pages = c.as_mut_slice-pages.result.now in
    let new = c.change_pages.new.pages in
    let before : all_held pages ≡ pages_of (held c.args.slot.now) =
    ap all_held c.as_mut_slice-pages.ensures.value ∙ same_pages _ _ c.in_ok-group.ensures.value ∙ ap (λ slot. pages_of (held slot)) (sym c.in-Some.is) ∙ c.found_group.ensures.same in
    let group : Group _ _ = record { pages = with_items c.in_ok-group.group.now.pages new } in
    let written : (c.make_mut.follows.lender group).value.pages.items ≡ new =
    ap (λ (x : Group _ _). x.pages.items) (c.make_mut.follows.holds group (ap is_ok c.in_ok-group.was)) ∙ with_items_is c.in_ok-group.group.now.pages new (omega (arith, c.change_pages.auto.pages, c.as_mut_slice-pages.ensures.len)) in
    ap (λ xs. length (all_held xs)) written ∙ omega (arith, length-held new, length-held pages, ap length before, c.requires.group, c.change_pages.auto.pages)

pub change_group-returns-clause-placed : goal.change_group-returns-clause-placed
change_group-returns-clause-placed g t c =
    let new = c.change_pages.new.pages in
    let group : Group _ _ = record { pages = with_items c.in_ok-group.group.now.pages new } in
    let written : (c.make_mut.follows.lender group).value.pages.items ≡ new =
    ap (λ (x : Group _ _). x.pages.items) (c.make_mut.follows.holds group (ap is_ok c.in_ok-group.was)) ∙ with_items_is c.in_ok-group.group.now.pages new (omega (arith, c.change_pages.auto.pages, c.as_mut_slice-pages.ensures.len)) in
    subst (λ pages. AreIndexedFrom (32 * c.args.index) (all_held pages ++ flat (all_held c.change_pages.new.groups))) (sym written) c.change_pages.ensures.placed

pub change_group-returns-clause-ok : goal.change_group-returns-clause-ok
change_group-returns-clause-ok g t c =
    let es = c.args.edits.now in
    let first = 32 * c.args.index in
    let new = c.change_pages.new.pages in
    let before : all_held c.as_mut_slice-pages.result.now ≡ pages_of (held c.args.slot.now) =
    ap all_held c.as_mut_slice-pages.ensures.value ∙ same_pages _ _ c.in_ok-group.ensures.value ∙ ap (λ slot. pages_of (held slot)) (sym c.in-Some.is) ∙ c.found_group.ensures.same in
    let group : Group _ _ = record { pages = with_items c.in_ok-group.group.now.pages new } in
    let written : (c.make_mut.follows.lender group).value.pages.items ≡ new =
    ap (λ (x : Group _ _). x.pages.items) (c.make_mut.follows.holds group (ap is_ok c.in_ok-group.was)) ∙ with_items_is c.in_ok-group.group.now.pages new (omega (arith, c.change_pages.auto.pages, c.as_mut_slice-pages.ensures.len)) in
    where_ok c.change_pages.result
    (λ made.
    subst (λ olds. Edited first es (olds ++ flat (all_held c.args.rest.now)) (all_held (c.make_mut.follows.lender group).value.pages.items ++ flat (all_held c.change_pages.new.groups))) before
    (subst (λ news. Edited first es (all_held c.as_mut_slice-pages.result.now ++ flat (all_held c.args.rest.now)) (all_held news ++ flat (all_held c.change_pages.new.groups))) (sym written) made)) c.change_pages.ensures.ok

pub change_group-returns-clause-err : goal.change_group-returns-clause-err
change_group-returns-clause-err g t c =
    let first = 32 * c.args.index in
    let new = c.change_pages.new.pages in
    let before : all_held c.as_mut_slice-pages.result.now ≡ pages_of (held c.args.slot.now) =
    ap all_held c.as_mut_slice-pages.ensures.value ∙ same_pages _ _ c.in_ok-group.ensures.value ∙ ap (λ slot. pages_of (held slot)) (sym c.in-Some.is) ∙ c.found_group.ensures.same in
    let group : Group _ _ = record { pages = with_items c.in_ok-group.group.now.pages new } in
    let written : (c.make_mut.follows.lender group).value.pages.items ≡ new =
    ap (λ (x : Group _ _). x.pages.items) (c.make_mut.follows.holds group (ap is_ok c.in_ok-group.was)) ∙ with_items_is c.in_ok-group.group.now.pages new (omega (arith, c.change_pages.auto.pages, c.as_mut_slice-pages.ensures.len)) in
    where_err c.change_pages.result
    (λ kept.
    subst (λ olds. Edited first [] (olds ++ flat (all_held c.args.rest.now)) (all_held (c.make_mut.follows.lender group).value.pages.items ++ flat (all_held c.change_pages.new.groups))) before
    (subst (λ news. Edited first [] (all_held c.as_mut_slice-pages.result.now ++ flat (all_held c.args.rest.now)) (all_held news ++ flat (all_held c.change_pages.new.groups))) (sym written) kept)) c.change_pages.ensures.err

-- the pages of a group

pub change_pages-change_groups-requires : goal.change_pages-change_groups-requires
change_pages-change_groups-requires g t c =
    let pages = c.args.pages.now in
    let behind = flat (all_held c.args.groups.now) in
    let edge : c.args.first + length (all_held pages) ≡ 32 * c.args.next = omega (arith, c.requires.edge, length-held pages) in
    let within : EditsAreWithin (32 * c.args.next) (32 * (c.args.next + length c.args.groups.now)) c.args.edits.now =
    λ k d below.
    let its = c.requires.within k d below in
    (its.0, omega (arith, c.if-index-next.true, c.page_of-index.ensures, ap (λ (e : NumberEdit _). page_of e.number) (c.in-Some.ensures.item.4 (omega arith) d), c.requires.ascends 0 k d (omega arith) below), its.2) in
    λ κs lives. (
      omega arith,
      (
        search rules,
        (search rules, (search rules, (c.requires.ascends, (within, (c.requires.end, (c.requires.whole, (subst (λ k. AreIndexedFrom k behind) edge (placed_front (all_held pages) behind c.args.first c.requires.placed), c.requires.then))))))),
      ),
    )

pub change_pages-returns-then-index-next-clause-placed : goal.change_pages-returns-then-index-next-clause-placed
change_pages-returns-then-index-next-clause-placed g t c =
    let pages = c.args.pages.now in
    let after = flat (all_held c.change_groups.new.groups) in
    let edge : 32 * c.args.next ≡ c.args.first + length (all_held pages) = omega (arith, c.requires.edge, length-held pages) in
    placed_again (all_held pages) (flat (all_held c.args.groups.now)) after c.args.first c.requires.placed (subst (λ k. AreIndexedFrom k after) edge c.change_groups.ensures.placed)

pub change_pages-returns-then-index-next-clause-ok : goal.change_pages-returns-then-index-next-clause-ok
change_pages-returns-then-index-next-clause-ok g t c =
    let es = c.args.edits.now in
    let pages = c.args.pages.now in
    let behind = flat (all_held c.args.groups.now) in
    let after = flat (all_held c.change_groups.new.groups) in
    let edge : 32 * c.args.next ≡ c.args.first + length (all_held pages) = omega (arith, c.requires.edge, length-held pages) in
    let away : All (λ e. c.args.first + length (all_held pages) ≤ page_of e.number) es =
    λ k d below. omega (arith, edge, c.if-index-next.true, c.page_of-index.ensures, ap (λ (e : NumberEdit _). page_of e.number) (c.in-Some.ensures.item.4 (omega arith) d), c.requires.ascends 0 k d (omega arith) below) in
    where_ok c.change_groups.result (λ made. edited_behind (all_held pages) behind after c.args.first es away (subst (λ k. Edited k es behind after) edge made)) c.change_groups.ensures.ok

pub change_pages-returns-then-index-next-clause-err : goal.change_pages-returns-then-index-next-clause-err
change_pages-returns-then-index-next-clause-err g t c =
    let pages = c.args.pages.now in
    let behind = flat (all_held c.args.groups.now) in
    let after = flat (all_held c.change_groups.new.groups) in
    let edge : 32 * c.args.next ≡ c.args.first + length (all_held pages) = omega (arith, c.requires.edge, length-held pages) in
    where_err c.change_groups.result (λ kept. edited_behind (all_held pages) behind after c.args.first [] (λ k d below. omega (arith, below)) (subst (λ k. Edited k [] behind after) edge kept)) c.change_groups.ensures.err

pub change_pages-run_of-requires-clause-from : goal.change_pages-run_of-requires-clause-from
change_pages-run_of-requires-clause-from g t c k d below =
    omega (arith, c.page_of-index.ensures, ap (λ (e : NumberEdit _). page_of e.number) (c.in-Some.ensures.item.4 (omega arith) d), c.requires.ascends 0 k d (omega arith) below)

pub change_pages-change_from-requires : goal.change_pages-change_from-requires
change_pages-change_from-requires g t c =
    let es = c.args.edits.now in
    let r = c.run_of.result in
    let front = c.split_at_mut-rest.result.0.now in
    let page = c.in-Some-split_first_mut.page.now in
    let rest = c.in-Some-split_first_mut.rest.now in
    let behind = flat (all_held c.args.groups.now) in
    let end = 32 * (c.args.next + length c.args.groups.now) in
    let index = c.page_of-index.result in
    let all : c.args.pages.now ≡ front ++ page ∷ rest = c.split_at_mut-rest.ensures.value ∙ ap (λ back. front ++ back) c.in-Some-split_first_mut.ensures.cases.0 in
    let here : c.args.first + length front ≡ index =
    omega (arith, c.split_at_mut-rest.ensures.front_len, c.page_of-index.ensures, ap (λ (e : NumberEdit _). page_of e.number) (c.in-Some.ensures.item.4 (omega arith) c.in-Some.edit.now), (c.requires.within 0 c.in-Some.edit.now c.in-Some.ensures.item.3.0).1) in
    let placed = placed_pages front (page ∷ rest) behind c.args.first index here (subst (λ pages. AreIndexedFrom c.args.first (all_held pages ++ behind)) all c.requires.placed) in
    let mine : All (IsOfPage index) c.split_at.result.0.now =
    subst (All (IsOfPage index)) (sym c.split_at.ensures.front) (λ k d below. (omega (arith, ap (λ (e : NumberEdit _). e.number) (get_or-take r es k d (omega (arith, below, length-take r es))), (c.requires.within k d (omega (arith, below, length-take r es, c.run_of.ensures.within))).0), c.run_of.ensures.run k d below)) in
    let later : EditsAreWithin (index + 1) end c.split_at.result.1.now =
    subst (EditsAreWithin (index + 1) end) (sym c.split_at.ensures.back) (λ k d below.
    let its = c.requires.within (r + k) d (omega (arith, below, length-drop r es)) in
    let same = get_or-drop r es k d in
    (omega (arith, ap (λ (e : NumberEdit _). e.number) same, its.0), c.run_of.ensures.rest k d below, omega (arith, ap (λ (e : NumberEdit _). page_of e.number) same, its.2))) in
    λ κs lives. (
      omega (arith, ap length all, length-append front (page ∷ rest)),
      (
        search rules,
        (
          search rules,
          (
            search rules,
            (
              mine,
              (
                subst Ascends (sym c.split_at.ensures.back) c.run_of.ensures.ascends,
                (
                  later,
                  (omega (arith, c.requires.edge, here, ap length all, length-append front (page ∷ rest)), (c.requires.end, (placed.0, (c.requires.whole, (placed.1, c.requires.then))))),
                ),
              ),
            ),
          ),
        ),
      ),
    )

pub change_pages-returns-clause-placed : goal.change_pages-returns-clause-placed
change_pages-returns-clause-placed g t c =
    let front = c.split_at_mut-rest.result.0.now in
    let page = c.in-Some-split_first_mut.page.now in
    let rest = c.in-Some-split_first_mut.rest.now in
    let behind = flat (all_held c.args.groups.now) in
    let index = c.page_of-index.result in
    let all : c.args.pages.now ≡ front ++ page ∷ rest = c.split_at_mut-rest.ensures.value ∙ ap (λ back. front ++ back) c.in-Some-split_first_mut.ensures.cases.0 in
    let here : c.args.first + length front ≡ index =
    omega (arith, c.split_at_mut-rest.ensures.front_len, c.page_of-index.ensures, ap (λ (e : NumberEdit _). page_of e.number) (c.in-Some.ensures.item.4 (omega arith) c.in-Some.edit.now), (c.requires.within 0 c.in-Some.edit.now c.in-Some.ensures.item.3.0).1) in
    pages_again front (page ∷ rest) (c.change_from.new.slot ∷ c.change_from.new.rest) behind (flat (all_held c.change_from.new.groups)) c.args.first index here (subst (λ pages. AreIndexedFrom c.args.first (all_held pages ++ behind)) all c.requires.placed)
    (c.change_from.ensures.stands, c.change_from.ensures.placed)

pub change_pages-returns-clause-ok : goal.change_pages-returns-clause-ok
change_pages-returns-clause-ok g t c =
    let es = c.args.edits.now in
    let r = c.run_of.result in
    let front = c.split_at_mut-rest.result.0.now in
    let page = c.in-Some-split_first_mut.page.now in
    let rest = c.in-Some-split_first_mut.rest.now in
    let slot = c.change_from.new.slot in
    let new = c.change_from.new.rest in
    let behind = flat (all_held c.args.groups.now) in
    let after = flat (all_held c.change_from.new.groups) in
    let index = c.page_of-index.result in
    let all : c.args.pages.now ≡ front ++ page ∷ rest = c.split_at_mut-rest.ensures.value ∙ ap (λ back. front ++ back) c.in-Some-split_first_mut.ensures.cases.0 in
    let here : c.args.first + length front ≡ index =
    omega (arith, c.split_at_mut-rest.ensures.front_len, c.page_of-index.ensures, ap (λ (e : NumberEdit _). page_of e.number) (c.in-Some.ensures.item.4 (omega arith) c.in-Some.edit.now), (c.requires.within 0 c.in-Some.edit.now c.in-Some.ensures.item.3.0).1) in
    let away : All (λ e. index ≤ page_of e.number) es = λ k d below. omega (arith, c.page_of-index.ensures, ap (λ (e : NumberEdit _). page_of e.number) (c.in-Some.ensures.item.4 (omega arith) d), c.requires.ascends 0 k d (omega arith) below) in
    both_ok c.change_from.result
    (λ on_page on_rest.
    let there : Edited index (take r es ++ drop r es) (all_held (page ∷ rest) ++ behind) (all_held (slot ∷ new) ++ after) =
    edited_page (held page) (held slot) (all_held rest ++ behind) (all_held new ++ after) index (take r es) (drop r es) c.run_of.ensures.run c.run_of.ensures.rest (subst (λ mine. (n : ℕ) → slot_shows (held slot) n ≡ edited mine n (slot_shows (held page) n)) c.split_at.ensures.front on_page)
    (subst (λ later. Edited (index + 1) later (all_held rest ++ behind) (all_held new ++ after)) c.split_at.ensures.back on_rest) in
    subst (λ pages. Edited c.args.first es (all_held pages ++ behind) (all_held (front ++ slot ∷ new) ++ after)) (sym all)
    (edited_pages front (page ∷ rest) (slot ∷ new) behind after c.args.first index es here away (subst (λ edits. Edited index edits (all_held (page ∷ rest) ++ behind) (all_held (slot ∷ new) ++ after)) (take-append-drop r es) there))) c.change_from.ensures.page
    c.change_from.ensures.rest

pub change_pages-returns-clause-err : goal.change_pages-returns-clause-err
change_pages-returns-clause-err g t c =
    let front = c.split_at_mut-rest.result.0.now in
    let page = c.in-Some-split_first_mut.page.now in
    let rest = c.in-Some-split_first_mut.rest.now in
    let slot = c.change_from.new.slot in
    let new = c.change_from.new.rest in
    let behind = flat (all_held c.args.groups.now) in
    let after = flat (all_held c.change_from.new.groups) in
    let index = c.page_of-index.result in
    let all : c.args.pages.now ≡ front ++ page ∷ rest = c.split_at_mut-rest.ensures.value ∙ ap (λ back. front ++ back) c.in-Some-split_first_mut.ensures.cases.0 in
    let here : c.args.first + length front ≡ index =
    omega (arith, c.split_at_mut-rest.ensures.front_len, c.page_of-index.ensures, ap (λ (e : NumberEdit _). page_of e.number) (c.in-Some.ensures.item.4 (omega arith) c.in-Some.edit.now), (c.requires.within 0 c.in-Some.edit.now c.in-Some.ensures.item.3.0).1) in
    both_err c.change_from.result
    (λ on_page on_rest.
    let there : Edited index [] (all_held (page ∷ rest) ++ behind) (all_held (slot ∷ new) ++ after) =
    edited_page (held page) (held slot) (all_held rest ++ behind) (all_held new ++ after) index [] [] (λ k d below. omega (arith, below)) (λ k d below. omega (arith, below)) on_page on_rest in
    subst (λ pages. Edited c.args.first [] (all_held pages ++ behind) (all_held (front ++ slot ∷ new) ++ after)) (sym all) (edited_pages front (page ∷ rest) (slot ∷ new) behind after c.args.first index [] here (λ k d below. omega (arith, below)) there))
    c.change_from.ensures.page_err c.change_from.ensures.rest_err

-- a page

-- a copy of a page is the page
same_page : {P : Type 0} → P ⊎ P → P
same_page (inl e) = e
same_page (inr e) = e

on_err : {X E P : Type 0} (result : Result X E) → P → OnErr result P
on_err (Ok done) p = tt
on_err (Err error) p = p

on_ok : {X E P : Type 0} (result : Result X E) → P → OnOk result P
on_ok (Ok done) p = p
on_ok (Err error) p = tt

pub change_from-returns-in_err-page-clause-page_err : goal.change_from-returns-in_err-page-clause-page_err
change_from-returns-in_err-page-clause-page_err g t c =
    let copied : c.make_mut.follows.lender-at-none.value ≡ c.in-Some.page.value =
    same_page (subst (λ r. OnErr r ((c.make_mut.follows.lender-at-none.value ≡ c.in-Some.page.value) ⊎ (c.make_mut.follows.lender-at-none.value ≡ c.in-Some.page.value))) c.in_err-page.was c.make_mut.follows.holds-at-none) in
    let same : (n : ℕ) → get c.make_mut.follows.lender-at-none.value.values n ≡ slot_shows (held c.args.slot.now) n =
    λ n. ap (λ (s : Sheet _). get s.values n) copied ∙ ap (λ slot. slot_shows (held slot) n) (sym c.in-Some.is) ∙ c.found.ensures.shown n in
    on_err c.from_residual-in_err-page.result same

pub change_from-returns-then-is_ok-clause-stands : goal.change_from-returns-then-is_ok-clause-stands
change_from-returns-then-is_ok-clause-stands g t c =
    let written = c.make_mut.follows.holds c.write.new.self (ap is_ok c.in_ok-page.was) ∙ c.write.ensures.sheet in
    ap (λ (s : Sheet _). s.index) written ∙ ap (λ (s : Sheet _). s.index) (same_page c.in_ok-page.ensures.value) ∙ subst (λ slot. HasIndex c.args.index (held slot)) c.in-Some.is c.found.ensures.stands

pub change_from-returns-then-is_ok-clause-page : goal.change_from-returns-then-is_ok-clause-page
change_from-returns-then-is_ok-clause-page g t c =
    let written = c.make_mut.follows.holds c.write.new.self (ap is_ok c.in_ok-page.was) in
    let mine = c.args.mine.now in
    let made : (n : ℕ) → get (c.make_mut.follows.lender c.write.new.self).value.values n ≡ edited mine n (slot_shows (held c.args.slot.now) n) =
    λ n. ap (λ (s : Sheet _). get s.values n) written
    ∙ c.write.ensures.shown n
    ∙ ap (λ (s : Sheet _). edited mine n (get s.values n)) (same_page c.in_ok-page.ensures.value)
    ∙ ap (λ slot. edited mine n (slot_shows (held slot) n)) (sym c.in-Some.is)
    ∙ ap (edited mine n) (c.found.ensures.shown n) in
    on_ok c.change_pages-done.result made
