use Rattle.std.proofs.Common.{rules, ◌≡◌, ◌∙◌, ◌++◌, ◌∷◌, ◌+◌, ◌≤◌, ◌<◌, T, All, None, length, arith, ap, sym, subst, take, drop}
use Rattle.std.proofs.lemmas.List.{take-append-drop, length-append, with_items_is}
use Rattle.std.specs.Vec.{with_items}
use Rattle.std.specs.declared.ops.Bound.TheVariants.{Included}
use Rattle.std.specs.FinMap.Entries.{is_sorted}
use Rattle.kfs_maps.specs.declared.chunks.entries.KeyEdit.{KeyEdit}
use Rattle.kfs_maps.specs.Chunks.Edits.{entered_all, KeysAscend}
use Rattle.kfs_maps.specs.Chunks.Buffer.{Buffer}
use Rattle.kfs_maps.specs.Chunks.Joined.{joined, first_chunk_from, were_made, if_made, IsSized, IsNotEmpty, AreSized, AreFilled}
use Rattle.kfs_maps.specs.Chunks.Starts.{entry_from}
use Rattle.kfs_maps.proofs.ChunksLemmas.Order.{ascend_take, ascend_drop}
use Rattle.kfs_maps.proofs.ChunksLemmas.Parts.{sorted_behind, sorted_left, sorted_right, each-append, each_left, each_right, sized_filled, joined_filled, front_past}
use Rattle.kfs_maps.proofs.ChunksLemmas.Rewritten.{is_sorted-if, sized_still}
use Rattle.kfs_maps.proofs.ChunksLemmas.Sorted.{order_by}
use Rattle.kfs_maps.proofs.ChunksLemmas.Together.{edited_chunks, same_pairs}
use Rattle.kfs_maps.proofs.chunks.change.+change_chunks.Goals as goal

pub change_parts-edits_of-requires-clause-sorted : goal.change_parts-edits_of-requires-clause-sorted
change_parts-edits_of-requires-clause-sorted g t c =
    let cmp = g.K.Ord.cmp in
    let front = c.split_at_mut-rest.result.0.now in
    let part = c.in-Some-split_first_mut.part.now in
    let rest = c.in-Some-split_first_mut.rest.now in
    let whole : c.args.parts.now ≡ front ++ part ∷ rest = c.split_at_mut-rest.ensures.value ∙ ap (λ back. front ++ back) c.in-Some-split_first_mut.ensures.cases.0 in
    sorted_behind cmp front part rest (subst (λ cs. T (is_sorted cmp (joined cs))) whole c.requires.sorted)

pub change_parts-change_from_part-requires : goal.change_parts-change_from_part-requires
change_parts-change_from_part-requires g t c =
    let cmp = g.K.Ord.cmp in
    let front = c.split_at_mut-rest.result.0.now in
    let part = c.in-Some-split_first_mut.part.now in
    let rest = c.in-Some-split_first_mut.rest.now in
    let whole : c.args.parts.now ≡ front ++ part ∷ rest = c.split_at_mut-rest.ensures.value ∙ ap (λ back. front ++ back) c.in-Some-split_first_mut.ensures.cases.0 in
    let sorted = sorted_behind cmp front part rest (subst (λ cs. T (is_sorted cmp (joined cs))) whole c.requires.sorted) in
    let filled = each_right IsNotEmpty front (part ∷ rest) (subst AreFilled whole c.requires.filled) in
    λ κs lives. (
      omega (arith, ap length whole, length-append front (part ∷ rest)),
      (
        search rules,
        (
          search rules,
          (
            search rules,
            (
              search rules,
              (
                subst (KeysAscend cmp) (sym c.split_at.ensures.front) (ascend_take cmp c.args.edits.now c.edits_of.result c.requires.ascend),
                (
                  subst (KeysAscend cmp) (sym c.split_at.ensures.back) (ascend_drop cmp c.args.edits.now c.edits_of.result c.requires.ascend),
                  (sorted_right cmp part.value.pairs (joined rest) sorted, (filled.0, (filled.1, c.requires.then))),
                ),
              ),
            ),
          ),
        ),
      ),
    )

pub change_parts-returns-clause-filled : goal.change_parts-returns-clause-filled
change_parts-returns-clause-filled g t c =
    let front = c.split_at_mut-rest.result.0.now in
    let part = c.in-Some-split_first_mut.part.now in
    let rest = c.in-Some-split_first_mut.rest.now in
    let whole : c.args.parts.now ≡ front ++ part ∷ rest = c.split_at_mut-rest.ensures.value ∙ ap (λ back. front ++ back) c.in-Some-split_first_mut.ensures.cases.0 in
    each-append IsNotEmpty front (c.change_from_part.new.part ∷ c.change_from_part.new.rest) (each_left IsNotEmpty front (part ∷ rest) (subst AreFilled whole c.requires.filled)) (c.change_from_part.ensures.part_filled, c.change_from_part.ensures.filled)

pub change_parts-returns-clause-joined : goal.change_parts-returns-clause-joined
change_parts-returns-clause-joined g t c =
    let cmp = g.K.Ord.cmp in
    let order = order_by g.K.Key.order cmp g.met.K.Key.compared in
    let es = c.args.edits.now in
    let r = c.edits_of.result in
    let key = c.in-Some.edit.now.key in
    let front = c.split_at_mut-rest.result.0.now in
    let part = c.in-Some-split_first_mut.part.now in
    let rest = c.in-Some-split_first_mut.rest.now in
    let result = c.change_from_part.result in
    let whole : c.args.parts.now ≡ front ++ part ∷ rest = c.split_at_mut-rest.ensures.value ∙ ap (λ back. front ++ back) c.in-Some-split_first_mut.ensures.cases.0 in
    let at : c.place_near.result ≡ first_chunk_from cmp (Included key) c.args.parts.now = search rules in
    let in_front : All (λ e. entry_from cmp (Included e.key) (joined front) ≡ None) es =
    front_past order front (part ∷ rest) es key c.requires.ascend (λ d. ap (λ (e : KeyEdit _ _). e.key) (c.in-Some.ensures.item.4 (omega arith) d)) (omega (arith, c.split_at_mut-rest.ensures.front_len, c.min-index.ensures, at, ap (first_chunk_from cmp (Included key)) whole)) in
    let all : take r es ++ drop r es ≡ es = take-append-drop r es in
    edited_chunks order (were_made result) front part c.change_from_part.new.part rest c.change_from_part.new.rest (take r es) (drop r es)
    (subst (KeysAscend cmp) (sym all) c.requires.ascend)
    (subst (All (λ e. entry_from cmp (Included e.key) (joined front) ≡ None)) (sym all) in_front)
    c.edits_of.ensures.run
    c.edits_of.ensures.rest
    (c.change_from_part.ensures.part ∙ ap (λ mine. if_made result (entered_all cmp part.value.pairs mine) part.value.pairs) c.split_at.ensures.front)
    (c.change_from_part.ensures.rest ∙ ap (λ later. if_made result (entered_all cmp (joined rest) later) (joined rest)) c.split_at.ensures.back)
    ∙ (λ i. if_made result (entered_all cmp (joined (sym whole i)) (all i)) (joined (sym whole i)))

pub change_chunks-place_near-requires-clause-filled : goal.change_chunks-place_near-requires-clause-filled
change_chunks-place_near-requires-clause-filled g t c = sized_filled c.args.chunks.now c.requires.sized

pub change_chunks-edits_of-requires-clause-sorted : goal.change_chunks-edits_of-requires-clause-sorted
change_chunks-edits_of-requires-clause-sorted g t c =
    let cmp = g.K.Ord.cmp in
    let front = c.split_at_mut-rest.result.0.now in
    let chunk = c.in-Some-split_first_mut.chunk.now in
    let rest = c.in-Some-split_first_mut.rest.now in
    let whole : c.args.chunks.now ≡ front ++ chunk ∷ rest = c.split_at_mut-rest.ensures.value ∙ ap (λ back. front ++ back) c.in-Some-split_first_mut.ensures.cases.0 in
    sorted_behind cmp front chunk rest (subst (λ cs. T (is_sorted cmp (joined cs))) whole c.requires.sorted)

pub change_chunks-change_from-requires : goal.change_chunks-change_from-requires
change_chunks-change_from-requires g t c =
    let cmp = g.K.Ord.cmp in
    let front = c.split_at_mut-rest.result.0.now in
    let chunk = c.in-Some-split_first_mut.chunk.now in
    let rest = c.in-Some-split_first_mut.rest.now in
    let whole : c.args.chunks.now ≡ front ++ chunk ∷ rest = c.split_at_mut-rest.ensures.value ∙ ap (λ back. front ++ back) c.in-Some-split_first_mut.ensures.cases.0 in
    let sorted = sorted_behind cmp front chunk rest (subst (λ cs. T (is_sorted cmp (joined cs))) whole c.requires.sorted) in
    let sized = each_right IsSized front (chunk ∷ rest) (subst AreSized whole c.requires.sized) in
    λ κs lives. (
      omega (arith, ap length whole, length-append front (chunk ∷ rest)),
      (
        search rules,
        (
          search rules,
          (
            search rules,
            (
              search rules,
              (
                subst (KeysAscend cmp) (sym c.split_at.ensures.front) (ascend_take cmp c.args.edits.now c.edits_of.result c.requires.ascend),
                (
                  subst (KeysAscend cmp) (sym c.split_at.ensures.back) (ascend_drop cmp c.args.edits.now c.edits_of.result c.requires.ascend),
                  (sorted_left cmp chunk.value.pairs (joined rest) sorted, (sorted_right cmp chunk.value.pairs (joined rest) sorted, (sized.0, (sized.1, (c.requires.behind, (c.requires.parts, (c.requires.filled, c.requires.then))))))),
                ),
              ),
            ),
          ),
        ),
      ),
    )

pub change_chunks-returns-clause-sized : goal.change_chunks-returns-clause-sized
change_chunks-returns-clause-sized g t c =
    let front = c.split_at_mut-rest.result.0.now in
    let chunk = c.in-Some-split_first_mut.chunk.now in
    let rest = c.in-Some-split_first_mut.rest.now in
    let whole : c.args.chunks.now ≡ front ++ chunk ∷ rest = c.split_at_mut-rest.ensures.value ∙ ap (λ back. front ++ back) c.in-Some-split_first_mut.ensures.cases.0 in
    each-append IsSized front (c.change_from.new.chunk ∷ c.change_from.new.rest) (each_left IsSized front (chunk ∷ rest) (subst AreSized whole c.requires.sized)) (c.change_from.ensures.size, c.change_from.ensures.sized)

pub change_chunks-returns-clause-joined : goal.change_chunks-returns-clause-joined
change_chunks-returns-clause-joined g t c =
    let cmp = g.K.Ord.cmp in
    let order = order_by g.K.Key.order cmp g.met.K.Key.compared in
    let es = c.args.edits.now in
    let r = c.edits_of.result in
    let key = c.in-Some.edit.now.key in
    let front = c.split_at_mut-rest.result.0.now in
    let chunk = c.in-Some-split_first_mut.chunk.now in
    let rest = c.in-Some-split_first_mut.rest.now in
    let result = c.change_from.result in
    let whole : c.args.chunks.now ≡ front ++ chunk ∷ rest = c.split_at_mut-rest.ensures.value ∙ ap (λ back. front ++ back) c.in-Some-split_first_mut.ensures.cases.0 in
    let at : c.place_near.result ≡ first_chunk_from cmp (Included key) c.args.chunks.now = search rules in
    let in_front : All (λ e. entry_from cmp (Included e.key) (joined front) ≡ None) es =
    front_past order front (chunk ∷ rest) es key c.requires.ascend (λ d. ap (λ (e : KeyEdit _ _). e.key) (c.in-Some.ensures.item.4 (omega arith) d)) (omega (arith, c.split_at_mut-rest.ensures.front_len, c.min-index.ensures, at, ap (first_chunk_from cmp (Included key)) whole)) in
    let all : take r es ++ drop r es ≡ es = take-append-drop r es in
    edited_chunks order (were_made result) front chunk c.change_from.new.chunk rest c.change_from.new.rest (take r es) (drop r es)
    (subst (KeysAscend cmp) (sym all) c.requires.ascend)
    (subst (All (λ e. entry_from cmp (Included e.key) (joined front) ≡ None)) (sym all) in_front)
    c.edits_of.ensures.run
    c.edits_of.ensures.rest
    (c.change_from.ensures.chunk ∙ ap (λ mine. if_made result (entered_all cmp chunk.value.pairs mine) chunk.value.pairs) c.split_at.ensures.front)
    (c.change_from.ensures.rest ∙ ap (λ later. if_made result (entered_all cmp (joined rest) later) (joined rest)) c.split_at.ensures.back)
    ∙ (λ i. if_made result (entered_all cmp (joined (sym whole i)) (all i)) (joined (sym whole i)))

pub change_from-returns-in-Ok-true-clause-size : goal.change_from-returns-in-Ok-true-clause-size
change_from-returns-in-Ok-true-clause-size g t c =
    let cmp = g.K.Ord.cmp in
    let order = order_by g.K.Key.order cmp g.met.K.Key.compared in
    let old = c.args.chunk.now.value.pairs in
    let mine = c.args.mine.now in
    let lent : (c.make_mut.follows.lender c.write.new.self).value ≡ c.write.new.self = search rules in
    let before : c.reserve.new.self.pairs ≡ old = c.reserve.ensures.pairs ∙ same_pairs c.args.chunk.now.value c.in_ok-chunk.chunk.now c.in_ok-chunk.ensures.value in
    let made : (c.make_mut.follows.lender c.write.new.self).value.pairs ≡ entered_all cmp old mine = ap (λ (x : Buffer _ _). x.pairs) lent ∙ c.write.ensures.pairs ∙ ap (λ es. entered_all cmp es mine) before in
    let here : length c.deref.result.now.pairs ≡ length old = ap (λ (x : Buffer _ _). length x.pairs) c.deref.ensures in
    let fewer : length mine < length old = omega (arith, c.takes.ensures.left c.if-not-takes.false, here) in
    let room : length old + length mine ≤ 256 = omega (arith, c.takes.ensures.room c.if-not-takes.false (omega (arith, here, c.requires.size.1)), here) in
    subst IsSized (sym made) (sized_still order old mine c.requires.chunk fewer room)

pub change_from_part-invariant_of-part : goal.change_from_part-invariant_of-part
change_from_part-invariant_of-part g t c =
    let order = order_by g.K.Key.order g.K.Ord.cmp g.met.K.Key.compared in
    let cmp = g.K.Ord.cmp in
    let old = c.part.inside.chunks.items in
    let new = c.change_chunks.new.chunks in
    let result = c.change_chunks.result in
    let mine = c.args.mine.now in
    let written : (with_items c.part.inside.chunks new).items ≡ new = with_items_is c.part.inside.chunks new (omega (arith, c.change_chunks.auto.chunks, c.as_mut_slice.ensures.len)) in
    let made : joined new ≡ if_made result (entered_all cmp (joined old) mine) (joined old) =
    c.change_chunks.ensures.joined ∙ ap (λ cs. if_made result (entered_all cmp (joined cs) mine) (joined cs)) c.as_mut_slice.ensures.value in
    let long : length new ≡ length old = omega (arith, c.change_chunks.auto.chunks, ap length c.as_mut_slice.ensures.value) in (
      subst (λ cs. T (is_sorted cmp (joined cs))) (sym written) (subst (λ es. T (is_sorted cmp es)) (sym made) (is_sorted-if order (were_made result) (joined old) mine c.part.invariant.0)),
      subst AreSized (sym written) c.change_chunks.ensures.sized,
      subst (λ cs. 1 ≤ length cs) (sym written) (omega (arith, long, c.part.invariant.2)),
      subst (λ cs. length cs ≤ 64) (sym written) (omega (arith, long, c.part.invariant.3)),
    )

pub change_from_part-returns-clause-part_filled : goal.change_from_part-returns-clause-part_filled
change_from_part-returns-clause-part_filled g t c =
    let old = c.part.inside.chunks.items in
    let new = c.change_chunks.new.chunks in
    let written : (with_items c.part.inside.chunks new).items ≡ new = with_items_is c.part.inside.chunks new (omega (arith, c.change_chunks.auto.chunks, c.as_mut_slice.ensures.len)) in
    let now : Buffer _ _ = record { pairs = joined (with_items c.part.inside.chunks new).items; room = 0 } in
    let lent : (c.make_mut.follows.lender now).value ≡ now = search rules in
    let some : 1 ≤ length new = omega (arith, c.change_chunks.auto.chunks, ap length c.as_mut_slice.ensures.value, c.part.invariant.2) in
    subst IsNotEmpty (sym (ap (λ (x : Buffer _ _). x.pairs) lent ∙ ap joined written)) (joined_filled new (sized_filled new c.change_chunks.ensures.sized) some)

pub change_from_part-returns-clause-part : goal.change_from_part-returns-clause-part
change_from_part-returns-clause-part g t c =
    let cmp = g.K.Ord.cmp in
    let old = c.part.inside.chunks.items in
    let new = c.change_chunks.new.chunks in
    let result = c.change_chunks.result in
    let mine = c.args.mine.now in
    let written : (with_items c.part.inside.chunks new).items ≡ new = with_items_is c.part.inside.chunks new (omega (arith, c.change_chunks.auto.chunks, c.as_mut_slice.ensures.len)) in
    let made : joined new ≡ if_made result (entered_all cmp (joined old) mine) (joined old) =
    c.change_chunks.ensures.joined ∙ ap (λ cs. if_made result (entered_all cmp (joined cs) mine) (joined cs)) c.as_mut_slice.ensures.value in
    let now : Buffer _ _ = record { pairs = joined (with_items c.part.inside.chunks new).items; room = 0 } in
    let lent : (c.make_mut.follows.lender now).value ≡ now = search rules in
    let before : joined old ≡ c.args.part.now.value.pairs = (λ i. (c.part.view_is i).pairs) ∙ same_pairs c.args.part.now.value c.in_ok-part.part.now c.in_ok-part.ensures.value in
    ap (λ (x : Buffer _ _). x.pairs) lent ∙ ap joined written ∙ made ∙ ap (λ es. if_made result (entered_all cmp es mine) es) before
