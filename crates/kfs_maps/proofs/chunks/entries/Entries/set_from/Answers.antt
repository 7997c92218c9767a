use Rattle.std.proofs.Common.{rules, ◌≡◌, T, true, length, slice_set, cond, ap, sym, subst, ◌∙◌, arith, Some, None, Ok, Err}
use Rattle.std.specs.Prelude.{is_ok}
use Rattle.std.specs.List.{insert}
use Rattle.std.specs.FinMap.Entries.{is_sorted}
use Rattle.std.specs.declared.ops.Bound.TheVariants.{Included}
use Rattle.kfs_maps.specs.Chunks.Edits.{entered}
use Rattle.kfs_maps.specs.Chunks.Starts.{first_from}
use Rattle.kfs_maps.proofs.ChunksLemmas.Rewritten.{behind_put, behind_removed}
use Rattle.kfs_maps.proofs.ChunksLemmas.Sorted.{order_by, searched, place_found, place_free, StandsAt, stands_where, FitsAt, fits_where, is_sorted-entered}
use Rattle.kfs_maps.proofs.chunks.entries.Entries.set_from.Goals as goal

pub index_mut-requires : goal.index_mut-requires
index_mut-requires g c =
    let order = order_by g.K.Key.order g.K.Ord.cmp g.met.K.Key.compared in
    let held : StandsAt order c.args.key.now c.self.inside.pairs.items c.in-Ok-Some.at =
    stands_where order c.args.key.now c.self.inside.pairs.items c.in-Ok-Some.at c.self.invariant (ap (searched order c.args.key.now) (sym c.deref.ensures.value) ∙ sym c.search_near.ensures ∙ c.in-Ok-Some.is-0) in
    omega (arith, held.within, c.deref.ensures.len, ap length c.deref.ensures.value)

pub invariant_of-self : goal.invariant_of-self
invariant_of-self g c =
    let order = order_by g.K.Key.order g.K.Ord.cmp g.met.K.Key.compared in
    let es = c.self.inside.pairs.items in
    let held : StandsAt order c.args.key.now es c.in-Ok-Some.at =
    stands_where order c.args.key.now es c.in-Ok-Some.at c.self.invariant (ap (searched order c.args.key.now) (sym c.deref.ensures.value) ∙ sym c.search_near.ensures ∙ c.in-Ok-Some.is-0) in
    let same : slice_set es c.in-Ok-Some.at (c.index_mut.result.now.0, c.in-Ok-Some.value) ≡ entered g.K.Ord.cmp es c.args.key.now (Some c.in-Ok-Some.value) =
    ap (λ e. slice_set es c.in-Ok-Some.at (e.0, c.in-Ok-Some.value)) c.index_mut.ensures.value ∙ sym (held.replaced c.in-Ok-Some.value c.index_mut.result.now) in
    subst (λ es. T (is_sorted g.K.Ord.cmp es)) (sym same) (is_sorted-entered order es c.args.key.now (Some c.in-Ok-Some.value) c.self.invariant)

pub returns-in-Ok-Some-clause-pairs : goal.returns-in-Ok-Some-clause-pairs
returns-in-Ok-Some-clause-pairs g c =
    let order = order_by g.K.Key.order g.K.Ord.cmp g.met.K.Key.compared in
    let es = c.self.inside.pairs.items in
    let held : StandsAt order c.args.key.now es c.in-Ok-Some.at =
    stands_where order c.args.key.now es c.in-Ok-Some.at c.self.invariant (ap (searched order c.args.key.now) (sym c.deref.ensures.value) ∙ sym c.search_near.ensures ∙ c.in-Ok-Some.is-0) in
    ap (λ e. slice_set es c.in-Ok-Some.at (e.0, c.in-Ok-Some.value)) c.index_mut.ensures.value
    ∙ sym (held.replaced c.in-Ok-Some.value c.index_mut.result.now)
    ∙ ap (entered g.K.Ord.cmp es c.args.key.now) (sym c.in-Ok-Some.is-1)
    ∙ ap (λ s. entered g.K.Ord.cmp s.pairs c.args.key.now c.args.value) c.self.view_is

pub remove-requires : goal.remove-requires
remove-requires g c =
    let order = order_by g.K.Key.order g.K.Ord.cmp g.met.K.Key.compared in
    let held : StandsAt order c.args.key.now c.self.inside.pairs.items c.in-Ok-None.at =
    stands_where order c.args.key.now c.self.inside.pairs.items c.in-Ok-None.at c.self.invariant (ap (searched order c.args.key.now) (sym c.deref.ensures.value) ∙ sym c.search_near.ensures ∙ c.in-Ok-None.is-0) in
    omega (arith, held.within, c.deref.ensures.len, ap length c.deref.ensures.value)

pub invariant_of-self-in-Ok-None : goal.invariant_of-self-in-Ok-None
invariant_of-self-in-Ok-None g c =
    let order = order_by g.K.Key.order g.K.Ord.cmp g.met.K.Key.compared in
    let es = c.self.inside.pairs.items in
    let held : StandsAt order c.args.key.now es c.in-Ok-None.at =
    stands_where order c.args.key.now es c.in-Ok-None.at c.self.invariant (ap (searched order c.args.key.now) (sym c.deref.ensures.value) ∙ sym c.search_near.ensures ∙ c.in-Ok-None.is-0) in
    subst (λ es. T (is_sorted g.K.Ord.cmp es)) (sym (c.remove.ensures.items ∙ sym held.removed)) (is_sorted-entered order es c.args.key.now None c.self.invariant)

pub returns-in-Ok-None-clause-pairs : goal.returns-in-Ok-None-clause-pairs
returns-in-Ok-None-clause-pairs g c =
    let order = order_by g.K.Key.order g.K.Ord.cmp g.met.K.Key.compared in
    let es = c.self.inside.pairs.items in
    let held : StandsAt order c.args.key.now es c.in-Ok-None.at =
    stands_where order c.args.key.now es c.in-Ok-None.at c.self.invariant (ap (searched order c.args.key.now) (sym c.deref.ensures.value) ∙ sym c.search_near.ensures ∙ c.in-Ok-None.is-0) in
    c.remove.ensures.items
    ∙ sym held.removed
    ∙ ap (entered g.K.Ord.cmp es c.args.key.now) (sym c.in-Ok-None.is-1)
    ∙ ap (λ s. entered g.K.Ord.cmp s.pairs c.args.key.now c.args.value) c.self.view_is

pub insert-requires : goal.insert-requires
insert-requires g c =
    let order = order_by g.K.Key.order g.K.Ord.cmp g.met.K.Key.compared in
    let out : FitsAt order c.args.key.now c.self.inside.pairs.items c.in-Err-Some.at =
    fits_where order c.args.key.now c.self.inside.pairs.items c.in-Err-Some.at (ap (searched order c.args.key.now) (sym c.deref.ensures.value) ∙ sym c.search_near.ensures ∙ c.in-Err-Some.is-0) in
    omega (arith, out.within, c.deref.ensures.len, ap length c.deref.ensures.value)

pub invariant_of-self-in-Err-Some : goal.invariant_of-self-in-Err-Some
invariant_of-self-in-Err-Some g c =
    let order = order_by g.K.Key.order g.K.Ord.cmp g.met.K.Key.compared in
    let es = c.self.inside.pairs.items in
    let out : FitsAt order c.args.key.now es c.in-Err-Some.at = fits_where order c.args.key.now es c.in-Err-Some.at (ap (searched order c.args.key.now) (sym c.deref.ensures.value) ∙ sym c.search_near.ensures ∙ c.in-Err-Some.is-0) in
    let done : is_ok c.insert.result ≡ true = search rules in
    let same : c.insert.new.self.items ≡ entered g.K.Ord.cmp es c.args.key.now (Some c.in-Err-Some.value) =
    c.insert.ensures.items
    ∙ ap (λ b. cond b (insert es c.in-Err-Some.at (c.args.key.now, c.in-Err-Some.value)) es) done
    ∙ sym (out.put_there c.in-Err-Some.value) in
    subst (λ es. T (is_sorted g.K.Ord.cmp es)) (sym same) (is_sorted-entered order es c.args.key.now (Some c.in-Err-Some.value) c.self.invariant)

pub returns-in-Err-Some-clause-pairs : goal.returns-in-Err-Some-clause-pairs
returns-in-Err-Some-clause-pairs g c =
    let order = order_by g.K.Key.order g.K.Ord.cmp g.met.K.Key.compared in
    let es = c.self.inside.pairs.items in
    let out : FitsAt order c.args.key.now es c.in-Err-Some.at = fits_where order c.args.key.now es c.in-Err-Some.at (ap (searched order c.args.key.now) (sym c.deref.ensures.value) ∙ sym c.search_near.ensures ∙ c.in-Err-Some.is-0) in
    let done : is_ok c.insert.result ≡ true = search rules in
    c.insert.ensures.items
    ∙ ap (λ b. cond b (insert es c.in-Err-Some.at (c.args.key.now, c.in-Err-Some.value)) es) done
    ∙ sym (out.put_there c.in-Err-Some.value)
    ∙ ap (entered g.K.Ord.cmp es c.args.key.now) (sym c.in-Err-Some.is-1)
    ∙ ap (λ s. entered g.K.Ord.cmp s.pairs c.args.key.now c.args.value) c.self.view_is

pub returns-in-Err-None-clause-pairs : goal.returns-in-Err-None-clause-pairs
returns-in-Err-None-clause-pairs g c =
    let order = order_by g.K.Key.order g.K.Ord.cmp g.met.K.Key.compared in
    let es = c.self.inside.pairs.items in
    let out : FitsAt order c.args.key.now es c.in-Err-None.at = fits_where order c.args.key.now es c.in-Err-None.at (ap (searched order c.args.key.now) (sym c.deref.ensures.value) ∙ sym c.search_near.ensures ∙ c.in-Err-None.is-0) in
    ap (λ s. s.pairs) (sym c.self.view_is)
    ∙ sym out.kept
    ∙ ap (entered g.K.Ord.cmp es c.args.key.now) (sym c.in-Err-None.is-1)
    ∙ ap (λ s. entered g.K.Ord.cmp s.pairs c.args.key.now c.args.value) c.self.view_is

pub returns-in-Ok-Some-clause-behind : goal.returns-in-Ok-Some-clause-behind
returns-in-Ok-Some-clause-behind g c q less =
    let cmp = g.K.Ord.cmp in
    let order = order_by g.K.Key.order cmp g.met.K.Key.compared in
    let key = c.args.key.now in
    let es = c.self.inside.pairs.items in
    let at = c.in-Ok-Some.at in
    let answer : searched order key es ≡ Ok at = ap (searched order key) (sym c.deref.ensures.value) ∙ sym c.search_near.ensures ∙ c.in-Ok-Some.is-0 in
    let held : StandsAt order key es at = stands_where order key es at c.self.invariant answer in
    let same : slice_set es at (c.index_mut.result.now.0, c.in-Ok-Some.value) ≡ entered cmp es key (Some c.in-Ok-Some.value) =
    ap (λ e. slice_set es at (e.0, c.in-Ok-Some.value)) c.index_mut.ensures.value ∙ sym (held.replaced c.in-Ok-Some.value c.index_mut.result.now) in
    omega (arith, c.saturating_add.ensures, place_found order key es at answer, behind_put order key q c.in-Ok-Some.value es less, ap (first_from cmp (Included q)) same)

pub returns-in-Ok-None-clause-behind : goal.returns-in-Ok-None-clause-behind
returns-in-Ok-None-clause-behind g c q less =
    let cmp = g.K.Ord.cmp in
    let order = order_by g.K.Key.order cmp g.met.K.Key.compared in
    let key = c.args.key.now in
    let es = c.self.inside.pairs.items in
    let at = c.in-Ok-None.at in
    let answer : searched order key es ≡ Ok at = ap (searched order key) (sym c.deref.ensures.value) ∙ sym c.search_near.ensures ∙ c.in-Ok-None.is-0 in
    let held : StandsAt order key es at = stands_where order key es at c.self.invariant answer in
    omega (arith, place_found order key es at answer, behind_removed order key q es less, ap (first_from cmp (Included q)) (c.remove.ensures.items ∙ sym held.removed))

pub returns-in-Err-Some-clause-behind : goal.returns-in-Err-Some-clause-behind
returns-in-Err-Some-clause-behind g c q less =
    let cmp = g.K.Ord.cmp in
    let order = order_by g.K.Key.order cmp g.met.K.Key.compared in
    let key = c.args.key.now in
    let es = c.self.inside.pairs.items in
    let at = c.in-Err-Some.at in
    let answer : searched order key es ≡ Err at = ap (searched order key) (sym c.deref.ensures.value) ∙ sym c.search_near.ensures ∙ c.in-Err-Some.is-0 in
    let out : FitsAt order key es at = fits_where order key es at answer in
    let done : is_ok c.insert.result ≡ true = search rules in
    let same : c.insert.new.self.items ≡ entered cmp es key (Some c.in-Err-Some.value) =
    c.insert.ensures.items ∙ ap (λ b. cond b (insert es at (key, c.in-Err-Some.value)) es) done ∙ sym (out.put_there c.in-Err-Some.value) in
    omega (arith, c.saturating_add-in-Err-Some.ensures, place_free order key es at answer, behind_put order key q c.in-Err-Some.value es less, ap (first_from cmp (Included q)) same)

pub returns-in-Err-None-clause-behind : goal.returns-in-Err-None-clause-behind
returns-in-Err-None-clause-behind g c q less =
    let cmp = g.K.Ord.cmp in
    let order = order_by g.K.Key.order cmp g.met.K.Key.compared in
    let key = c.args.key.now in
    let es = c.self.inside.pairs.items in
    let at = c.in-Err-None.at in
    let answer : searched order key es ≡ Err at = ap (searched order key) (sym c.deref.ensures.value) ∙ sym c.search_near.ensures ∙ c.in-Err-None.is-0 in
    let out : FitsAt order key es at = fits_where order key es at answer in
    let same : c.args.self.now.pairs ≡ entered cmp es key None = ap (λ s. s.pairs) (sym c.self.view_is) ∙ sym out.kept in
    omega (arith, place_free order key es at answer, behind_removed order key q es less, ap (first_from cmp (Included q)) same)
