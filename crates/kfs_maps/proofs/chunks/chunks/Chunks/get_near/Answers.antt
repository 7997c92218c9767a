use Rattle.std.proofs.Common.{rules, [], ◌≡◌, ◌<◌, ◌≤◌, ◌∙◌, length, ap, sym, subst, arith, get_or}
use Rattle.std.specs.Option.{option_copied}
use Rattle.std.specs.declared.ops.Bound.TheVariants.{Included}
use Rattle.std.specs.FinMap.Entries.{find}
use Rattle.kfs_maps.specs.Chunks.Buffer.{Buffer}
use Rattle.kfs_maps.specs.Chunks.Joined.{joined, AreFilled, first_chunk_from, Tells, TellsAlone}
use Rattle.kfs_maps.proofs.ChunksLemmas.FirstEntries.{find_none}
use Rattle.kfs_maps.proofs.ChunksLemmas.FirstHere.{told_by}
use Rattle.kfs_maps.proofs.ChunksLemmas.Parts.{past_place, found_in_place}
use Rattle.kfs_maps.proofs.ChunksLemmas.Sorted.{order_by}
use Rattle.kfs_maps.proofs.chunks.chunks.Chunks.get_near.Goals as goal

pub place_near-at-requires-clause-filled : goal.place_near-at-requires-clause-filled
place_near-at-requires-clause-filled g c = subst AreFilled (sym c.deref-2.ensures.value) c.self.invariant.1

pub returns-in_err-part : goal.returns-in_err-part
returns-in_err-part g c =
    let cmp = g.K.Ord.cmp in
    let q = (g.Q.Sought.key c.args.key) in
    let cs = c.self.inside.parts.items in
    let order = order_by g.K.Key.order cmp g.met.K.Key.compared in
    let at : c.place_near-at.result ≡ first_chunk_from cmp (Included q) cs = search rules in
    let past : length cs ≤ c.place_near-at.result = search rules in
    ap option_copied c.from_residual.ensures
    ∙ sym (find_none order q (joined cs) c.self.invariant.0 (past_place cmp (Included q) cs (omega (arith, at, past))))
    ∙ ap (λ compare. find compare q (joined cs)) g.met.K.Key.compared
    ∙ ap (find g.K.Key.order.compare q) c.self.view_is

pub returns : goal.returns
returns g c =
    let cmp = g.K.Ord.cmp in
    let q = (g.Q.Sought.key c.args.key) in
    let cs = c.self.inside.parts.items in
    let order = order_by g.K.Key.order cmp g.met.K.Key.compared in
    let chunk = c.in_ok-part.part.now in
    let at : c.place_near-at.result ≡ first_chunk_from cmp (Included q) cs = search rules in
    let within : c.place_near-at.result < length cs = search rules in
    let here : chunk ≡ get_or cs c.place_near-at.result chunk = search rules in
    c.get_near-2.ensures
    ∙ ap (λ (x : Buffer _ _). find cmp q x.pairs) c.deref-4.ensures
    ∙ ap (λ chunk. find cmp q chunk.value.pairs) (here ∙ ap (λ k. get_or cs k chunk) at)
    ∙ sym (found_in_place order q cs chunk c.self.invariant.0 (omega (arith, at, within)))
    ∙ ap (λ compare. find compare q (joined cs)) g.met.K.Key.compared
    ∙ ap (find g.K.Key.order.compare q) c.self.view_is

pub returns-in-Some-inner_chunk : goal.returns-in-Some-inner_chunk
returns-in-Some-inner_chunk g c =
    let cmp = g.K.Ord.cmp in
    let q = (g.Q.Sought.key c.args.key) in
    let cs = c.self.inside.parts.items in
    let part = c.in-Some.part.now in
    let chunk = c.in-Some-inner_chunk.chunk.now in
    let within : c.args.near.now.part < length cs = search rules in
    let here : part ≡ get_or cs c.args.near.now.part part = search rules in
    let alone : TellsAlone cmp q part.value.pairs chunk.value.pairs =
    subst (λ (x : Buffer _ _). TellsAlone cmp q x.pairs chunk.value.pairs) c.deref-in-Some-2.ensures c.in-Some-inner_chunk.ensures in
    c.get_near.ensures
    ∙ ap (λ (x : Buffer _ _). find cmp q x.pairs) c.deref-in-Some-inner_chunk.ensures
    ∙ sym (told_by cmp q [] cs c.args.near.now.part part (find cmp q chunk.value.pairs) c.self.invariant.0 within (subst (λ part. TellsAlone cmp q part.value.pairs chunk.value.pairs) here alone))
    ∙ ap (λ compare. find compare q (joined cs)) g.met.K.Key.compared
    ∙ ap (find g.K.Key.order.compare q) c.self.view_is

pub returns-in-Some-told_at : goal.returns-in-Some-told_at
returns-in-Some-told_at g c =
    let cmp = g.K.Ord.cmp in
    let q = (g.Q.Sought.key c.args.key) in
    let cs = c.self.inside.parts.items in
    let part = c.in-Some.part.now in
    let told = option_copied c.in-Some-told_at.told in
    let within : c.args.near.now.part < length cs = search rules in
    let here : part ≡ get_or cs c.args.near.now.part part = search rules in
    let own : Tells cmp q (get_or cs c.args.near.now.part part).value.pairs told =
    subst (λ one. Tells cmp q one.value.pairs told) here (subst (λ (x : Buffer _ _). Tells cmp q x.pairs told) c.deref-in-Some.ensures c.in-Some-told_at.ensures) in
    sym (told_by cmp q [] cs c.args.near.now.part part told c.self.invariant.0 within own)
    ∙ ap (λ compare. find compare q (joined cs)) g.met.K.Key.compared
    ∙ ap (find g.K.Key.order.compare q) c.self.view_is
