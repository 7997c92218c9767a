use Rattle.std.proofs.Common.{rules, ◌≡◌, ◌<◌, ◌≤◌, ◌∙◌, [], length, ap, sym, subst, arith, get_or, Bor}
use Rattle.std.specs.Range.Bound.{bound_map}
use Rattle.std.specs.declared.sync.Arc.{Arc}
use Rattle.kfs_maps.specs.Chunks.Buffer.{Buffer}
use Rattle.kfs_maps.specs.Chunks.Joined.{first_chunk_from, AreFilled}
use Rattle.kfs_maps.specs.Chunks.Starts.{IsNextRun}
use Rattle.kfs_maps.proofs.ChunksLemmas.Runs.{run_in_place, run_past}
use Rattle.kfs_maps.proofs.chunks.chunks.Chunks.run_from.Goals as goal

pub place-requires-clause-filled : goal.place-requires-clause-filled
place-requires-clause-filled g c = subst AreFilled (sym c.deref-2.ensures.value) c.self.invariant.1

pub returns-in-Some-clause-next : goal.returns-in-Some-clause-next
returns-in-Some-clause-next g c =
    let cmp = g.K.Ord.cmp in
    let start = bound_map (λ (x : Bor g.row.K.Denot). x.now) c.args.start in
    let cs = c.self.inside.parts.items in
    let part = c.in-Some.part.now in
    let run = c.run_from.result.now in
    let at : c.place.result ≡ first_chunk_from cmp start cs = search rules in
    let within : c.place.result < length cs = search rules in
    let here : part ≡ get_or cs c.place.result part = search rules in
    let own : IsNextRun cmp start part.value.pairs run = subst (λ (x : Buffer _ _). IsNextRun cmp start x.pairs run) c.deref-in-Some.ensures c.run_from.ensures in
    subst (λ compare. IsNextRun compare start c.args.self.now run) g.met.K.Key.compared
    (subst (λ es. IsNextRun cmp start es run) c.self.view_is
    (run_in_place cmp start cs part run (omega (arith, at, within)) (subst (λ (x : Arc (Buffer _ _) _). IsNextRun cmp start x.value.pairs run) (here ∙ ap (λ k. get_or cs k part) at) own)))

pub returns-in-None-clause-next : goal.returns-in-None-clause-next
returns-in-None-clause-next g c =
    let cmp = g.K.Ord.cmp in
    let start = bound_map (λ (x : Bor g.row.K.Denot). x.now) c.args.start in
    let cs = c.self.inside.parts.items in
    let at : c.place.result ≡ first_chunk_from cmp start cs = search rules in
    let past : length cs ≤ c.place.result = search rules in
    subst (λ compare. IsNextRun compare start c.args.self.now []) g.met.K.Key.compared
    (subst (λ es. IsNextRun cmp start es []) c.self.view_is (run_past cmp start cs (omega (arith, at, past))))
