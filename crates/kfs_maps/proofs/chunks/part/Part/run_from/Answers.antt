use Rattle.std.proofs.Common.{rules, ◌≡◌, ◌<◌, ◌≤◌, ◌∙◌, [], length, ap, sym, subst, arith, get_or, Bor}
use Rattle.std.specs.Range.Bound.{bound_map}
use Rattle.std.specs.declared.sync.Arc.{Arc}
use Rattle.kfs_maps.specs.Chunks.Buffer.{Buffer}
use Rattle.kfs_maps.specs.Chunks.Joined.{first_chunk_from, AreFilled}
use Rattle.kfs_maps.specs.Chunks.Starts.{entries_from, IsNextRun}
use Rattle.kfs_maps.proofs.ChunksLemmas.Parts.{sized_filled}
use Rattle.kfs_maps.proofs.ChunksLemmas.Runs.{whole_run, run_in_place, run_past}
use Rattle.kfs_maps.proofs.chunks.part.Part.run_from.Goals as goal

pub place-requires-clause-filled : goal.place-requires-clause-filled
place-requires-clause-filled g c = subst AreFilled (sym c.deref-2.ensures.value) (sized_filled c.self.inside.chunks.items c.self.invariant.1)

pub returns-in-Some : goal.returns-in-Some
returns-in-Some g c =
    let cmp = g.K.Ord.cmp in
    let start = bound_map (λ (x : Bor g.row.K.Denot). x.now) c.args.start in
    let cs = c.self.inside.chunks.items in
    let chunk = c.in-Some.chunk.now in
    let run = c.run_from.result.now in
    let at : c.place.result ≡ first_chunk_from cmp start cs = search rules in
    let within : c.place.result < length cs = search rules in
    let here : chunk ≡ get_or cs c.place.result chunk = search rules in
    let own : IsNextRun cmp start chunk.value.pairs run = whole_run cmp start chunk.value.pairs run (c.run_from.ensures ∙ ap (λ (x : Buffer _ _). entries_from cmp start x.pairs) c.deref-in-Some.ensures) in
    subst (λ (s : Buffer _ _). IsNextRun cmp start s.pairs run) c.self.view_is
    (run_in_place cmp start cs chunk run (omega (arith, at, within)) (subst (λ (x : Arc (Buffer _ _) _). IsNextRun cmp start x.value.pairs run) (here ∙ ap (λ k. get_or cs k chunk) at) own))

pub returns-in-None : goal.returns-in-None
returns-in-None g c =
    let cmp = g.K.Ord.cmp in
    let start = bound_map (λ (x : Bor g.row.K.Denot). x.now) c.args.start in
    let cs = c.self.inside.chunks.items in
    let at : c.place.result ≡ first_chunk_from cmp start cs = search rules in
    let past : length cs ≤ c.place.result = search rules in
    subst (λ (s : Buffer _ _). IsNextRun cmp start s.pairs []) c.self.view_is (run_past cmp start cs (omega (arith, at, past)))
