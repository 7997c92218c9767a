use Rattle.std.proofs.Common.{◌≡◌, ◌++◌, ◌∷◌, [], ◌∙◌, sym, ap, subst}
use Rattle.kfs_maps.specs.Chunks.Joined.{joined, IsSized, AreSized}
use Rattle.kfs_maps.proofs.ChunksLemmas.Recut.{joined-push, each-push}
use Rattle.kfs_maps.proofs.chunks.chunk_list.ChunkList.push.Goals as goal

pub invariant_of-self-2 : goal.invariant_of-self-2
invariant_of-self-2 g c =
    let old = c.self.inside.chunks.items in
    let chunk = c.in_ok-chunk.chunk in
    let items : c.push.new.self.items ≡ old ++ chunk ∷ [] = c.in_ok-push.ensures.items in
    let value : chunk.value.pairs ≡ c.args.entries.items = ap (λ held. held.pairs) c.in_ok-chunk.ensures.ok ∙ c.of.ensures in
    subst AreSized (sym items) (each-push IsSized old chunk c.self.invariant (subst IsSized (sym value) c.requires.sized))

pub returns : goal.returns
returns g c =
    let old = c.self.inside.chunks.items in
    let chunk = c.in_ok-chunk.chunk in
    let items : c.push.new.self.items ≡ old ++ chunk ∷ [] = c.in_ok-push.ensures.items in
    let value : chunk.value.pairs ≡ c.args.entries.items = ap (λ held. held.pairs) c.in_ok-chunk.ensures.ok ∙ c.of.ensures in
    ap joined items ∙ joined-push old chunk ∙ (λ i. c.self.view_is i ++ value i)
