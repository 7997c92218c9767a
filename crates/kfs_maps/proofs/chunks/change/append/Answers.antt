use Rattle.std.proofs.Common.{◌≡◌, ◌≤◌, ◌++◌, ◌∷◌, [], ◌∙◌, length, sym, ap, subst, arith}
use Rattle.kfs_maps.specs.Chunks.Joined.{joined, IsSized, AreSized}
use Rattle.kfs_maps.proofs.ChunksLemmas.Recut.{joined-push, each-push}
use Rattle.kfs_maps.proofs.chunks.change.append.Goals as goal

pub returns-clause-joined : goal.returns-clause-joined
returns-clause-joined g c =
    let old = c.args.new.now.items in
    let chunk = c.in_ok-chunk.chunk in
    let items : c.push.new.self.items ≡ old ++ chunk ∷ [] = c.in_ok-push.ensures.items in
    let value : chunk.value.pairs ≡ c.args.entries.pairs = ap (λ held. held.pairs) c.in_ok-chunk.ensures.ok in
    ap joined items ∙ joined-push old chunk ∙ ap (λ es. joined old ++ es) value

pub returns-clause-sized : goal.returns-clause-sized
returns-clause-sized g c =
    let old = c.args.new.now.items in
    let chunk = c.in_ok-chunk.chunk in
    let es = c.args.entries.pairs in
    let items : c.push.new.self.items ≡ old ++ chunk ∷ [] = c.in_ok-push.ensures.items in
    let value : chunk.value.pairs ≡ es = ap (λ held. held.pairs) c.in_ok-chunk.ensures.ok in
    let least : 1 ≤ length es = omega (arith, c.if-len-eq0.false, c.len-len.ensures) in
    let most : length es ≤ 256 = omega (arith, c.if-len-most_entries.false, c.most_entries.ensures.most, c.len-len.ensures) in
    subst AreSized (sym items) (each-push IsSized old chunk c.requires.sized (subst IsSized (sym value) (least, most)))
