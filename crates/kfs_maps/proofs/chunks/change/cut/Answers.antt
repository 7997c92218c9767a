use Rattle.std.proofs.Common.{◌≡◌, ◌≤◌, ◌+◌, ◌∷◌, ◌++◌, [], ◌∙◌, length, take, drop, sym, ap, subst, arith, length-drop}
use Rattle.std.proofs.lemmas.List.{length-take-le}
use Rattle.kfs_maps.specs.Chunks.Joined.{joined, IsSized, AreSized}
use Rattle.kfs_maps.proofs.ChunksLemmas.Recut.{each-push, joined_cut}
use Rattle.kfs_maps.proofs.chunks.change.cut.Goals as goal

pub loop-from-preserved : goal.loop-from-preserved
loop-from-preserved g c =
    let es = c.args.entries.now.pairs in
    let from = c.loop-from.from in
    let count = c.min-count.result in
    let chunk = c.in_ok-new.field-0 in
    let items : c.push.new.self.items ≡ c.loop-from.new.items ++ chunk ∷ [] = c.in_ok-push.ensures.items in
    let value : chunk.value.pairs ≡ take count (drop from es) = ap (λ held. held.pairs) c.in_ok-new.ensures.ok ∙ c.in_ok-chunk.ensures in
    let least : 1 ≤ count = omega (arith, c.size_for-size.ensures.least) in
    let most : count ≤ 256 = omega (arith, c.size_for-size.ensures.most) in
    let within : from + count ≤ length es = omega arith in
    let size : length chunk.value.pairs ≡ count = ap length value ∙ length-take-le count (drop from es) (omega (arith, within, length-drop from es)) in
    record {
      within = within;
      sized = subst AreSized (sym items) (each-push IsSized c.loop-from.new.items chunk c.loop-from.invariant.sized (omega (arith, size, least), omega (arith, size, most)));
      joined = ap joined items ∙ joined_cut c.loop-from.new.items chunk (joined c.args.new.now.items) es from count c.loop-from.invariant.joined value;
    }
