use Rattle.std.proofs.Common.{rules, ◌≡◌, ◌∙◌, ◌+◌, ◌++◌, ◌∷◌, [], T, length, drop, length-drop, ap, sym, subst, arith}
use Rattle.std.proofs.lemmas.List.{append_assoc, append-nil, length-append, nil_from_length, at_drop_more}
use Rattle.std.specs.FinMap.Entries.{is_sorted}
use Rattle.std.specs.declared.sync.Arc.{Arc}
use Rattle.kfs_maps.specs.Chunks.Buffer.{Buffer}
use Rattle.kfs_maps.specs.Chunks.Joined.{joined, IsSized, AreSized}
use Rattle.kfs_maps.proofs.ChunksLemmas.Parts.{each_at}
use Rattle.kfs_maps.proofs.ChunksLemmas.Recut.{joined-push, each-push}
use Rattle.kfs_maps.proofs.chunks.part.Part.of.Goals as goal

pub loop-chunk-preserved : goal.loop-chunk-preserved
loop-chunk-preserved g c =
    let cs = c.args.chunks.now in
    let i = c.loop-chunk.chunk-index in
    let chunk = c.chunk-item.result in
    let own = c.loop-chunk.own.items in
    let rest = joined (drop (i + 1) cs) in
    let copy = c.in_ok-clone.field-0 in
    let items : c.push.new.self.items ≡ own ++ copy ∷ [] = c.in_ok-push.ensures.items in
    let value : copy.value ≡ chunk.value = search rules in
    record {
      joined =
          ap (λ all. joined all ++ rest) items
          ∙ ap (λ es. es ++ rest) (joined-push own copy)
          ∙ append_assoc (joined own) copy.value.pairs rest
          ∙ ap (λ (held : Buffer _ _). joined own ++ (held.pairs ++ rest)) value
          ∙ ap (λ (x : Arc _ _). joined own ++ (x.value.pairs ++ rest)) c.chunk-item.is
          ∙ sym (at_drop_more (λ all. joined own ++ joined all) cs i chunk c.loop-chunk-test.true)
          ∙ c.loop-chunk.invariant.joined;
      sized =
          subst AreSized (sym items)
          (each-push IsSized own copy c.loop-chunk.invariant.sized
          (subst (λ (held : Buffer _ _). IsSized held.pairs) (sym value)
          (subst (λ (x : Arc _ _). IsSized x.value.pairs) (sym c.chunk-item.is) (each_at IsSized cs i chunk c.requires.sized c.loop-chunk-test.true))));
      count = omega (arith, ap length items, length-append own (copy ∷ []), c.loop-chunk.invariant.count);
    }

pub invariant_of-result : goal.invariant_of-result
invariant_of-result g c =
    let cs = c.args.chunks.now in
    let i = c.loop-chunk.chunk-index in
    let none : drop i cs ≡ [] = nil_from_length (drop i cs) (omega (arith, length-drop i cs, c.loop-chunk-test.false)) in
    let all : joined c.loop-chunk.own.items ≡ joined cs = sym (append-nil _) ∙ ap (λ left. joined c.loop-chunk.own.items ++ joined left) (sym none) ∙ c.loop-chunk.invariant.joined in (
      subst (λ es. T (is_sorted g.K.Ord.cmp es)) (sym all) c.requires.sorted,
      c.loop-chunk.invariant.sized,
      omega (arith, c.loop-chunk.invariant.count, c.loop-chunk-test.false, c.requires.least),
      search rules,
    )
