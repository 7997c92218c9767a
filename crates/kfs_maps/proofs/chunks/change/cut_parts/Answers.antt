use Rattle.std.proofs.Common.{rules, ◌≡◌, ◌≤◌, ◌∙◌, ◌++◌, ◌∷◌, [], T, length, ap, sym, subst}
use Rattle.std.proofs.lemmas.List.{append_assoc, append-nil, nil_from_length}
use Rattle.std.specs.FinMap.Entries.{is_sorted}
use Rattle.kfs_maps.specs.Chunks.Joined.{joined, IsSized, IsNotEmpty, AreSized, AreFilled}
use Rattle.kfs_maps.proofs.ChunksLemmas.Parts.{joined-append, joined_filled, sized_filled, sorted_left, sorted_right, each_left, each_right}
use Rattle.kfs_maps.proofs.ChunksLemmas.Recut.{joined-push, each-push}
use Rattle.kfs_maps.proofs.chunks.change.cut_parts.Goals as goal

pub of-requires-clause-sorted : goal.of-requires-clause-sorted
of-requires-clause-sorted g c =
    let mine = c.split_at.result.0.now in
    let rest = c.split_at.result.1.now in
    let whole : c.loop-left.left.now ≡ mine ++ rest = c.split_at.ensures.by_index.0 in
    sorted_left g.K.Ord.cmp (joined mine) (joined rest) (subst (λ es. T (is_sorted g.K.Ord.cmp es)) (ap joined whole ∙ joined-append mine rest) c.loop-left.invariant.sorted)

pub of-requires-clause-sized : goal.of-requires-clause-sized
of-requires-clause-sized g c =
    let mine = c.split_at.result.0.now in
    let rest = c.split_at.result.1.now in
    let whole : c.loop-left.left.now ≡ mine ++ rest = c.split_at.ensures.by_index.0 in
    each_left IsSized mine rest (subst AreSized whole c.loop-left.invariant.sized)

pub loop-left-preserved : goal.loop-left-preserved
loop-left-preserved g c =
    let new = c.loop-left.new.items in
    let mine = c.split_at.result.0.now in
    let rest = c.split_at.result.1.now in
    let part = c.in_ok-new.field-0 in
    let whole : c.loop-left.left.now ≡ mine ++ rest = c.split_at.ensures.by_index.0 in
    let both : joined c.loop-left.left.now ≡ joined mine ++ joined rest = ap joined whole ∙ joined-append mine rest in
    let items : c.push.new.self.items ≡ new ++ part ∷ [] = c.in_ok-push.ensures.items in
    let value : part.value.pairs ≡ joined mine = ap (λ held. held.pairs) c.in_ok-new.ensures.ok ∙ c.in_ok-part.ensures in
    let least : 1 ≤ length mine = search rules in
    let filled : IsNotEmpty (joined mine) = joined_filled mine (sized_filled mine (each_left IsSized mine rest (subst AreSized whole c.loop-left.invariant.sized))) least in
    record {
      sorted = sorted_right g.K.Ord.cmp (joined mine) (joined rest) (subst (λ es. T (is_sorted g.K.Ord.cmp es)) both c.loop-left.invariant.sorted);
      sized = each_right IsSized mine rest (subst AreSized whole c.loop-left.invariant.sized);
      filled = subst AreFilled (sym items) (each-push IsNotEmpty new part c.loop-left.invariant.filled (subst IsNotEmpty (sym value) filled));
      joined =
          ap (λ all. joined all ++ joined rest) items
          ∙ ap (λ es. es ++ joined rest) (joined-push new part)
          ∙ append_assoc (joined new) part.value.pairs (joined rest)
          ∙ ap (λ es. joined new ++ (es ++ joined rest)) value
          ∙ ap (λ es. joined new ++ es) (sym both)
          ∙ c.loop-left.invariant.joined;
    }

pub returns-clause-joined : goal.returns-clause-joined
returns-clause-joined g c =
    let none : c.loop-left.left.now ≡ [] = nil_from_length c.loop-left.left.now (search rules) in
    sym (append-nil (joined c.loop-left.new.items)) ∙ ap (λ left. joined c.loop-left.new.items ++ joined left) (sym none) ∙ c.loop-left.invariant.joined
