use Rattle.std.proofs.Common.{◌≡◌, ◌-◌, ◌<◌, not, length, slice_index_or, ⊎_elim, sym, ap, subst, ◌∙◌, arith}
use Rattle.std.proofs.lemmas.Bool.{cases_lt}
use Rattle.std.specs.declared.cmp.Ordering.TheVariants.{Less}
use Rattle.std.specs.Ordering.{is_lt}
use Rattle.kfs_maps.proofs.ChunksLemmas.Sorted.{less_from}
use Rattle.kfs_maps.proofs.chunks.entries.is_above.Goals as goal

pub returns-in-Some : goal.returns-in-Some
returns-in-Some g c =
    let cmp = g.K.Ord.cmp in
    let es = c.args.edits.now in
    let key = c.args.key.now in
    let last = c.in-Some.last.now in
    let tested : c.is_lt.result ≡ is_lt (cmp last.key key) = c.is_lt.ensures ∙ ap is_lt c.cmp.ensures in
    let filled : 0 < length es = c.in-Some.ensures.item.3.0 in
    let found = c.in-Some.ensures.item.3.1 in (
      λ is k d within.
          let less : cmp last.key key ≡ Less = less_from _ (ap not (sym tested ∙ is)) in
          let under : cmp (slice_index_or es (length es - 1) d).key key ≡ Less = subst (λ e. cmp e.key key ≡ Less) (found d) less in
          ⊎_elim
          (λ before. g.met.K.Ord.total.trans (slice_index_or es k d).key (slice_index_or es (length es - 1) d).key key (c.requires k (length es - 1) d before (omega (arith, within))) under)
          (λ past. subst (λ i. cmp (slice_index_or es i d).key key ≡ Less) (omega (arith, past, within)) under)
          (cases_lt k (length es - 1)),
      λ all. tested ∙ ap is_lt (subst (λ e. cmp e.key key ≡ Less) (sym (found last)) (all (length es - 1) last (omega (arith, filled)))),
    )
