use Rattle.std.proofs.Common.{◌≡◌, ◌<◌, ◌∙◌, ◌+◌, All, length, drop, slice_index_or, ap, sym, subst, arith}
use Rattle.std.proofs.lemmas.List.{at_drop_more}
use Rattle.std.specs.declared.cmp.Ordering.TheVariants.{Less}
use Rattle.kfs_maps.specs.Chunks.Edits.{entered, entered_all}
use Rattle.kfs_maps.specs.declared.chunks.entries.KeyEdit.{KeyEdit}
use Rattle.kfs_maps.proofs.ChunksLemmas.Recut.{ascend-behind}
use Rattle.kfs_maps.proofs.chunks.entries.Entries.write.Goals as goal

pub loop-edit-preserved : goal.loop-edit-preserved
loop-edit-preserved g c =
    let cmp = g.K.Ord.cmp in
    let es = c.args.edits.now in
    let i = c.loop-edit.edit-index in
    let edit = c.edit-item.result in
    let before = c.loop-edit.self.pairs in
    let later = drop (i + 1) es in
    let within : i < length es = omega arith in
    let less : All (λ l. cmp edit.key l.key ≡ Less) later =
    subst (λ e. All (λ l. cmp e.key l.key ≡ Less) later) (sym c.edit-item.is) (ascend-behind cmp es i edit within c.requires.ascend) in
    record {
      room = omega (arith, c.set_from-from.ensures.room, c.loop-edit.invariant.room);
      from = λ j d below. c.set_from-from.ensures.behind (slice_index_or later j d).key (less j d below);
      pairs =
          ap (λ pairs. entered_all cmp pairs (drop (i + 1) es)) c.set_from-from.ensures.pairs
          ∙ ap (λ (e : KeyEdit _ _). entered_all cmp (entered cmp before e.key e.value) (drop (i + 1) es)) c.edit-item.is
          ∙ sym (at_drop_more (λ es. entered_all cmp before es) es i edit c.loop-edit-test.true)
          ∙ c.loop-edit.invariant.pairs;
    }
