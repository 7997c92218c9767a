use Rattle.std.proofs.Common.{rules, ◌≡◌, ◌<◌, ◌≤◌, ◌+◌, ◌∷◌, ◌++◌, ◌∙◌, All, length, drop, sym, ap, subst, arith}
use Rattle.std.proofs.lemmas.List.{drop_all, drop_more}
use Rattle.std.specs.declared.cmp.Ordering.TheVariants.{Less}
use Rattle.kfs_maps.specs.Chunks.Edits.{entered_all}
use Rattle.kfs_maps.proofs.ChunksLemmas.Recut.{ascend-behind}
use Rattle.kfs_maps.proofs.chunks.entries.merged.Goals as goal

pub loop-edit-preserved : goal.loop-edit-preserved
loop-edit-preserved g c =
    let edits = c.args.edits.now in
    let i = c.loop-edit.edit-index in
    let later = drop (i + 1) edits in
    let within : i < length edits = omega arith in
    let less : All (λ l. g.K.Ord.cmp c.edit-item.result.key l.key ≡ Less) later =
    subst (λ e. All (λ l. g.K.Ord.cmp e.key l.key ≡ Less) later) (sym c.edit-item.is) (ascend-behind g.K.Ord.cmp edits i c.edit-item.result within c.requires.ascend) in
    record {
      sorted = c.in_ok-left.ensures.sorted;
      entered =
          c.in_ok-left.ensures.passed later less
          ∙ ap (λ es. c.loop-edit.merged.items ++ entered_all g.K.Ord.cmp c.loop-edit.left.now es) (ap (λ e. e ∷ later) c.edit-item.is ∙ sym (drop_more edits i c.edit-item.result within))
          ∙ c.loop-edit.invariant.entered;
    }

pub returns : goal.returns
returns g c =
    let edits = c.args.edits.now in
    let i = c.loop-edit.edit-index in
    let past : length edits ≤ i = omega arith in
    let copied : c.extend_from_slice.new.self.items ≡ c.loop-edit.merged.items ++ c.loop-edit.left.now = search rules in
    copied ∙ ap (λ es. c.loop-edit.merged.items ++ entered_all g.K.Ord.cmp c.loop-edit.left.now es) (sym (drop_all i edits past)) ∙ c.loop-edit.invariant.entered
