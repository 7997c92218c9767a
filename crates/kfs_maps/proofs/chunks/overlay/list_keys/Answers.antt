use Rattle.std.proofs.Common.{◌++◌, sym, ap, ◌∙◌}
use Rattle.std.proofs.lemmas.List.{append_assoc, append-nil}
use Rattle.kfs_maps.specs.Chunks.Overlays.{key_edits}
use Rattle.kfs_maps.proofs.chunks.overlay.list_keys.Goals as goal

pub loop-key-preserved : goal.loop-key-preserved
loop-key-preserved g c = record {
  ready = tt;
  ends = tt;
  listed =
      ap (λ items. items ++ key_edits c.next.new.self) c.in_ok-push.ensures.items
      ∙ append_assoc c.loop-key.edits.items _ (key_edits c.next.new.self)
      ∙ ap (λ edits. c.loop-key.edits.items ++ edits) (sym (ap key_edits c.in-Some.ensures.steps))
      ∙ c.loop-key.invariant.listed;
}

pub returns-clause-edits : goal.returns-clause-edits
returns-clause-edits g c =
    sym (append-nil c.loop-key.edits.items)
    ∙ ap (λ edits. c.loop-key.edits.items ++ edits) (sym (ap key_edits c.in-None.ensures.steps.0))
    ∙ c.loop-key.invariant.listed
