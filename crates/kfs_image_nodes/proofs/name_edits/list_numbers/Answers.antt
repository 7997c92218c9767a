use Rattle.std.proofs.Common.{◌++◌, sym, ap, ◌∙◌, arith}
use Rattle.std.proofs.lemmas.List.{append_assoc, append-nil}
use Rattle.kfs_image_nodes.specs.NodeEdits.{edits_from}
use Rattle.kfs_image_nodes.proofs.NodeEdits.{edit_kept, edit_left_out, no_edits}
use Rattle.kfs_image_nodes.proofs.name_edits.list_numbers.Goals.{else-number-ge1-via-then-number-ge1+else-number-le-GREATEST_NUMBER, else-number-ge1-via-else-number-ge1}
use Rattle.kfs_image_nodes.proofs.name_edits.list_numbers.Goals as goal

pub loop-number-preserved-then-number-le-GREATEST_NUMBER : goal.loop-number-preserved-then-number-le-GREATEST_NUMBER
loop-number-preserved-then-number-le-GREATEST_NUMBER g c = record {
  ready = tt;
  ends = tt;
  listed =
      ap (λ items. items ++ edits_from c.next.new.self) c.in_ok-push.ensures.items
      ∙ append_assoc c.loop-number.edits.items _ (edits_from c.next.new.self)
      ∙ ap (λ edits. c.loop-number.edits.items ++ edits)
      (sym (edit_kept (c.in-Some.number.now, c.in-Some.now.now) c.next.new.self (omega (arith, c.if-number-ge1.true), omega (arith, c.if-number-le-GREATEST_NUMBER.true))) ∙ ap edits_from (sym c.in-Some.ensures.steps))
      ∙ c.loop-number.invariant.listed;
}

pub loop-number-preserved : goal.loop-number-preserved
loop-number-preserved g c = record {
  ready = tt;
  ends = tt;
  listed =
      ap (λ edits. c.loop-number.edits.items ++ edits)
      (sym (edit_left_out (c.in-Some.number.now, c.in-Some.now.now) c.next.new.self (λ within. elim c.else-number-ge1.branch [
        | else-number-ge1-via-then-number-ge1+else-number-le-GREATEST_NUMBER w ↦ omega (arith, within.1, w.if-number-le-GREATEST_NUMBER.false)
        | else-number-ge1-via-else-number-ge1 w ↦ omega (arith, within.0, w.if-number-ge1.false)
      ])) ∙ ap edits_from (sym c.in-Some.ensures.steps))
      ∙ c.loop-number.invariant.listed;
}

pub returns-clause-edits : goal.returns-clause-edits
returns-clause-edits g c =
    sym (append-nil c.loop-number.edits.items)
    ∙ ap (λ edits. c.loop-number.edits.items ++ edits) (sym no_edits ∙ ap edits_from (sym c.in-None.ensures.steps.0))
    ∙ c.loop-number.invariant.listed
