use Rattle.std.proofs.Common.{arith}
use Rattle.kfs_image.proofs.BlocksLemmas.BlockWalks.{unmapped_before, none_next, if_none}
use Rattle.kfs_image.proofs.blocks.fill.next_mapped.Goals.{else-key-number-via-then-key-number+else-key-end, else-key-number-via-else-key-number}
use Rattle.kfs_image.proofs.blocks.fill.next_mapped.Goals as goal

pub returns-in_err-key-clause-none : goal.returns-in_err-key-clause-none
returns-in_err-key-clause-none g c = if_none c.from_residual.result (λ block above below. none_next c.args.placement.now c.args.number c.args.from c.in_err-key.ensures.none block above)

pub returns-then-key-end-clause-between : goal.returns-then-key-end-clause-between
returns-then-key-end-clause-between g c = λ block above below.
    unmapped_before c.args.placement.now c.args.number c.args.from c.in_ok-key.key.now c.in_ok-key.field-0-1.now c.in_ok-key.ensures.some block above (λ same le. absurd (omega (arith, below, le)))

pub returns-else-key-number-clause-none : goal.returns-else-key-number-clause-none
returns-else-key-number-clause-none g c = λ block above below.
    unmapped_before c.args.placement.now c.args.number c.args.from c.in_ok-key.key.now c.in_ok-key.field-0-1.now c.in_ok-key.ensures.some block above (λ same le.
    elim c.else-key-number.branch [
      | else-key-number-via-then-key-number+else-key-end w ↦ absurd (omega (arith, below, le, w.if-key-end))
      | else-key-number-via-else-key-number w ↦ absurd (omega (arith, same, w.if-key-number))
    ])
