use Rattle.std.proofs.Common.{sym, ◌∙◌}
use Rattle.kfs_image_nodes.proofs.Holders.{nowhere, held_first, held_later}
use Rattle.kfs_image_nodes.proofs.rows.NodeTables.holder.Goals as goal

pub returns-in_err-key : goal.returns-in_err-key
returns-in_err-key g c = c.from_residual.ensures ∙ sym (nowhere c.args.self.now.uplinks c.requires.counted c.args.number c.in_err-key.ensures.none)

pub returns-then-key-number : goal.returns-then-key-number
returns-then-key-number g c =
    let key = c.in_ok-key.key.now in
    sym (held_first c.args.self.now.uplinks c.requires.counted c.args.number key c.in_ok-key.field-0-1.now c.in_ok-key.ensures.some key.1 (λ i. (c.if-key-number.true i, key.1)))

pub returns-else-key-number : goal.returns-else-key-number
returns-else-key-number g c =
    sym (held_later c.args.self.now.uplinks c.requires.counted c.args.number c.in_ok-key.key.now c.in_ok-key.field-0-1.now c.in_ok-key.ensures.some c.if-key-number.false)
