use Rattle.std.proofs.Common.{◌≡◌, true, sym, subst, ◌∙◌}
use Rattle.std.specs.Prelude.{IfNone}
use Rattle.kfs_maps.specs.Chunks.Starts.{is_from, IsNextEntry}
use Rattle.kfs_lease.specs.Rows.Ending.{start_on, NoneOn}
use Rattle.kfs_lease.specs.Rows.Rows.{by_node}
use Rattle.kfs_lease.proofs.RowsLemmas.Endings.{other_node}
use Rattle.kfs_lease.proofs.rows.walk.next_on.Goals as goal

pub returns-in_err-key-clause-none : goal.returns-in_err-key-clause-none
returns-in_err-key-clause-none g c =
    subst (λ r. IfNone r (NoneOn c.args.entries.now c.args.first c.args.after)) (sym c.from_residual.ensures)
    (λ second from. c.in_err-key.ensures.none (c.args.first, second) (subst (λ b. is_from by_node.compare b (c.args.first, second) ≡ true) (sym (c.as_ref.ensures ∙ c.start_on-start.ensures)) from))

pub returns-then-key-first-clause-next : goal.returns-then-key-first-clause-next
returns-then-key-first-clause-next g c =
    let key = c.in_ok-key.key.now in
    subst (λ k. IsNextEntry by_node.compare (start_on c.args.first c.args.after) c.args.entries.now k c.in_ok-key.value.now) (λ i. (c.if-key-first.true i, key.1))
    (subst (λ b. IsNextEntry by_node.compare b c.args.entries.now key c.in_ok-key.value.now) (c.as_ref.ensures ∙ c.start_on-start.ensures) c.in_ok-key.ensures.some)

pub returns-else-key-first-clause-none : goal.returns-else-key-first-clause-none
returns-else-key-first-clause-none g c =
    let key = c.in_ok-key.key.now in
    other_node c.args.entries.now c.args.first c.args.after key c.in_ok-key.value.now
    (subst (λ b. IsNextEntry by_node.compare b c.args.entries.now key c.in_ok-key.value.now) (c.as_ref.ensures ∙ c.start_on-start.ensures) c.in_ok-key.ensures.some) c.if-key-first.false
