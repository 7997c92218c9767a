use Rattle.std.proofs.Common.{◌≡◌, true, sym, ap, subst}
use Rattle.std.specs.Prelude.{IfNone, is_some}
use Rattle.std.proofs.lemmas.Bool.{both_ways}
use Rattle.kfs_maps.specs.Chunks.Starts.{is_from, IsNextEntry}
use Rattle.kfs_lease.specs.Rows.Ending.{AreLater}
use Rattle.kfs_lease.specs.Rows.Rows.{by_end, row_end}
use Rattle.kfs_lease.proofs.RowsLemmas.Endings.{ends_later}
use Rattle.kfs_lease.proofs.rows.walk.next_ended.Goals as goal

pub returns-in_err-end-clause-none : goal.returns-in_err-end-clause-none
returns-in_err-end-clause-none g c =
    subst (λ r. IfNone r (AreLater c.args.ends.now c.args.start.now c.args.moment)) (sym c.from_residual.ensures)
    (λ end key from there. absurd (both_ways _ (ap is_some (c.in_err-end.ensures.none (row_end end key) (subst (λ b. is_from by_end.compare b (row_end end key) ≡ true) (sym c.as_ref.ensures) from))) there))

pub returns-then-end-moment-clause-next : goal.returns-then-end-moment-clause-next
returns-then-end-moment-clause-next g c =
    subst (λ b. IsNextEntry by_end.compare b c.args.ends.now c.in_ok-end.end.now tt) c.as_ref.ensures c.in_ok-end.ensures.some

pub returns-else-end-moment-clause-none : goal.returns-else-end-moment-clause-none
returns-else-end-moment-clause-none g c =
    ends_later c.args.ends.now c.args.start.now c.in_ok-end.end.now (subst (λ b. IsNextEntry by_end.compare b c.args.ends.now c.in_ok-end.end.now tt) c.as_ref.ensures c.in_ok-end.ensures.some)
    c.args.moment c.if-end-moment.false
