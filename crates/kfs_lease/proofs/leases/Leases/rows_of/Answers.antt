use Rattle.std.proofs.Common.{◌≡◌, List, ◌++◌, ◌∷◌, [], length, length-append, Some, ap, sym, subst, ◌∙◌, append_assoc, arith}
use Rattle.kfs_lease.specs.LeaseLists.{AreFirstOf, LeaseRow}
use Rattle.kfs_lease.specs.Rows.Rows.{row_table}
use Rattle.kfs_lease.specs.ShownLists.{rows_shown}
use Rattle.kfs_lease.proofs.ListLemmas.HandedIn.{length-shown, shown-append}
use Rattle.kfs_lease.proofs.ListLemmas.OwnRows.{first_rows, from_first_on, later_rows, next_later, no_later, row_at}
use Rattle.kfs_lease.proofs.leases.Leases.rows_of.Goals as goal

pub loop-self-init : goal.loop-self-init
loop-self-init g c =
    let entries = (row_table c.self.inside.rows).entries in
    let after = c.checked_sub-after.result in
    record {
      parts = from_first_on c.args.client c.args.first after c.checked_sub-after.ensures entries ∙ ap (λ rows. rows_shown rows ++ later_rows c.args.client after entries) (sym c.new-rows.ensures.items);
      most = omega (arith, ap length c.new-rows.ensures.items);
    }

pub loop-self-smaller : goal.loop-self-smaller
loop-self-smaller g c = omega (arith, c.len.ensures, c.loop-self-test.true, ap length c.in_ok-push.ensures.items ∙ length-append c.loop-self.rows.items _)

pub loop-self-preserved : goal.loop-self-preserved
loop-self-preserved g c =
    let t = row_table c.self.inside.rows in
    let client = c.args.client in
    let items = c.loop-self.rows.items in
    let new : LeaseRow = row_at ((c.in-Some.number, client), c.in-Some.lease) in
    let later = later_rows client (Some c.in-Some.number) t.entries in
    let more : rows_shown items ++ new ∷ [] ≡ rows_shown c.push.new.self.items = sym (ap rows_shown c.in_ok-push.ensures.items ∙ shown-append items _) in
    record {
      parts =
          c.loop-self.invariant.parts
          ∙ ap (λ (rows : List LeaseRow). rows_shown items ++ rows) (next_later t client c.loop-self.after c.in-Some.number c.in-Some.lease c.in-Some.ensures.next)
          ∙ sym (append_assoc (rows_shown items) (new ∷ []) later)
          ∙ ap (λ (rows : List LeaseRow). rows ++ later) more;
      most = omega (arith, c.len.ensures, c.loop-self-test.true, ap length c.in_ok-push.ensures.items ∙ length-append items _);
    }

pub returns-in_default : goal.returns-in_default
returns-in_default g c =
    let t = row_table c.self.inside.rows in
    let items = c.loop-self.rows.items in
    subst (λ leases. AreFirstOf leases c.args.client c.args.first c.args.at_most (rows_shown items)) c.self.view_is
    (first_rows t c.args.client c.loop-self.after c.self.inside.moment c.args.first c.args.at_most (rows_shown items) c.loop-self.invariant.parts (omega (arith, length-shown items, c.loop-self.invariant.most))
    (λ fewer. no_later t c.args.client c.loop-self.after c.in_default.ensures.none))

pub returns : goal.returns
returns g c =
    let items = c.loop-self.rows.items in
    subst (λ leases. AreFirstOf leases c.args.client c.args.first c.args.at_most (rows_shown items)) c.self.view_is
    (first_rows (row_table c.self.inside.rows) c.args.client c.loop-self.after c.self.inside.moment c.args.first c.args.at_most (rows_shown items) c.loop-self.invariant.parts (omega (arith, length-shown items, c.loop-self.invariant.most))
    (λ fewer. absurd (omega (arith, fewer, length-shown items, c.len.ensures, c.loop-self-test.false))))
