use Rattle.std.proofs.Common.{◌≡◌, ◌++◌, ◌∷◌, [], refl, sym, ap, subst, ◌∙◌}
use Rattle.std.specs.declared.ops.Bound.TheVariants.{Excluded, Unbounded}
use Rattle.kfs_lease.specs.LeaseLists.{Ascend}
use Rattle.kfs_lease.specs.LeaseLists as model
use Rattle.kfs_lease.specs.Rows.Rows.{by_node, kind_of}
use Rattle.kfs_lease.specs.ShownLists.{rows_shown}
use Rattle.kfs_lease.proofs.ListLemmas.HandedIn.{shown-append}
use Rattle.kfs_lease.proofs.ListLemmas.WalkedRows.{AreBefore, HaveThoseBefore, all_before_new, all_listed, ascend_more, before_more, none_ascend, none_before, one_more}
use Rattle.kfs_lease.proofs.RowsLemmas.Walks.{next_fewer}
use Rattle.kfs_lease.proofs.leases.Leases.rows.Goals as goal

pub loop-key-init : goal.loop-key-init
loop-key-init g c =
    let none = sym c.new-rows.ensures.items in
    record {
      ascend = subst (λ rows. Ascend (rows_shown rows)) none none_ascend;
      before = subst (λ rows. AreBefore Unbounded (rows_shown rows)) none refl;
      have = subst (λ rows. HaveThoseBefore c.self.inside.rows.leases Unbounded (rows_shown rows)) none (none_before c.self.inside.rows.leases);
    }

pub loop-key-smaller : goal.loop-key-smaller
loop-key-smaller g c = next_fewer by_node c.loop-key.start c.self.inside.rows.leases c.in-Some.key c.in-Some.lease c.in-Some.ensures.next

pub loop-key-preserved : goal.loop-key-preserved
loop-key-preserved g c =
    let leases = c.self.inside.rows.leases in
    let start = c.loop-key.start in
    let key = c.in-Some.key in
    let lease = c.in-Some.lease in
    let rows = rows_shown c.loop-key.rows.items in
    let new : model.LeaseRow = record { number = key.0; client = key.1; kind = kind_of lease.kind; end = lease.end } in
    let next = c.in-Some.ensures.next in
    let behind = all_before_new start new next.within rows c.loop-key.invariant.before in
    let more : rows ++ new ∷ [] ≡ rows_shown c.push.new.self.items = sym (ap rows_shown c.in_ok-push.ensures.items ∙ shown-append c.loop-key.rows.items _) in
    record {
      ascend = subst Ascend more (ascend_more rows new c.loop-key.invariant.ascend behind);
      before = subst (AreBefore (Excluded key)) more (before_more start new next.within rows c.loop-key.invariant.before);
      have = subst (HaveThoseBefore leases (Excluded key)) more (one_more leases start rows new lease refl next behind c.loop-key.invariant.have);
    }

pub returns-clause-ascend : goal.returns-clause-ascend
returns-clause-ascend g c = c.loop-key.invariant.ascend

pub returns-clause-same : goal.returns-clause-same
returns-clause-same g c =
    let all = all_listed c.self.inside.rows.leases c.loop-key.start (rows_shown c.loop-key.rows.items) c.loop-key.invariant.have c.in_default.ensures.none in
    (λ i. record { rows = all i; moment = (sym c.self.view_is i).moment }) ∙ c.self.view_is
