use Rattle.std.proofs.Common.{Some, None, sym, ◌∙◌}
use Rattle.kfs_maps.proofs.ChunksLemmas.Tables.{get-table}
use Rattle.kfs_lease.specs.Rows.Rows.{by_node, kind_of}
use Rattle.kfs_lease.proofs.RowsLemmas.Conflicts.{is_conflict, none_in_conflict, first_is_least_barred, none_behind_first}
use Rattle.kfs_lease.proofs.rows.rows.LeaseRows.contest.Goals as goal
use Rattle.kfs_lease.proofs.rows.rows.LeaseRows.contest.Goals.{in-Some+else-excludes, in_default}

pub returns-then-excludes-clause-held : goal.returns-then-excludes-clause-held
returns-then-excludes-clause-held g c =
    is_conflict c.args.client c.args.number c.args.moment (kind_of c.args.kind) c.args.self.now.leases (Some c.in-Some.other)
    (first_is_least_barred c.args.client c.args.number c.args.moment (kind_of c.args.kind) c.args.self.now.leases c.in-Some.other c.in-Some.lease c.in-Some.ensures.first (sym c.excludes.ensures ∙ c.if-excludes.true))

pub returns-clause-free : goal.returns-clause-free
returns-clause-free g c =
    let leases = c.args.self.now.leases in
    is_conflict c.args.client c.args.number c.args.moment (kind_of c.args.kind) leases None
    (elim c.match-first_other.branch [
      | in-Some+else-excludes w ↦
          none_behind_first c.args.client c.args.number c.args.moment (kind_of c.args.kind) leases w.in-Some.other w.in-Some.lease w.in-Some.ensures.first c.requires (sym w.excludes.ensures ∙ w.if-excludes.false)
      | in_default w ↦ none_in_conflict c.args.client c.args.number c.args.moment (kind_of c.args.kind) leases w.in_default.ensures.none
    ])

pub returns-clause-own : goal.returns-clause-own
returns-clause-own g c = c.copied.ensures ∙ c.get.ensures ∙ sym (get-table by_node c.args.self.now.leases (c.args.number, c.args.client))
