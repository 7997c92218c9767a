-- The directory has no other place than the one that the look finds.
use Rattle.std.proofs.Common.{◌≡◌, true, Some, ap, subst}
use Rattle.std.specs.Prelude.{unwrap_or}
use Rattle.std.specs.Ordering.{nat_cmp}
use Rattle.std.specs.BTreeSet.{contains}
use Rattle.kfs_judge_reads.specs.Climbs.{order_of}
use Rattle.kfs_judge_reads.proofs.Ways.{found_place}
use Rattle.kfs_judge_reads.proofs.climbs.Climbs.add_stop.Goals as goal

pub returns-in_ok-insert-clause-stopped : goal.returns-in_ok-insert-clause-stopped
returns-in_ok-insert-clause-stopped g c place inside here =
    let found = found_place (order_of c.args.self.now) c.requires c.args.number place inside here (Some c.in-Some.place) c.in-Some.ensures.index c.in-Some.ensures.found in
    subst (λ at. contains nat_cmp c.insert.new.self at ≡ true) (ap (λ o. unwrap_or o place) found) c.in_ok-insert.ensures.updates.1
