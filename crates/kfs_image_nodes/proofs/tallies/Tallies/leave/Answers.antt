use Rattle.std.proofs.Common.{◌+◌, ◌<◌, sym, ap, subst, ◌∙◌}
use Rattle.std.specs.Prelude.{unwrap_or}
use Rattle.kfs_maps.specs.Chunks.Tables.{table}
use Rattle.kfs_image_nodes.specs.Indexes.{by_node, count_at, count_step, uplink_step}
use Rattle.kfs_maps.specs.Chunks.Overlays.{overlaid}
use Rattle.kfs_image_nodes.proofs.NameEdits.{seen_less, seen_positive}
use Rattle.kfs_image_nodes.proofs.tallies.Tallies.leave.Goals as goal

pub one_less-requires : goal.one_less-requires
one_less-requires g c = subst (λ o. 0 < unwrap_or o 0) (sym c.name_count-names.ensures) (c.requires.counts c.in-Some.number c.in-Some.is)

pub one_less-requires-in-Some : goal.one_less-requires-in-Some
one_less-requires-in-Some g c = subst (λ o. 0 < unwrap_or o 0) (sym c.way_count-ways.ensures) (c.requires.uplinks c.in-Some.number c.in-Some.is)

pub returns-in_ok-set-2-clause-positive : goal.returns-in_ok-set-2-clause-positive
returns-in_ok-set-2-clause-positive g c =
    seen_positive (table by_node c.args.uplinks.now) c.args.self.now.uplinks.latest c.set-in-Some.new.self.latest (c.in-Some.number, c.args.dir) c.one_less-in-Some.result c.one_less-in-Some.ensures.positive c.in_ok-set-2.ensures

pub returns-in_ok-set-2-clause-counts : goal.returns-in_ok-set-2-clause-counts
returns-in_ok-set-2-clause-counts g c = λ q.
    ap (λ from. count_at (overlaid c.args.counts.now c.set.new.self.latest.entries) q + count_step c.args.dir from q) c.in-Some.is
    ∙ seen_less c.args.counts.now c.args.self.now.counts.latest c.set.new.self.latest c.args.dir c.one_less.result (c.one_less.ensures.less ∙ ap (λ o. unwrap_or o 0) c.name_count-names.ensures) c.in_ok-set.ensures q

pub returns-in_ok-set-2-clause-uplinks : goal.returns-in_ok-set-2-clause-uplinks
returns-in_ok-set-2-clause-uplinks g c = λ q.
    ap (λ from. count_at (overlaid (table by_node c.args.uplinks.now) c.set-in-Some.new.self.latest.entries) q + uplink_step c.args.dir from q) c.in-Some.is
    ∙ seen_less (table by_node c.args.uplinks.now) c.args.self.now.uplinks.latest c.set-in-Some.new.self.latest (c.in-Some.number, c.args.dir) c.one_less-in-Some.result (c.one_less-in-Some.ensures.less ∙ ap (λ o. unwrap_or o 0) c.way_count-ways.ensures) c.in_ok-set-2.ensures q
