use Rattle.std.proofs.Common.{ℕ, ◌+◌, sym, ap, ◌∙◌}
use Rattle.std.specs.Prelude.{unwrap_or}
use Rattle.kfs_maps.specs.Chunks.Tables.{table}
use Rattle.kfs_maps.proofs.ChunksLemmas.Tables.{get-table}
use Rattle.kfs_image_nodes.specs.Indexes.{by_node, count_at, count_step, uplink_step}
use Rattle.kfs_image_nodes.specs.NameEdits.{counts_seen, ways_seen}
use Rattle.kfs_image_nodes.proofs.NameEdits.{read_seen, seen_more, seen_positive}
use Rattle.kfs_image_nodes.proofs.tallies.Tallies.enter.Goals as goal

pub returns-in_ok-add_one-2-clause-positive : goal.returns-in_ok-add_one-2-clause-positive
returns-in_ok-add_one-2-clause-positive g c =
    let made = c.in_ok-add_one-2.ensures in
    seen_positive (table by_node c.args.uplinks.now) c.args.self.now.uplinks.latest c.add_one-in-Some.new.overlay.latest (c.in-Some.number, c.args.dir) made.now made.positive made.set

pub returns-in_ok-add_one-2-clause-counts : goal.returns-in_ok-add_one-2-clause-counts
returns-in_ok-add_one-2-clause-counts g c = λ q.
    let counts = c.args.counts.now in
    let old = c.args.self.now.counts.latest in
    let made = c.in_ok-add_one.ensures in
    let seen = read_seen counts old c.args.dir c.copied.result (c.copied.ensures ∙ c.get.ensures) in
    seen_more counts old c.add_one.new.overlay.latest c.args.dir made.now 1 (made.more ∙ ap (λ o. unwrap_or o 0 + 1) seen) made.set q
    ∙ ap (λ to. count_at (counts_seen c.args.self.now counts) q + count_step c.args.dir to q) (sym c.in-Some.is)

pub returns-in_ok-add_one-2-clause-uplinks : goal.returns-in_ok-add_one-2-clause-uplinks
returns-in_ok-add_one-2-clause-uplinks g c = λ q.
    let uplinks = c.args.uplinks.now in
    let old = c.args.self.now.uplinks.latest in
    let way : ℕ × ℕ = (c.in-Some.number, c.args.dir) in
    let made = c.in_ok-add_one-2.ensures in
    let seen = read_seen (table by_node uplinks) old way c.copied-there.result (c.copied-there.ensures ∙ c.get_near.ensures ∙ sym (get-table by_node uplinks way)) in
    seen_more (table by_node uplinks) old c.add_one-in-Some.new.overlay.latest way made.now 1 (made.more ∙ ap (λ o. unwrap_or o 0 + 1) seen) made.set q
    ∙ ap (λ to. count_at (ways_seen c.args.self.now uplinks) q + uplink_step c.args.dir to q) (sym c.in-Some.is)
