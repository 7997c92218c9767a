use Rattle.std.proofs.Common.{sym, subst, ◌∙◌}
use Rattle.kfs_model.specs.Tree.{NameTable, name_order}
use Rattle.kfs_maps.specs.Chunks.Tables.{table}
use Rattle.kfs_image_nodes.specs.Indexes.{AreNames, IsCounted}
use Rattle.kfs_image_nodes.specs.NameEdits.{names_seen, counts_seen, ways_seen}
use Rattle.kfs_image_nodes.proofs.Indexes.{still_names, counted_name, counted_moved}
use Rattle.kfs_maps.proofs.ChunksLemmas.Overlays.{overlaid_set}
use Rattle.kfs_image_nodes.proofs.name_edits.Overlays.rename.Goals as goal

pub recount-requires-clause-counts : goal.recount-requires-clause-counts
recount-requires-clause-counts g c = λ n is.
    let key = c.args.edit.key in
    (counted_name (names_seen c.args.self.now c.args.names.now) _ _ c.requires.counted key.0 key.1 n (sym c.target-from.ensures ∙ is)).0

pub recount-requires-clause-uplinks : goal.recount-requires-clause-uplinks
recount-requires-clause-uplinks g c = λ n is.
    let key = c.args.edit.key in
    (counted_name (names_seen c.args.self.now c.args.names.now) _ _ c.requires.counted key.0 key.1 n (sym c.target-from.ensures ∙ is)).1

pub returns-clause-names : goal.returns-clause-names
returns-clause-names g c =
    overlaid_set (table name_order c.args.names.now) c.args.self.now.names.latest c.set.new.self.latest c.args.edit.key c.args.edit.value c.in_ok-set.ensures

pub returns-clause-named : goal.returns-clause-named
returns-clause-named g c = λ all.
    subst (λ (t : NameTable). AreNames t) (sym (returns-clause-names g c))
    (still_names (names_seen c.args.self.now c.args.names.now) c.args.edit.key.0 c.args.edit.key.1 c.args.edit.value all c.requires.name)

pub returns-clause-counted : goal.returns-clause-counted
returns-clause-counted g c =
    let names = names_seen c.args.self.now c.args.names.now in
    subst (λ (t : NameTable). IsCounted t (counts_seen c.recount.new.self c.args.counts.now) (ways_seen c.recount.new.self c.args.uplinks.now)) (sym (returns-clause-names g c))
    (counted_moved names _ (counts_seen c.recount.new.self c.args.counts.now) _ (ways_seen c.recount.new.self c.args.uplinks.now) c.requires.counted c.args.edit.key c.target-from.result c.args.edit.value c.target-from.ensures c.in_ok-recount.ensures.counts
    c.in_ok-recount.ensures.uplinks c.in_ok-recount.ensures.positive)
