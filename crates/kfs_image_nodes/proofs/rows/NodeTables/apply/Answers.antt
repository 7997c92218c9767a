use Rattle.std.proofs.Common.{◌≡◌, Ok, Err, sym, ap, subst, ◌∙◌}
use Rattle.std.specs.Prelude.{OnOk, OnErr}
use Rattle.kfs_model.specs.Tree.{NameTable, name_order}
use Rattle.kfs_maps.specs.Pages.Edits.{rewritten}
use Rattle.kfs_maps.specs.Chunks.Edits as keyed
use Rattle.kfs_maps.specs.Chunks.Tables.{table}
use Rattle.kfs_image_nodes.specs.Change.{renamed, reheaded}
use Rattle.kfs_image_nodes.specs.Lent.{rows_in}
use Rattle.kfs_image_nodes.specs.Indexes.{by_node, AreInPages}
use Rattle.kfs_image_nodes.specs.Rows.{heads_of, heads_in, names_in, CountsAreExact}
use Rattle.kfs_image_nodes.proofs.EditedRows.{edited_indexed}
use Rattle.kfs_image_nodes.proofs.NodeEdits.{heads_made}
use Rattle.kfs_image_nodes.proofs.rows.NodeTables.apply.Goals as goal

pub returns-clause-indexed : goal.returns-clause-indexed
returns-clause-indexed g c =
    let old = c.args.self.now in
    let new = c.change.new.self in
    let edits = c.in_ok-edits.edits in
    let made = c.in_ok-edits.ensures in
    elim c.change.result as (λ r. OnOk r (new.names ≡ keyed.rewritten name_order old.names edits.names.items) → OnOk r (new.counts ≡ rewritten old.counts edits.counts.items) → OnOk r (new.uplinks ≡ keyed.rewritten by_node old.uplinks edits.uplinks.items) → OnErr r (new ≡ old) → CountsAreExact new) [
      | Ok done ↦ λ names counts uplinks kept.
          edited_indexed old new edits c.requires.indexed made.named
          (made.counted c.requires.before.1 (subst (λ (names : NameTable). AreInPages names) (sym made.make) c.requires.after.1))
          names counts uplinks
      | Err e ↦ λ names counts uplinks kept. subst (CountsAreExact {A = g.row.A.Denot}) (sym kept) c.requires.indexed
    ] c.change.ensures.names c.change.ensures.counts c.change.ensures.uplinks c.change.ensures.err

pub returns-clause-headers : goal.returns-clause-headers
returns-clause-headers g c =
    let old = c.args.self.now in
    let new = c.change.new.self in
    let headers = c.headers.result.now in
    let made = c.headers.ensures in
    elim c.change.result as (λ r. OnOk r (new.headers ≡ rewritten old.headers headers) → OnOk r (heads_in new ≡ reheaded (heads_in old) c.args.nodes.now)) [
      | Ok done ↦ λ edited. ap heads_of edited ∙ heads_made old.headers headers c.args.nodes.now made.are made.says c.requires.before.0 c.requires.after.0
      | Err e ↦ λ none. none
    ] c.change.ensures.headers

pub returns-clause-names : goal.returns-clause-names
returns-clause-names g c =
    let old = c.args.self.now in
    let new = c.change.new.self in
    elim c.change.result as (λ r. OnOk r (new.names ≡ keyed.rewritten name_order old.names c.in_ok-edits.edits.names.items) → OnOk r (names_in new ≡ renamed (names_in old) (rows_in c.args.names))) [
      | Ok done ↦ λ edited. ap (table name_order) edited ∙ c.in_ok-edits.ensures.make
      | Err e ↦ λ none. none
    ] c.change.ensures.names
