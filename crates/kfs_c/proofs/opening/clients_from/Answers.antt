use Rattle.std.proofs.Common.{◌++◌, ◌∷◌, [], All, map, false, ap, subst, ◌∙◌, slice_index_or}
use Rattle.std.proofs.lemmas.List.{take_all}
use Rattle.std.proofs.lemmas.List.Elements.{All-nil, All-more}
use Rattle.kfs_maps.proofs.ChunksLemmas.InOrder.{one_made, all_made}
use Rattle.kfs_image_nodes.proofs.NodeEdits.{rows_left}
use Rattle.kfs_c.specs.Opening.{AreRowsRefused, IsRowRight, client_of}
use Rattle.kfs_c.specs.declared.numbers.ClientRow.{ClientRow}
use Rattle.kfs_c.proofs.Refusals.{passed_on, row_refused}
use Rattle.kfs_c.proofs.opening.clients_from.Goals as goal

abbrev none : ClientRow
none = record { number = 0; uid = 0; gid = 0; first = 0; last = 0; groups_start = 0; groups_count = 0; privileged = false }

pub loop-index-init : goal.loop-index-init
loop-index-init c = record { made = ap (λ made. made ++ map (client_of c.args.groups.now) c.args.rows.now) c.new-clients.ensures.items; right = All-nil (IsRowRight c.args.groups.now) }

pub loop-index-preserved : goal.loop-index-preserved
loop-index-preserved c =
    let rows = c.args.rows.now in
    let i = c.loop-index.index in
    let made = c.loop-index.clients.items in
    record {
      made =
          one_made (client_of c.args.groups.now) rows i _ made c.add.new.clients.items _ (rows_left rows i none c.loop-index-test.true)
          (c.in_ok-add.ensures.added ∙ ap (λ client. made ++ client ∷ []) c.in_ok-client.ensures.made) c.loop-index.invariant.made;
      right = All-more (IsRowRight c.args.groups.now) rows i none c.loop-index-test.true c.loop-index.invariant.right c.in_ok-client.ensures.right;
    }

pub returns-in_err-client-clause-refused : goal.returns-in_err-client-clause-refused
returns-in_err-client-clause-refused c =
    let rows = c.args.rows.now in
    let i = c.loop-index.index in
    passed_on (AreRowsRefused c.args.groups.now rows) _ c.from_residual.result c.from_residual.ensures.1
    (row_refused c.args.groups.now rows i (slice_index_or rows i none) _ c.loop-index-test.true (rows_left rows i none c.loop-index-test.true) c.loop-index.invariant.right c.in_err-client.ensures.refused)

pub returns-clause-made : goal.returns-clause-made
returns-clause-made c =
    all_made (client_of c.args.groups.now) c.args.rows.now c.loop-index.index c.loop-index.clients.items _ c.loop-index-test.false c.loop-index.invariant.made

pub returns-clause-right : goal.returns-clause-right
returns-clause-right c = subst (All (IsRowRight c.args.groups.now)) (take_all c.loop-index.index c.args.rows.now c.loop-index-test.false) c.loop-index.invariant.right
