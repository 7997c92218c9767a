-- Names before nodes before pieces: the first search that finds a row tells it.
use Rattle.std.proofs.Common.{map, Some, None, Ok, Err, sym, ap, subst, ◌∙◌}
use Rattle.kfs_pieces.specs.PiecesApart.{first_apart}
use Rattle.kfs_model.specs.Run.{run, over_marks, marked}
use Rattle.kfs_model.specs.Placement.{need}
use Rattle.kfs_model.proofs.Ends.{each_end}
use Rattle.kfs_types.specs.Views.{entry_of, piece_of}
use Rattle.kfs_image_nodes.specs.Lent.{net_in, rows_in}
use Rattle.kfs_pieces.specs.Sizes.{AreRightFrom, AreSizes, AreSwept}
use Rattle.kfs_pieces.proofs.LogMade.{of_value}
use Rattle.kfs_plan.specs.PlanCheck.{TellsRow, first_unlike}
use Rattle.kfs_plan.specs.declared.rows.RowFault.TheVariants as faults
use Rattle.kfs_plan.proofs.RowsCompared.{name_found, node_found, piece_found, unlike-name, unlike-node, unlike-piece}
use Rattle.kfs_plan.proofs.rows.check_rows.Goals as goal

pub returns-in-Some : goal.returns-in-Some
returns-in-Some g c source within client before tree opens =
    let entries = map (entry_of source) c.args.log.now.entries in
    let net = net_in c.args.net in
    let plan = c.args.plan.now in
    let row = c.in-Some.row in
    each_end (run over_marks client before (marked tree) entries) (λ after. AreSizes tree entries after c.args.sizes.now → TellsRow (first_unlike net after plan) (need after) (Err (faults.Names row))) (λ after ran all.
    unlike-name net plan after row
    (name_found net plan c.as_slice.result.now (rows_in c.names.result) c.first_name_apart.result (Some row) c.as_slice.ensures c.names.ensures c.first_name_apart.ensures c.in-Some.is))

pub returns-in-Some-first_difference : goal.returns-in-Some-first_difference
returns-in-Some-first_difference g c source within client before tree opens =
    let entries = map (entry_of source) c.args.log.now.entries in
    let net = net_in c.args.net in
    let plan = c.args.plan.now in
    let row = c.in-Some-first_difference.row in
    each_end (run over_marks client before (marked tree) entries) (λ after. AreSizes tree entries after c.args.sizes.now → TellsRow (first_unlike net after plan) (need after) (Err (faults.Nodes row))) (λ after ran all.
    unlike-node net plan after row
    (name_found net plan c.as_slice.result.now (rows_in c.names.result) c.first_name_apart.result None c.as_slice.ensures c.names.ensures c.first_name_apart.ensures c.in_default.is)
    (node_found net plan c.as_slice-2.result.now c.as_slice-3.result.now c.first_difference.result (Some row) c.as_slice-2.ensures (c.as_slice-3.ensures.value ∙ ap (λ rows. rows.items) c.nodes.ensures) c.first_difference.ensures c.in-Some-first_difference.is))

pub returns-in-Some-first_piece_apart : goal.returns-in-Some-first_piece_apart
returns-in-Some-first_piece_apart g c source within client before tree opens =
    let entries = map (entry_of source) c.args.log.now.entries in
    let sizes = c.args.sizes.now in
    let net = net_in c.args.net in
    let plan = c.args.plan.now in
    let right = c.in_ok-right.right.items in
    let row = c.in-Some-first_piece_apart.row in
    let pieces = subst (λ es. AreRightFrom sizes es (map piece_of right)) c.as_slice-4.ensures c.in_ok-right.ensures.right in
    each_end (run over_marks client before (marked tree) entries) (λ after. AreSizes tree entries after sizes → TellsRow (first_unlike net after plan) (need after) (Err (faults.Pieces row))) (λ after ran all.
    let swept = of_value (λ end. AreSizes tree entries end sizes → AreSwept sizes end (map piece_of right)) (run over_marks client before (marked tree) entries) after ran (pieces source within client before tree opens) all in
    unlike-piece net plan after (Some row)
    (name_found net plan c.as_slice.result.now (rows_in c.names.result) c.first_name_apart.result None c.as_slice.ensures c.names.ensures c.first_name_apart.ensures c.in_default.is)
    (node_found net plan c.as_slice-2.result.now c.as_slice-3.result.now c.first_difference.result None c.as_slice-2.ensures (c.as_slice-3.ensures.value ∙ ap (λ rows. rows.items) c.nodes.ensures) c.first_difference.ensures c.in_default-first_difference.is)
    (piece_found net plan after c.as_slice-5.result.now right c.first_piece_apart.result (Some row) c.as_slice-5.ensures swept.right (c.first_piece_apart.ensures ∙ ap (λ rs. first_apart 0 (map piece_of c.as_slice-5.result.now) (map piece_of rs)) c.as_slice-6.ensures.value) c.in-Some-first_piece_apart.is))

pub returns : goal.returns
returns g c source within client before tree opens =
    let entries = map (entry_of source) c.args.log.now.entries in
    let sizes = c.args.sizes.now in
    let net = net_in c.args.net in
    let plan = c.args.plan.now in
    let right = c.in_ok-right.right.items in
    let pieces = subst (λ es. AreRightFrom sizes es (map piece_of right)) c.as_slice-4.ensures c.in_ok-right.ensures.right in
    each_end (run over_marks client before (marked tree) entries) (λ after. AreSizes tree entries after sizes → TellsRow (first_unlike net after plan) (need after) (Ok c.need_of.result)) (λ after ran all.
    let swept = of_value (λ end. AreSizes tree entries end sizes → AreSwept sizes end (map piece_of right)) (run over_marks client before (marked tree) entries) after ran (pieces source within client before tree opens) all in (
      unlike-piece net plan after None
          (name_found net plan c.as_slice.result.now (rows_in c.names.result) c.first_name_apart.result None c.as_slice.ensures c.names.ensures c.first_name_apart.ensures c.in_default.is)
          (node_found net plan c.as_slice-2.result.now c.as_slice-3.result.now c.first_difference.result None c.as_slice-2.ensures (c.as_slice-3.ensures.value ∙ ap (λ rows. rows.items) c.nodes.ensures) c.first_difference.ensures c.in_default-first_difference.is)
          (piece_found net plan after c.as_slice-5.result.now right c.first_piece_apart.result None c.as_slice-5.ensures swept.right (c.first_piece_apart.ensures ∙ ap (λ rs. first_apart 0 (map piece_of c.as_slice-5.result.now) (map piece_of rs)) c.as_slice-6.ensures.value) c.in_default-first_piece_apart.is),
      c.need_of.ensures after (subst (λ rs. AreSwept sizes after (map piece_of rs)) (sym c.as_slice-7.ensures.value) swept),
    ))
