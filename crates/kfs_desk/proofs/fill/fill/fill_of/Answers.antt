use Rattle.std.proofs.Common.{◌≡◌, length, take, sym, ap, ◌∙◌, subst, arith}
use Rattle.kfs_model.specs.Device.ShownTree.{shown_tree}
use Rattle.kfs_image.specs.Tier.Unused.{unused_places}
use Rattle.kfs_desk.specs.Fill.Bytes.{BlocksAscend, entries_of, pieces_of}
use Rattle.kfs_desk.specs.Fill.Fill.{AreRowsOf}
use Rattle.kfs_desk.proofs.FillLemmas.FileBlocks.{ascend_take, by_number}
use Rattle.kfs_desk.proofs.FillLemmas.FilledLogs.{is_fill}
use Rattle.kfs_desk.proofs.fill.fill.fill_of.Goals as goal

pub file_blocks-requires-clause-order : goal.file_blocks-requires-clause-order
file_blocks-requires-clause-order g c = by_number c.args.log.now.pieces.now c.requires.pieces

pub block_rows-requires-clause-blocks : goal.block_rows-requires-clause-blocks
block_rows-requires-clause-blocks g c =
    subst (λ blocks. BlocksAscend (take c.len-2.result blocks)) (sym c.deref.ensures.value) (ascend_take c.len-2.result c.in_ok-blocks.blocks.written.items c.in_ok-blocks.ensures.order)

pub returns : goal.returns
returns g c =
    let image = c.args.image.now in
    let log = c.args.log.now in
    let blocks = c.in_ok-blocks.blocks.written in
    let places = c.in_ok-places.places in
    let rows = c.in_ok-rows.rows.items in
    let all : c.len.result ≡ length blocks.items = omega (arith, c.len.ensures, blocks.ok.0) in
    let few : c.len-2.result ≡ length places.items = omega (arith, c.len-2.ensures, places.ok.0) in
    is_fill image log c.args.nodes.now blocks.items places.items (record { rows = c.in_ok-rows.rows; zero = c.in_ok-blocks.blocks.zero }) c.in_ok-blocks.ensures.written c.in_ok-blocks.ensures.zero
    (c.in_ok-places.ensures ∙ ap (λ n. take n (unused_places image.sizes image.placement 0)) all)
    (subst (λ ps. AreRowsOf (shown_tree image) (entries_of log) (pieces_of log) (take (length places.items) blocks.items) ps rows) c.as_slice.ensures.value
    (subst (λ n. AreRowsOf (shown_tree image) (entries_of log) (pieces_of log) (take n blocks.items) c.as_slice.result.now rows) few
    (subst (λ bs. AreRowsOf (shown_tree image) (entries_of log) (pieces_of log) (take c.len-2.result bs) c.as_slice.result.now rows) c.deref.ensures.value c.in_ok-rows.ensures)))
