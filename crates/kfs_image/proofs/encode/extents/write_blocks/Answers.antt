use Rattle.std.proofs.Common.{◌+◌, ◌*◌, ◌++◌, sym, ap, ◌∙◌, append_assoc, append-nil, arith}
use Rattle.kfs_model.specs.Limits.{block_size}
use Rattle.kfs_model.specs.Table.{get}
use Rattle.kfs_model.specs.Tree.{content_of}
use Rattle.kfs_model.specs.Device.ShownTree.{shown_tree}
use Rattle.kfs_model.specs.Device.Canonical.{block_of}
use Rattle.kfs_image.specs.Encode.Runs.{part_of}
use Rattle.kfs_image.proofs.EncodeLemmas.RunExtents.{bytes_more}
use Rattle.kfs_image.proofs.encode.extents.write_blocks.Goals as goal

pub loop-index-init : goal.loop-index-init
loop-index-init g c = sym (append-nil c.args.out.now.items)

pub loop-index-preserved : goal.loop-index-preserved
loop-index-preserved g c =
    let run = c.args.run.now in
    let content = content_of (get (shown_tree c.args.image.now).nodes run.number) in
    let old = c.args.out.now.items in
    c.in_ok-write_block.ensures
    ∙ ap (λ text. text ++ block_of content (run.block + c.loop-index.index)) c.loop-index.invariant
    ∙ append_assoc old (part_of content (run.block * block_size) (c.loop-index.index * block_size)) (block_of content (run.block + c.loop-index.index))
    ∙ ap (λ part. old ++ part) (bytes_more content run.block c.loop-index.index)

pub returns : goal.returns
returns g c =
    let run = c.args.run.now in
    let content = content_of (get (shown_tree c.args.image.now).nodes run.number) in
    c.loop-index.invariant ∙ ap (λ count. c.args.out.now.items ++ part_of content (run.block * block_size) (count * block_size)) {x = c.loop-index.index} {y = run.more + 1} (omega (arith, c.loop-index-test.false))
