use Rattle.std.proofs.Common.{◌≡◌, ◌+◌, ◌-◌, ◌*◌, ◌++◌, take, drop, ap, ◌∙◌, arith}
use Rattle.std.specs.Prelude.{slice_range}
use Rattle.kfs_image.proofs.raw.blocks.block_row.Goals as goal

pub returns-clause-written : goal.returns-clause-written
returns-clause-written g c =
    let start = c.args.index * 4096 in
    let all = c.as_slice-all.result.now in
    let many : start + 4096 - start ≡ 4096 = omega arith in
    let bytes : c.extend_from_slice.new.self.items ≡ take 4096 (drop start c.args.extent.now.bytes.items) =
    c.in_ok-extend_from_slice.ensures.items
    ∙ ap (λ front. front ++ slice_range all start (start + 4096)) c.in_ok-bytes.ensures.items
    ∙ ap (λ n. take n (drop start all)) many
    ∙ ap (λ bytes. take 4096 (drop start bytes)) c.as_slice-all.ensures.value
    in
    λ i. ((c.args.extent.now.extent.tier, c.args.extent.now.extent.place + c.args.index), bytes i)
