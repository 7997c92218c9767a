use Rattle.std.proofs.Common.{sym, ◌∙◌, arith}
use Rattle.std.proofs.lemmas.List.{get_or-take, length-take-le}
use Rattle.std.proofs.lemmas.Option.{unwrap_or-slice_get}
use Rattle.kfs_desk.proofs.fill.bytes.front_block.Goals as goal

pub returns : goal.returns
returns c =
    let bytes = c.args.bytes.now in
    let long = length-take-le 4096 bytes c.if-bytes-lt-BLOCK_LEN.false in
    (long, λ k below. get_or-take 4096 bytes k 0 (omega (arith, below, long)) ∙ sym (unwrap_or-slice_get bytes k 0))
