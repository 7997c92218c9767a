use Rattle.std.proofs.Common.{◌-◌, take, ap, ◌∙◌, arith}
use Rattle.std.proofs.lemmas.List.{take-replicate, drop-replicate}
use Rattle.kfs_desk.proofs.fill.bytes.zeros.Goals as goal

pub returns : goal.returns
returns c =
    ap (take (c.args.end - c.args.first)) (drop-replicate c.args.first 4096 0)
    ∙ take-replicate (c.args.end - c.args.first) (4096 - c.args.first) 0 (omega (arith, c.requires.within))
