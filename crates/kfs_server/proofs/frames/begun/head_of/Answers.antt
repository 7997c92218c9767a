use Rattle.std.proofs.Common.{arith}
use Rattle.kfs_server.proofs.FramesLemmas.Heads.{head_is}
use Rattle.kfs_server.proofs.frames.begun.head_of.Goals as goal

pub returns-clause-head : goal.returns-clause-head
returns-clause-head c =
    head_is c.args.bytes.now _ _ _ (λ i. omega (arith, c.type_inv.bytes i)) c.in-len12.len_at_least c.in-len12.len_below c.from_be_bytes.ensures c.from_be_bytes-2.ensures c.from_be_bytes-3.ensures
