use Rattle.std.proofs.Common.{◌≡◌, length, arith}
use Rattle.kfs_server.proofs.FramesLemmas.Reads.{whole_frame}
use Rattle.kfs_server.proofs.frames.begun.went_on.Goals as goal

pub returns-clause-next : goal.returns-clause-next
returns-clause-next g c = λ part passes kept.
    let all : length part ≡ c.args.head.len = omega (arith, passes, c.requires.within, c.if-passed-head.false) in
    whole_frame c.args.head.len c.args.head.number c.args.head.from part c.args.rest.now c.args.body c.none.result c.requires.fits all kept c.none.ensures.none
