use Rattle.std.proofs.Common.{refl}
use Rattle.kfs_server.proofs.serving.merging.first_reply.Goals as goal

pub returns-clause-reply : goal.returns-clause-reply
returns-clause-reply c = rw c.in-Some.ensures.cases.0 (c.reply_to.ensures, refl)
