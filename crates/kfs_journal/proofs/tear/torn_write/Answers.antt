use Rattle.std.proofs.lemmas.Result.{IfOk-weaker}
use Rattle.kfs_journal.proofs.TornCalls.{torn_taken}
use Rattle.kfs_journal.proofs.tear.torn_write.Goals as goal

pub returns-in-Half : goal.returns-in-Half
returns-in-Half c = IfOk-weaker c.written-in-Half.result _ _ (λ new is. torn_taken c.args.at _ c.args.bytes.now c.args.file.now new.items is) c.written-in-Half.ensures
