use Rattle.std.proofs.Common.{rules}
use Rattle.kfs_shared.proofs.TurnsLemmas.Steps.{opens_at}
use Rattle.kfs_shared.proofs.pass.Shared.new.Goals as goal

pub new-requires : goal.new-requires
new-requires g c = opens_at _ _ _ _ _ c.args.object _ c.args.first _ _ (search rules) (search rules) (search rules) (search rules) (search rules) (search rules)
