use Rattle.std.proofs.Common.{rules}
use Rattle.kfs_shared.proofs.TurnsLemmas.Steps.{splits}
use Rattle.kfs_shared.proofs.pass.Shared.fork.Goals as goal

pub split_seat-seat-requires : goal.split_seat-seat-requires
split_seat-seat-requires g c = (search rules, search rules, splits _ _ _ _ _ _ _)
