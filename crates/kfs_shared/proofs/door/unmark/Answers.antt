use Rattle.std.proofs.Common.{rules, ◌+◌, ◌%◌}
use Rattle.kfs_shared.proofs.TurnsLemmas.Steps.{marks}
use Rattle.kfs_shared.proofs.door.unmark.Goals as goal

pub fetch_add-requires : goal.fetch_add-requires
fetch_add-requires g c = (search rules, search rules, marks _ _ _ _ _ _ _ _ _ (λ n. (n + 1) % 18446744073709551616) c.requires.word.0)
