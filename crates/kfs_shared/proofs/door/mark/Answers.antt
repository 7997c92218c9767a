use Rattle.std.proofs.Common.{rules}
use Rattle.std.specs.Prelude.{bit_or}
use Rattle.kfs_shared.proofs.TurnsLemmas.Steps.{marks}
use Rattle.kfs_shared.proofs.door.mark.Goals as goal

pub fetch_or-found-requires : goal.fetch_or-found-requires
fetch_or-found-requires g c = (search rules, search rules, marks _ _ _ _ _ _ _ _ _ (λ n. bit_or n 1) c.requires.word.0)
