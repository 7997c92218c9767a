use Rattle.std.proofs.Common.{All, take}
use Rattle.kfs_model.specs.Spelling.{IsName}
use Rattle.kfs_image.proofs.raw.spelled.tell_names.Given as goal

abbrev pub invariant-loop-row : goal.invariant-loop-row
invariant-loop-row l = All (λ row. IsName row.name) (take l.row-index l.rows)
