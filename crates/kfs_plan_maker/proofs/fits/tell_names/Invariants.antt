use Rattle.std.proofs.Common.{All, take}
use Rattle.kfs_model.specs.Spelling.{IsNameRow}
use Rattle.kfs_types.specs.Views.{name_row_of}
use Rattle.kfs_plan_maker.proofs.fits.tell_names.Given as goal

abbrev pub invariant-loop-row : goal.invariant-loop-row
invariant-loop-row l = All (λ row. IsNameRow (name_row_of row)) (take l.row-index l.rows)
