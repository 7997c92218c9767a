use Rattle.std.proofs.Common.{refl}
use Rattle.kfs_model.proofs.CanonicalLemmas.FittingRows.{fitting_rows}
use Rattle.kfs_model.proofs.canonical.laws.spelling_is_read.Goals as goal

pub returns : goal.returns
returns c = λ image lawful. (fitting_rows image lawful, refl)
