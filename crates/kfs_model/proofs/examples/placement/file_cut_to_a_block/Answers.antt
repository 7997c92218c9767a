-- By computation over 5,000 bytes, which is too long for a search.
use native.Mathlib.Decide.{ℕ_discrete}
use Rattle.std.proofs.Common.{refl}
use Rattle.kfs_model.specs.Examples.Example.{computing}
use Rattle.kfs_model.proofs.examples.placement.file_cut_to_a_block.Goals as goal

pub returns : goal.returns
unfolding computing ℕ_discrete
returns c = refl
