use Rattle.kfs_model.proofs.MovedBlocks.{laid_after, placed_after}
use Rattle.kfs_model.proofs.laws.moves_keep_blocks_apart.Goals as goal

pub returns-clause-laid : goal.returns-clause-laid
returns-clause-laid c = laid_after

pub returns-clause-of_files : goal.returns-clause-of_files
returns-clause-of_files c = placed_after
