use Rattle.kfs_model.specs.Run.{over_bytes, over_marks}
use Rattle.kfs_model.proofs.SeenRun.{clean_step, bytes_faithful, marks_faithful}
use Rattle.kfs_model.proofs.laws.clean_entry_keeps_tree_sound.Goals as goal

pub returns-clause-of_bytes : goal.returns-clause-of_bytes
returns-clause-of_bytes c = clean_step over_bytes bytes_faithful

pub returns-clause-of_marks : goal.returns-clause-of_marks
returns-clause-of_marks c = clean_step over_marks marks_faithful
