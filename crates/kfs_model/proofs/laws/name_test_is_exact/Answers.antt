use Rattle.kfs_model.proofs.NameTest.{is_name_sound, is_name_true}
use Rattle.kfs_model.proofs.laws.name_test_is_exact.Goals as goal

pub returns-clause-found : goal.returns-clause-found
returns-clause-found c name passes = is_name_sound name passes

pub returns-clause-only : goal.returns-clause-only
returns-clause-only c name is = is_name_true name is
