use Rattle.kfs_model.proofs.DeviceLemmas.OneImageAnswer.{one_image_answer}
use Rattle.kfs_model.proofs.DeviceLemmas.ImageAnswers.{image_has_answer, raw_image_spelled}
use Rattle.kfs_model.proofs.device.laws.bytes_have_one_reading.Goals as goal

pub returns-clause-exists : goal.returns-clause-exists
returns-clause-exists c = image_has_answer

pub returns-clause-is_one : goal.returns-clause-is_one
returns-clause-is_one c = one_image_answer

pub returns-clause-spelled : goal.returns-clause-spelled
returns-clause-spelled c = raw_image_spelled
