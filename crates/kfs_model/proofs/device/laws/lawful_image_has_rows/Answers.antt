use Rattle.kfs_model.proofs.DeviceLemmas.ListedTree.{rows_are}
use Rattle.kfs_model.proofs.device.laws.lawful_image_has_rows.Goals as goal

pub returns : goal.returns
returns c = rows_are
