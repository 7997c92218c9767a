use Rattle.kfs_model.proofs.DeviceLemmas.SoundImage.{cells_shown, node_rows, name_rows}
use Rattle.kfs_model.proofs.device.laws.rows_are_headers_and_names.Goals as goal

pub returns-clause-nodes : goal.returns-clause-nodes
returns-clause-nodes c = node_rows

pub returns-clause-names : goal.returns-clause-names
returns-clause-names c = name_rows

pub returns-clause-cells : goal.returns-clause-cells
returns-clause-cells c = cells_shown
