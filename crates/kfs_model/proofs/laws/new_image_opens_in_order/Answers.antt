use Rattle.kfs_model.proofs.OrderKept.{fresh_in_order}
use Rattle.kfs_model.proofs.laws.new_image_opens_in_order.Goals as goal

pub returns : goal.returns
returns c = fresh_in_order
