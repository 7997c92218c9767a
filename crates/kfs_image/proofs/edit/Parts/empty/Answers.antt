use Rattle.kfs_image.proofs.EditedImages.{nothing_edited}
use Rattle.kfs_image.proofs.edit.Parts.empty.Goals as goal

pub returns : goal.returns
returns g c = nothing_edited (record { names = c.new.result; nodes = c.new-2.result; block_places = c.new-3.result; written = c.new-4.result }) c.new.ensures.items c.new-2.ensures.items c.new-3.ensures c.new-4.ensures.items
