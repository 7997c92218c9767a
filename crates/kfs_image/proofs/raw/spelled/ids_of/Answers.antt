use Rattle.kfs_image.proofs.raw.spelled.ids_of.Goals as goal

pub returns : goal.returns
returns c = (c.in_range.ensures, c.in_range-2.ensures)
