use Rattle.kfs_maps.proofs.PagesLemmas.Groups.{blank_pages}
use Rattle.kfs_maps.proofs.pages.page.Group.blank.Goals as goal

pub returns : goal.returns
returns g c = blank_pages c.in_ok-nothing.field-0.items c.in_ok-nothing.ensures
