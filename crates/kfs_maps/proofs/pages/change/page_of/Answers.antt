use Rattle.std.proofs.Common.{rules}
use Rattle.kfs_maps.specs.Pages.Edits.{page_of}
use Rattle.kfs_maps.proofs.pages.change.page_of.Goals as goal

pub returns : goal.returns
unfolding page_of
returns c = search rules
