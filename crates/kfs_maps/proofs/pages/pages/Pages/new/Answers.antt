use Rattle.std.proofs.Common.{◌*◌}
use Rattle.kfs_maps.specs.Pages.Groups.{all_held, flat}
use Rattle.kfs_maps.proofs.PagesLemmas.Groups.{blank_count, blank_whole, blank_groups}
use Rattle.kfs_maps.proofs.PagesLemmas.Tables.{placed_blank, table_none}
use Rattle.kfs_maps.proofs.pages.pages.Pages.new.Goals as goal

pub invariant_of-result : goal.invariant_of-result
invariant_of-result g c =
    let groups = c.in_ok-nothing.field-0.items in
    let none = c.in_ok-nothing.ensures in
    (blank_count groups 32 none, blank_whole groups 32 none, placed_blank (flat (all_held groups)) (32 * 32) (blank_groups groups 32 none))

pub returns : goal.returns
returns g c =
    let groups = c.in_ok-nothing.field-0.items in
    table_none (flat (all_held groups)) (32 * 32) (blank_groups groups 32 c.in_ok-nothing.ensures)
