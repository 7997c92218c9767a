use Rattle.kfs_maps.proofs.PagesLemmas.Numbers.{numbered-none}
use Rattle.std.proofs.Common.{◌+◌, ◌*◌}
use Rattle.kfs_maps.proofs.pages.page.Page.blank.Goals as goal

pub returns : goal.returns
returns g c =
    let none = numbered-none (64 * c.args.index + 1) c.loop.values.items (λ k below. c.loop.invariant.1 k) in
    λ i. record { index = c.args.index; values = none i }
