use Rattle.std.proofs.Common.{◌∙◌, max}
use Rattle.rayon.specs.Lists.{windows_of}
use Rattle.kfs_fsck.proofs.LeastOfParts.{of_pairs}
use Rattle.kfs_fsck.proofs.parts.least_of_pairs.Goals as goal

pub returns : goal.returns
returns g c =
    let done = c.least_of.ensures in
    let chain = rw (c.map.ensures.base, c.map.ensures.f) at done.1 in
    done.2 ∙ of_pairs c.args.rows.now chain.0 (chain.1 ∙ (λ i. windows_of (max (c.par_windows.ensures.size i) 1) (c.par_windows.ensures.slice i))) done.0 chain.2
