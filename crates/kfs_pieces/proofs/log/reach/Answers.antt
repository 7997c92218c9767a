use Rattle.std.proofs.Common.{◌≤◌, ◌+◌, subst, arith}
use Rattle.kfs_model.specs.Limits.{payload_limit, size_limit}
use Rattle.kfs_types.specs.Views.{IsSpanned}
use Rattle.kfs_pieces.proofs.SizeOrder.{size_is_short}
use Rattle.kfs_pieces.proofs.log.reach.Goals as goal

pub returns-in-Write-clause-fit : goal.returns-in-Write-clause-fit
returns-in-Write-clause-fit c =
    let limit = size_is_short c.args.sizes.now c.in-Write.number c.requires.sizes in
    let span = subst IsSpanned c.in-Write.is c.requires.span in
    let first = span.0 in
    let last = span.1 in
    let size = c.size_after.ensures in
    let end = c.saturating_add-end.ensures in
    let least = c.min.ensures in
    record {
      end = (let short : c.min.result ≤ size_limit = omega arith in short);
      placed = ((let same : c.in-Write.offset ≤ c.in-Write.offset = omega arith in same), (let within : c.min.result ≤ c.in-Write.offset + payload_limit = omega arith in within));
    }

pub returns-in-Truncate-clause-fit : goal.returns-in-Truncate-clause-fit
returns-in-Truncate-clause-fit c =
    let limit = size_is_short c.args.sizes.now c.in-Truncate.number c.requires.sizes in
    let size = c.size_after-in-Truncate.ensures in
    record { end = (let short : c.size_after-in-Truncate.result ≤ size_limit = omega arith in short); placed = tt }
