use Rattle.kfs_entry.proofs.LogsRead.{entries_stop}
use Rattle.kfs_entry.proofs.decoding.log_in.Goals as goal

pub returns-in_err-entries-clause-found : goal.returns-in_err-entries-clause-found
returns-in_err-entries-clause-found g c =
    let header = c.in-Some.ensures.found in
    entries_stop c.args.source.now _ c.in-Some.header.client _ _ header.0 header.1 _ c.from_residual.result c.in_err-entries.ensures.missing c.from_residual.ensures.1
