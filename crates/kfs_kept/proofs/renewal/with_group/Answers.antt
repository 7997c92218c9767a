use Rattle.kfs_kept.specs.Renewing.{IsUnderWay}
use Rattle.kfs_kept.proofs.UnderWay.{at_some, one_more}
use Rattle.kfs_kept.proofs.renewal.with_group.Goals as goal

pub returns-in-Ok-clause-under_way : goal.returns-in-Ok-clause-under_way
returns-in-Ok-clause-under_way g c = λ files journal s t u leads.
    let r = c.in_ok-renewal.renewal in
    one_more files journal r c.push_record.new.records s t c.args.group.now (at_some (λ r. IsUnderWay files journal r s) c.args.renewal r c.in_ok-renewal.was u) leads c.requires c.in-Ok.ensures
