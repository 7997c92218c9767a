use Rattle.kfs_lease.proofs.ListLemmas.OneList.{one_list}
use Rattle.kfs_lease.proofs.ListLemmas.LastRow.{last_decides}
use Rattle.kfs_lease.proofs.ListLemmas.Faultless.{faultless_lawful}
use Rattle.kfs_lease.proofs.ListLemmas.Lawful.{lawful_faultless, listed_faultless}
use Rattle.kfs_lease.proofs.laws.rows_are_let_in_where_lawful.Goals as goal

pub returns-clause-only : goal.returns-clause-only
returns-clause-only c = faultless_lawful

pub returns-clause-each : goal.returns-clause-each
returns-clause-each c = lawful_faultless

pub returns-clause-last : goal.returns-clause-last
returns-clause-last c = last_decides

pub returns-clause-once : goal.returns-clause-once
returns-clause-once c = one_list

pub returns-clause-back : goal.returns-clause-back
returns-clause-back c = listed_faultless
