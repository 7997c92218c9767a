use Rattle.std.proofs.Common.{rules}
use Rattle.kfs_c.proofs.bytes.plan_for.Goals as goal

-- the client whose row the desk has lacks a plan
pub returns-in-Some-clause-none : goal.returns-in-Some-clause-none
returns-in-Some-clause-none c is = (c.in-Some.client.now, search rules, c.plan_of_client.ensures.none is)
