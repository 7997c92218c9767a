-- The calls in front of the rest are made.
use Rattle.std.proofs.Common.{◌≡◌, List, ◌++◌, length}
use Rattle.kfs_model.specs.Judgement.{State}
use Rattle.kfs_model.specs.Spelling.{IsBytes}
use Rattle.kfs_kept.specs.Calls.Group.{CallAndAnswer, IsGroup, group_bytes}
use Rattle.kfs_kept.specs.Calls.Leads.{GroupLeads, LeadOn}
use Rattle.kfs_kept.proofs.calls.again.make_again.Given as goal

abbrev pub invariant-calls : goal.invariant-calls
invariant-calls g l = record {
  led : (done : List CallAndAnswer) × IsGroup done × (l.group ≡ group_bytes done ++ l.rest) × LeadOn l.initial.desk.state done l.desk.state;
  due : (t : State) → GroupLeads l.initial.desk.state l.group t → GroupLeads l.desk.state l.rest t;
  opening : l.desk.opening ≡ l.initial.desk.opening;
  bytes : IsBytes l.rest;
}

abbrev pub decreases-calls : goal.decreases-calls
decreases-calls g l = length l.rest
