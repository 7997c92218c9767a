-- The groups so far lead to the desk's state, and the others lead on from it.
use Rattle.std.proofs.Common.{drop, take}
use Rattle.kfs_model.specs.Judgement.{State}
use Rattle.kfs_journal.specs.Journal.{groups_of}
use Rattle.kfs_kept.specs.Calls.Leads.{GroupsLead}
use Rattle.kfs_kept.proofs.opening.make_groups.Given as goal

abbrev pub invariant-loop-index : goal.invariant-loop-index
invariant-loop-index g l = record {
  lead : GroupsLead l.fn.desk.state (groups_of (take l.index l.groups)) l.desk.state;
  due : (t : State) → GroupsLead l.fn.desk.state (groups_of l.groups) t → GroupsLead l.desk.state (groups_of (drop l.index l.groups)) t;
}
