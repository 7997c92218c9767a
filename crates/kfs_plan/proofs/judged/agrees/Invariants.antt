-- All recorded reads agree where those that are left do.
use Rattle.std.proofs.Common.{◌↔◌}
use Rattle.kfs_judge.specs.Views.{client_sight_in, AgreesAlong}
use Rattle.kfs_plan.proofs.judged.agrees.Given as goal

abbrev pub invariant-loop-read : goal.invariant-loop-read
invariant-loop-read g l = record {
  ready : (goal.iterator-loop-read g).can_next l.read-iterator;
  finite : (goal.iterator-loop-read g).is_finite l.read-iterator;
  so : AgreesAlong l.reads.entries (client_sight_in l.view l.client) ↔ AgreesAlong l.read-iterator (client_sight_in l.view l.client);
}
