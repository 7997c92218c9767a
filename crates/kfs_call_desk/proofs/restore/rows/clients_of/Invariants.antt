use Rattle.std.proofs.Common.{◌≡◌, None, map, take}
use Rattle.kfs_call.specs.StateViews.{client_shown}
use Rattle.kfs_call_desk.specs.Restore.Restored.{clients_refusal}
use Rattle.kfs_call_desk.proofs.restore.rows.clients_of.Given as goal

abbrev pub invariant-loop-index : goal.invariant-loop-index
invariant-loop-index g l = record {
  clients : l.clients.items ≡ map client_shown (take l.index l.rows);
  none : clients_refusal (map client_shown (take l.index l.rows)) ≡ None;
}
