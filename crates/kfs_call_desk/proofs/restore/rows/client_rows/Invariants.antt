use Rattle.std.proofs.Common.{◌≡◌, All, map, take}
use Rattle.kfs_call.specs.StateRows.{IsClientRow}
use Rattle.kfs_call.specs.StateViews.{client_shown}
use Rattle.kfs_call_desk.proofs.restore.rows.client_rows.Given as goal

abbrev pub invariant-loop-client : goal.invariant-loop-client
invariant-loop-client g l = record {
  rows : map client_shown l.rows.items ≡ take l.client-index l.clients;
  fit : All IsClientRow (take l.client-index l.clients);
}
