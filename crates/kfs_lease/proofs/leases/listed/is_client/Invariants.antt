use Rattle.std.proofs.Common.{◌≡◌, ◌==◌, false, take}
use Rattle.std.specs.List.{list_any}
use Rattle.kfs_model.specs.Access.{Client}
use Rattle.kfs_lease.proofs.leases.listed.is_client.Given as goal

-- no client so far has the number
abbrev pub invariant-loop-client : goal.invariant-loop-client
invariant-loop-client l = list_any (λ (row : Client). row.number == l.number) (take l.client-index l.clients) ≡ false
