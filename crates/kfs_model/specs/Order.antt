-- When a state is in order. Each step of the machine keeps this.
use Rattle.std.specs.Prelude.{ℕ, is_some, IsTrue}
use Rattle.std.specs.List.{AllByRecursion}
use Rattle.kfs_model.specs.Access.{ClientsAreDistinct}
use Rattle.kfs_model.specs.Table.{get}
use Rattle.kfs_model.specs.Lease.{AreCompatible}
use Rattle.kfs_model.specs.Tree.{headers}
use Rattle.kfs_model.specs.Soundness.{IsSound}
use Rattle.kfs_model.specs.CleanStep.{IsClient}
use Rattle.kfs_model.specs.Placement.{IsPlacement}
use Rattle.kfs_model.specs.Judgement.{State}

-- The tree is sound. Each lease is on a node, and no two live leases conflict. Clients are in range and
-- have different numbers. Each block of a file has a place of its own.
pub record IsInOrder (s : State) : Type 0 where
  pub sound : IsSound s.tree
  pub on_nodes : (client number : ℕ) → IsTrue (is_some (get s.leases.rows (client, number))) → IsTrue (is_some (get (headers s.tree) number))
  pub compatible : AreCompatible s.leases
  pub distinct : ClientsAreDistinct s.clients
  pub clients : AllByRecursion IsClient s.clients
  pub placement : IsPlacement s.sizes (get (headers s.tree)) s.placement
