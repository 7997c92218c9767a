-- The parts of a view of a state.
use Rattle.std.specs.Prelude.{ℕ, List}
use Rattle.kfs_model.specs.Access.{Client}
use Rattle.kfs_model.specs.Lease.{Leases, holds}
use Rattle.kfs_model.specs.Sight.{ClientSight}
use Rattle.kfs_image_nodes.specs.Contents.{Contents, sight_of}
use Rattle.kfs_judge_reads.specs.declared.view.View.{View}

module _ {A : Type 0} where
  -- the nodes and names
  abbrev pub contents_of : View A → Contents
  contents_of view = view.shape.value

  abbrev pub leases_of : View A → Leases
  leases_of view = view.leases.value

  -- the rows of the clients
  abbrev pub clients_of : View A → List Client
  clients_of view = view.clients.value.items

  -- what the client with this number sees
  abbrev pub client_sight_in : View A → (client : ℕ) → ClientSight
  client_sight_in view client = record { sight = sight_of (contents_of view); held = holds (leases_of view) client }
