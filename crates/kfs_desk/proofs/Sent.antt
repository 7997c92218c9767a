-- A desk may go from thread to thread, where its allocator may and any thread may give a block back: all that it is made of may.
use Rattle.std.proofs.Common.{rules}
use denote.RattleType.{RattleType}
use denote.Param.Send.{Frees, IsSend, IsSync, sendable, view_send}
use denote.Param.SendFields.{declared_send}
use Rattle.std.specs.declared.alloc.Allocator.{Ghosts}
use Rattle.std.proofs.CrossingOver.{crosses}
use Rattle.std.specs.contracts.sync.Arc as Arc
use Rattle.std.specs.contracts.vec.Vec as Vec
use Rattle.kfs_mode.specs.contracts.client.Client as Client
use Rattle.kfs_mode.proofs.client.Client.TheSendSync as client
use Rattle.kfs_image.specs.contracts.image.Image as Image
use Rattle.kfs_image.proofs.image.Image.TheSendSync as image
use Rattle.kfs_lease.specs.contracts.leases.Leases as Leases
use Rattle.kfs_lease.proofs.leases.Leases.TheSendSync as leases
use Rattle.kfs_desk.specs.contracts.history.docket.Docket as Docket
use Rattle.kfs_desk.specs.contracts.state_change.ShownState as ShownState
use Rattle.kfs_desk.specs.contracts.desk.Desk as Desk

docket_send : IsSend Docket.the_row
docket_send = search rules depth 40 fits 4000

module _ (A : RattleType) (ghosts : Ghosts A.Denot) (send : IsSend A) (sync : IsSync A) (frees : Frees ghosts ghosts.dealloc_token) where
  image_send : IsSend (Image.the_row A ghosts)
  image_send = image.the_send A ghosts send sync frees

  leases_send : IsSend (Leases.the_row A ghosts)
  leases_send = leases.the_send A ghosts send sync frees

  leases_sync : IsSync (Leases.the_row A ghosts)
  leases_sync = leases.the_sync A ghosts send sync frees

  rows_send : IsSend (Vec.the_row Client.the_row A ghosts)
  rows_send = search (crosses, client.the_send) depth 6

  rows_sync : IsSync (Vec.the_row Client.the_row A ghosts)
  rows_sync = search (crosses, client.the_sync) depth 6

  clients_send : IsSend (Arc.the_row (Vec.the_row Client.the_row A ghosts) A ghosts)
  clients_send = search (crosses, rows_send, rows_sync) depth 6

  held_send : IsSend (Arc.the_row (Leases.the_row A ghosts) A ghosts)
  held_send = search (crosses, leases_send, leases_sync) depth 6

  -- the opening state has no bytes
  opening_send : IsSend (ShownState.the_row A ghosts)
  opening_send = search rules depth 40 fits 4000

  -- the parts of a desk in the order of its fields: allocator, image, clients, leases, opening, docket, limit
  pub desk_send : IsSend (Desk.the_row A ghosts)
  desk_send =
      view_send _ _ _ _ _ (declared_send (Desk.TheInside.the_type A ghosts)
      (search (sendable, send) depth 6, (image_send, (clients_send, (held_send, (opening_send, (docket_send, (search sendable depth 6, tt))))))))
