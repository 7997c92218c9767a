-- The desk of the worked sessions: a new image with three tiers of eight blocks, and client 7.
use Rattle.std.specs.Prelude.{ℕ, false, List, [], ◌∷◌, codes, None, Some}
use Rattle.kfs_model.specs.Access.{Client}
use Rattle.kfs_model.specs.Examples.Example.{client_7}
use Rattle.kfs_model.specs.Lease.{WriteLease}
use Rattle.kfs_model.specs.Machine.{Done, Lease, Row, opening}
use Rattle.kfs_model.specs.Placement.{TierSizes}
use Rattle.kfs_model.specs.Table.{empty, insert}
use Rattle.kfs_model.specs.Tree.{NameTable}
use Rattle.kfs_model.specs.Device.ShownTree.{shown_tree}
use Rattle.kfs_image.specs.Image.{fresh_image}
use Rattle.kfs_desk.specs.Machine.{Desk, opened_at}
use Rattle.kfs_program.specs.Verdicts.HeldVerdicts.{HeldVerdicts, no_verdict, with_held}
use Rattle.kfs_program.specs.Engine.Session.{Start}

-- three tiers of eight blocks
abbrev pub eight_blocks_each : TierSizes
eight_blocks_each = record { first = 8; second = 8; third = 8 }

-- such an image, and these clients
abbrev pub opening_with : List Client → Start
opening_with clients = record { image = Some (fresh_image eight_blocks_each); clients = clients }

-- the desk that is begun with these
abbrev pub desk_with : List Client → (limit : ℕ) → Desk
desk_with clients limit = opened_at (opening clients eight_blocks_each (shown_tree (fresh_image eight_blocks_each)) empty) limit

abbrev pub desk_of_7 : Desk
desk_of_7 = desk_with (client_7 ∷ []) 100

-- the row of a grant: client 7 gets a write lease on the root, up to moment 100
abbrev pub root_row : Row
root_row = record { call = Lease 7 (codes "/") WriteLease 100; answer = Done 1; rejudged = false; places = [] }

-- the desk after that row
abbrev pub root_leased : Desk
root_leased = record desk_of_7 {
  docket = root_row ∷ [];
  state = record desk_of_7.state { leases = record { rows = insert empty (7, 1) (record { kind = WriteLease; end = 100 }); moment = 0 } };
}

-- a desk whose docket may have no row, and a worker's verdict on an empty submission
abbrev pub full_docket : Desk
full_docket = desk_with [] 0

abbrev pub held_by_3 : HeldVerdicts
held_by_3 = with_held no_verdict 3 (Some (record { submission = record { client = 7; log = []; plan = [] }; client = None; reads = [] }))

-- ---- values of single lines

-- two names in the root, and one in directory 5
abbrev pub names_of_two_directories : NameTable
names_of_two_directories = record { entries = ((1, codes "a"), 5) ∷ ((1, codes "b"), 9) ∷ ((5, codes "z"), 7) ∷ []; sorted = tt }
