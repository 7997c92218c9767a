-- The code's look-ups and what they find, as the definitions have them.
use Rattle.std.specs.Prelude.{option_map, List, [], ℕ, ◌≤◌, length}
use Rattle.kfs_types.specs.Views.{header_of}
use Rattle.kfs_server.specs.LookUps.LookUp as spelled
use Rattle.kfs_server.specs.LookUps.Found as finding
use Rattle.kfs_server.specs.LookUps.Found.{found_limit}
use Rattle.kfs_server.specs.declared.look_ups.look_up.LookUp.{LookUp}
use Rattle.kfs_server.specs.declared.look_ups.look_up.LookUp.TheVariants as look_ups
use Rattle.kfs_server.specs.declared.look_ups.found.Figures.{Figures}
use Rattle.kfs_server.specs.declared.look_ups.found.TierFigures.{TierFigures}
use Rattle.kfs_server.specs.declared.look_ups.found.Found.{Found}
use Rattle.kfs_server.specs.declared.look_ups.found.Found.TheVariants as founds

abbrev pub look_up_shown : LookUp → spelled.LookUp
look_up_shown (look_ups.Node number) = spelled.Node number
look_up_shown look_ups.State = spelled.State
look_up_shown look_ups.Checkpoint = spelled.Checkpoint
look_up_shown (look_ups.Find directory name) = spelled.Find directory name
look_up_shown (look_ups.Names directory limit after) = spelled.Names directory limit after
look_up_shown (look_ups.Read file start count) = spelled.Read file start count
look_up_shown look_ups.Places = spelled.Places
look_up_shown (look_ups.Leases first limit) = spelled.Leases first limit
look_up_shown (look_ups.Plan log) = spelled.Plan log.now

abbrev pub figures_shown : Figures → finding.Figures
figures_shown figures =
    record { moment = figures.moment; rows = figures.rows; first = figures.first; second = figures.second; third = figures.third }

abbrev pub tier_shown : TierFigures → finding.TierFigures
tier_shown tier = record { size = tier.size; free = tier.free }

module _ {B : Type 0} where
  abbrev pub found_shown : Found B → finding.Found
  found_shown (founds.NodeIs header) = finding.NodeIs (option_map header_of header)
  found_shown (founds.StateIs figures) = finding.StateIs (figures_shown figures)
  found_shown founds.Renewed = finding.Renewed
  found_shown (founds.Denied why) = finding.Denied why
  found_shown (founds.LeadsTo number) = finding.LeadsTo number
  found_shown (founds.NamesAre more bytes) = finding.NamesAre more bytes.items
  found_shown (founds.BytesAre bytes) = finding.BytesAre bytes.items
  found_shown (founds.PlacesAre first second third) = finding.PlacesAre (tier_shown first) (tier_shown second) (tier_shown third)
  found_shown (founds.LeasesAre more bytes) = finding.LeasesAre more bytes.items
  found_shown (founds.PlanIs bytes) = finding.PlanIs bytes.items
  found_shown founds.NoPlan = finding.NoPlan
  found_shown founds.PlanTooLong = finding.PlanTooLong

  -- what is said behind its fixed part
  abbrev pub tail_of : Found B → List ℕ
  tail_of (founds.NodeIs header) = []
  tail_of (founds.StateIs figures) = []
  tail_of founds.Renewed = []
  tail_of (founds.Denied why) = []
  tail_of (founds.LeadsTo number) = []
  tail_of (founds.NamesAre more bytes) = bytes.items
  tail_of (founds.BytesAre bytes) = bytes.items
  tail_of (founds.PlacesAre first second third) = []
  tail_of (founds.LeasesAre more bytes) = bytes.items
  tail_of (founds.PlanIs bytes) = bytes.items
  tail_of founds.NoPlan = []
  tail_of founds.PlanTooLong = []

  -- that has at most as many bytes as a look-up is answered
  abbrev pub IsWithin : Found B → Type 0
  IsWithin found = length (tail_of found) ≤ found_limit
