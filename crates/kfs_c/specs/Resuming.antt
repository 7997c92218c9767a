-- Desks that go on with leases that a host gives, and why none is begun.
use Rattle.std.specs.Prelude.{◌≡◌, ◌⊎◌, ℕ, List, map, All, Option, None}
use Rattle.kfs_model.specs.Access.{Client}
use Rattle.kfs_model.specs.Header.{Header}
use Rattle.kfs_model.specs.Lease.{Leases}
use Rattle.kfs_model.specs.Table.{get}
use Rattle.kfs_model.specs.Device.ShownTree.{DeviceImage}
use Rattle.kfs_lease.specs.LeaseLists.{LeaseRow, fault_of_rows, listed_leases}
use Rattle.kfs_lease.specs.ShownLists.{row_fault_of}
use Rattle.kfs_lease.specs.declared.leases.listed.LeaseRowFault.{LeaseRowFault}
use Rattle.kfs_desk.specs.Machine.{Desk, opened_at, state_at}
use Rattle.kfs_c.specs.Calls.{kind_of_lease}
use Rattle.kfs_c.specs.Opening.{AreClientsRefused, AreRowsRefused, IsImageRefused, IsLoaded, IsRowRight, client_of}
use Rattle.kfs_c.specs.States.{unleased_as}
use Rattle.kfs_c.specs.declared.numbers.ClientRow.{ClientRow}
use Rattle.kfs_c.specs.declared.numbers.LeaseNumbers.{LeaseNumbers}
use Rattle.kfs_c.specs.declared.submission.numbers.FaultNumbers.{FaultNumbers}
use Rattle.kfs_c.specs.declared.opening.Unopened.TheVariants.{Refused}

abbrev pub lease_of : LeaseNumbers → LeaseRow
lease_of row = record { number = row.number; client = row.client; kind = kind_of_lease row.write; end = row.end }

-- the desk was just begun with this image, these clients and leases, and this limit
abbrev pub IsResumed : DeviceImage → List Client → Leases → (limit : ℕ) → Desk → Type 0
IsResumed image clients held limit desk = desk ≡ opened_at (state_at image clients held) limit

-- with this image, and the clients and leases of these rows
abbrev pub IsResumedOn : DeviceImage → (groups : List ℕ) → List ClientRow → List LeaseNumbers → (moment limit : ℕ) → Desk → Type 0
IsResumedOn image groups rows held moment limit desk = IsResumed image (map (client_of groups) rows) (listed_leases moment (map lease_of held)) limit desk

-- beside this image no lease has a fault
abbrev pub AreLeasesRight : DeviceImage → (groups : List ℕ) → List ClientRow → List LeaseNumbers → (moment : ℕ) → Type 0
AreLeasesRight image groups rows held moment = fault_of_rows (map (client_of groups) rows) (get image.heads) moment (map lease_of held) ≡ None

-- with the image that the bytes decode to, which breaks no rule, and beside which no lease has a fault
abbrev pub IsResumedWith : (bytes groups : List ℕ) → List ClientRow → List LeaseNumbers → (moment limit : ℕ) → Desk → Type 0
IsResumedWith bytes groups rows held moment limit desk =
    (image : DeviceImage) × IsLoaded bytes image × AreLeasesRight image groups rows held moment × IsResumedOn image groups rows held moment limit desk

-- ---- why no desk is begun

-- the first lease that no lawful table has is told
abbrev pub AreLeasesRefused : List Client → (heads : ℕ → Option Header) → (moment : ℕ) → List LeaseRow → FaultNumbers → Type 0
AreLeasesRefused clients heads moment rows told =
    (why : LeaseRowFault) × (fault_of_rows clients heads moment rows ≡ row_fault_of why) × (unleased_as why ≡ Refused told)

-- the leases are refused so, or, where each of them can be, the clients together
abbrev pub AreHoldersRefused : List Client → (heads : ℕ → Option Header) → (moment : ℕ) → List LeaseRow → FaultNumbers → Type 0
AreHoldersRefused clients heads moment rows told =
    AreLeasesRefused clients heads moment rows told ⊎ ((fault_of_rows clients heads moment rows ≡ None) × AreClientsRefused clients told)

-- with this image: a row of a client is refused so, or, where each of them is right, what is made of them
abbrev pub IsUnresumedWith : DeviceImage → (groups : List ℕ) → List ClientRow → List LeaseNumbers → (moment : ℕ) → FaultNumbers → Type 0
IsUnresumedWith image groups rows held moment told =
    AreRowsRefused groups rows told
    ⊎ (All (IsRowRight groups) rows × AreHoldersRefused (map (client_of groups) rows) (get image.heads) moment (map lease_of held) told)

-- why kfs_resume refuses: the image is refused so, or, where it can be, the first thing behind it
abbrev pub IsUnresumed : (bytes groups : List ℕ) → List ClientRow → List LeaseNumbers → (moment : ℕ) → FaultNumbers → Type 0
IsUnresumed bytes groups rows held moment told =
    IsImageRefused bytes told ⊎ ((image : DeviceImage) × IsLoaded bytes image × IsUnresumedWith image groups rows held moment told)
