-- Clients as a host gives them, and why no desk is opened.
use Rattle.std.specs.Prelude.{◌≡◌, ◌⊎◌, ◌<◌, ◌≤◌, ℕ, ◌+◌, List, ◌∷◌, ◌++◌, length, map, slice_range, All, IsFalse, IsTrue, Ok, Some}
use Rattle.kfs_model.specs.Access.{Client, is_grant}
use Rattle.kfs_model.specs.Limits.{group_limit}
use Rattle.kfs_model.specs.Machine.{opening}
use Rattle.kfs_model.specs.Placement.{AreTierSizes, TierSizes}
use Rattle.kfs_model.specs.Device.Finding.{Finding, IsWellFormed, finding_of}
use Rattle.kfs_model.specs.Device.RawImage.{RawImage, image_of}
use Rattle.kfs_model.specs.Device.ShownTree.{DeviceImage, shown_tree}
use Rattle.kfs_model.specs.Device.Spelling.{ImageAnswer}
use Rattle.kfs_mode.specs.Clients.{client_row}
use Rattle.kfs_mode.specs.declared.client.ClientFault.{ClientFault}
use Rattle.kfs_mode.specs.declared.client.ClientFault.TheVariants as misfits
use Rattle.kfs_image.specs.Image.{fresh_image}
use Rattle.kfs_image.specs.Codec.Answers.{OnImageRefusal}
use Rattle.kfs_image.specs.declared.codec.fault.ImageFault.{ImageFault}
use Rattle.kfs_image.specs.declared.codec.fault.ImageFault.TheVariants as images
use Rattle.kfs_shape.specs.declared.fault.ShapeFault.{ShapeFault}
use Rattle.kfs_shape.specs.declared.fault.ShapeFault.TheVariants as shapes
use Rattle.kfs_desk.specs.Machine.{Desk, opened_at}
use Rattle.kfs_desk.specs.Opening.{begin_fault}
use Rattle.kfs_desk.specs.declared.history.answers.BeginFault.{BeginFault}
use Rattle.kfs_desk.specs.declared.history.answers.BeginFault.TheVariants as beginnings
use Rattle.kfs_c.specs.declared.numbers.ClientRow.{ClientRow}
use Rattle.kfs_c.specs.declared.submission.numbers.FaultNumbers.{FaultNumbers}
use Rattle.kfs_c.specs.declared.opening.Unopened.{Unopened}
use Rattle.kfs_c.specs.declared.opening.Unopened.TheVariants.{NoMemory, Refused}
use Rattle.kfs_c.specs.Submission.Told.{numbers}

-- the groups of a row, out of the list of all
abbrev pub groups_of : (groups : List ℕ) → ClientRow → List ℕ
groups_of groups row = slice_range groups row.groups_start (row.groups_start + row.groups_count)

-- the client of a row
abbrev pub client_of : (groups : List ℕ) → ClientRow → Client
client_of groups row = client_row row.number row.uid row.gid (groups_of groups row) row.privileged row.first row.last

-- the desk was just begun with this image, these clients and this limit
abbrev pub IsBegun : DeviceImage → List Client → (limit : ℕ) → Desk → Type 0
IsBegun image clients limit desk = desk ≡ opened_at (opening clients image.sizes (shown_tree image) image.placement) limit

-- with this image, the clients of these rows and this limit
abbrev pub IsBegunWith : DeviceImage → (groups : List ℕ) → List ClientRow → (limit : ℕ) → Desk → Type 0
IsBegunWith image groups rows limit desk = IsBegun image (map (client_of groups) rows) limit desk

abbrev pub sizes_of : (first second third : ℕ) → TierSizes
sizes_of first second third = record { first = first; second = second; third = third }

-- with a new image of these sizes
abbrev pub IsOpenedWith : TierSizes → (groups : List ℕ) → List ClientRow → (limit : ℕ) → Desk → Type 0
IsOpenedWith sizes groups rows limit desk = IsBegunWith (fresh_image sizes) groups rows limit desk

-- with the image that the bytes decode to, which breaks no rule
abbrev pub IsLoadedWith : (bytes groups : List ℕ) → List ClientRow → (limit : ℕ) → Desk → Type 0
IsLoadedWith bytes groups rows limit desk =
    (raw : RawImage) × ImageAnswer bytes (Ok raw) × IsWellFormed raw × IsBegunWith (image_of raw) groups rows limit desk

-- the bytes decode to an image that breaks no rule, and this is it
abbrev pub IsLoaded : (bytes : List ℕ) → DeviceImage → Type 0
IsLoaded bytes image = (raw : RawImage) × ImageAnswer bytes (Ok raw) × IsWellFormed raw × (image ≡ image_of raw)

-- ---- why no desk is opened

-- this is said of the fault, unless memory ran out
abbrev pub IsRefusedAs : (FaultNumbers → Type 0) → Unopened → Type 0
IsRefusedAs Says NoMemory = Unit {0}
IsRefusedAs Says (Refused told) = Says told

abbrev pub sizes_told : FaultNumbers
sizes_told = numbers 1 0 0 0

-- the client of this index has groups or a grant that can't be
abbrev pub misfit_told : (index : ℕ) → ClientFault → FaultNumbers
misfit_told index misfits.TooManyGroups = numbers 2 1 index 0
misfit_told index misfits.BadGrant = numbers 2 2 index 0

-- its groups reach out of the list
abbrev pub stray_told : (index : ℕ) → FaultNumbers
stray_told index = numbers 2 3 index 0

abbrev pub unbegun_as : BeginFault → Unopened
unbegun_as (beginnings.ClientTwice index) = Refused (numbers 3 1 index 0)
unbegun_as (beginnings.GrantOverlap index) = Refused (numbers 3 2 index 0)
unbegun_as beginnings.OutOfMemory = NoMemory

abbrev pub unread_as : ImageFault → Unopened
unread_as images.BadImageHeader = Refused (numbers 4 1 0 0)
unread_as (images.BadImageRow row) = Refused (numbers 4 2 row 0)
unread_as images.ImageTrailing = Refused (numbers 4 3 0 0)
unread_as images.OutOfMemory = NoMemory

abbrev pub broken_as : ShapeFault → Unopened
broken_as (shapes.Found finding) = Refused (numbers 5 finding.rule finding.number 0)
broken_as shapes.OutOfMemory = NoMemory

-- why the client with these groups and this grant can't be
abbrev pub IsMisfit : (groups : List ℕ) (first last : ℕ) → ClientFault → Type 0
IsMisfit groups first last misfits.TooManyGroups = group_limit < length groups
IsMisfit groups first last misfits.BadGrant = (length groups ≤ group_limit) × IsFalse (is_grant first last)

-- the row's groups reach out of the list, or its client can't be
abbrev pub IsRowRefused : (groups : List ℕ) → ClientRow → (index : ℕ) → FaultNumbers → Type 0
IsRowRefused groups row index told =
    ((length groups < row.groups_start + row.groups_count) × (told ≡ stray_told index))
    ⊎ ((why : ClientFault) × IsMisfit (groups_of groups row) row.first row.last why × (told ≡ misfit_told index why))

-- the row's groups lie in the list, and its client can be
pub record IsRowRight (groups : List ℕ) (row : ClientRow) : Type 0 where
  pub within : row.groups_start + row.groups_count ≤ length groups
  pub few : length (groups_of groups row) ≤ group_limit
  pub grant : IsTrue (is_grant row.first row.last)

-- the first row that isn't right is refused so
abbrev pub AreRowsRefused : (groups : List ℕ) → List ClientRow → FaultNumbers → Type 0
AreRowsRefused groups rows told =
    (earlier : List ClientRow) × (row : ClientRow) × (later : List ClientRow)
    × (rows ≡ earlier ++ row ∷ later) × All (IsRowRight groups) earlier × IsRowRefused groups row (length earlier) told

-- the first client that can't follow those before it is refused so
abbrev pub AreClientsRefused : List Client → FaultNumbers → Type 0
AreClientsRefused clients told = (why : BeginFault) × (begin_fault clients ≡ Some why) × (unbegun_as why ≡ Refused told)

-- a row is refused so, or the clients of all rows are
abbrev pub IsOpeningRefused : (groups : List ℕ) → List ClientRow → FaultNumbers → Type 0
IsOpeningRefused groups rows told = AreRowsRefused groups rows told ⊎ AreClientsRefused (map (client_of groups) rows) told

-- the bytes are no image, for the reason that is told
abbrev pub IsNoImage : (bytes : List ℕ) → FaultNumbers → Type 0
IsNoImage bytes told = (why : ImageFault) × OnImageRefusal (ImageAnswer bytes) why × (unread_as why ≡ Refused told)

-- they decode to an image that breaks a rule: the least one, at the least number
abbrev pub BreaksRule : (bytes : List ℕ) → FaultNumbers → Type 0
BreaksRule bytes told =
    (raw : RawImage) × ImageAnswer bytes (Ok raw)
    × (finding : Finding) × (finding_of raw ≡ Some finding) × (told ≡ numbers 5 finding.rule finding.number 0)

abbrev pub IsImageRefused : (bytes : List ℕ) → FaultNumbers → Type 0
IsImageRefused bytes told = IsNoImage bytes told ⊎ BreaksRule bytes told

-- a tier is too large, and this is told
abbrev pub AreSizesRefused : TierSizes → FaultNumbers → Type 0
AreSizesRefused sizes told = (AreTierSizes sizes → ⊥) × (told ≡ sizes_told)

-- why kfs_open refuses
abbrev pub IsUnopened : TierSizes → (groups : List ℕ) → List ClientRow → FaultNumbers → Type 0
IsUnopened sizes groups rows told = AreSizesRefused sizes told ⊎ IsOpeningRefused groups rows told

-- why kfs_load refuses
abbrev pub IsUnloaded : (bytes groups : List ℕ) → List ClientRow → FaultNumbers → Type 0
IsUnloaded bytes groups rows told = IsImageRefused bytes told ⊎ IsOpeningRefused groups rows told
