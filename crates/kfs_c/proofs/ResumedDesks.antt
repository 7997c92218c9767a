-- Why no desk goes on, as it is told; and what is said of one with its image, said with the image's bytes.
use Rattle.std.proofs.Common.{◌≡◌, ◌⊎◌, inl, inr, ℕ, List, Option, None, Some, Result, Ok, Err, sym, subst}
use Rattle.std.specs.Prelude.{IfErr, IfOk}
use Rattle.kfs_model.specs.Access.{Client}
use Rattle.kfs_model.specs.Header.{Header}
use Rattle.kfs_model.specs.Device.ShownTree.{DeviceImage}
use Rattle.kfs_lease.specs.LeaseLists.{LeaseRow, fault_of_rows}
use Rattle.kfs_lease.specs.ShownLists.{row_fault_of}
use Rattle.kfs_lease.specs.declared.leases.listed.LeaseRowFault.{LeaseRowFault}
use Rattle.kfs_lease.specs.declared.leases.listed.LeaseRowFault.TheVariants.{OutOfMemory}
use Rattle.kfs_desk.specs.Machine.{Desk}
use Rattle.kfs_c.specs.Holding.{OnDesk}
use Rattle.kfs_c.specs.Opening.{IsLoaded, IsRefusedAs}
use Rattle.kfs_c.specs.Resuming.{AreLeasesRefused, AreLeasesRight, IsResumedOn, IsResumedWith, IsUnresumed, IsUnresumedWith}
use Rattle.kfs_c.specs.States.{unleased_as}
use Rattle.kfs_c.specs.declared.held.Held.{Held}
use Rattle.kfs_c.specs.declared.held.Held.TheVariants as helds
use Rattle.kfs_c.specs.declared.numbers.ClientRow.{ClientRow}
use Rattle.kfs_c.specs.declared.numbers.LeaseNumbers.{LeaseNumbers}
use Rattle.kfs_c.specs.declared.opening.Unopened.{Unopened}
use Rattle.kfs_c.proofs.Refusals.{refused_by, refused_more}

pub unleased : (clients : List Client) (heads : ℕ → Option Header) (moment : ℕ) (rows : List LeaseRow) (found : LeaseRowFault)
    → (found ≡ OutOfMemory) ⊎ (fault_of_rows clients heads moment rows ≡ row_fault_of found) → IsRefusedAs (AreLeasesRefused clients heads moment rows) (unleased_as found)
unleased clients heads moment rows found (inl out) = subst (λ fault. IsRefusedAs (AreLeasesRefused clients heads moment rows) (unleased_as fault)) (sym out) tt
unleased clients heads moment rows found (inr is) = refused_by (AreLeasesRefused clients heads moment rows) (unleased_as found) (λ told e. (found, is, e))

-- what follows for each desk is said of the one that is held
on_desk_more : (One Other : Desk → Type 0) (held : Option Held) → ((desk : Desk) → One desk → Other desk) → OnDesk held One → OnDesk held Other
on_desk_more One Other None more never = absurd never
on_desk_more One Other (Some (helds.Desk desk)) more one = more desk one
on_desk_more One Other (Some (helds.View view)) more never = absurd never
on_desk_more One Other (Some (helds.Verdict verdict)) more never = absurd never

pub with_bytes : {B : Type 0} (bytes groups : List ℕ) (rows : List ClientRow) (held : List LeaseNumbers) (moment limit : ℕ) (image : DeviceImage) (result : Result B Unopened) (value : B → Held)
    → IsLoaded bytes image → IfOk result (λ box. AreLeasesRight image groups rows held moment) → IfOk result (λ box. OnDesk (Some (value box)) (IsResumedOn image groups rows held moment limit))
    → IfOk result (λ box. OnDesk (Some (value box)) (IsResumedWith bytes groups rows held moment limit))
with_bytes bytes groups rows held moment limit image (Ok box) value loaded right is =
    on_desk_more (IsResumedOn image groups rows held moment limit) (IsResumedWith bytes groups rows held moment limit) (Some (value box)) (λ desk resumed. (image, loaded, right, resumed)) is
with_bytes bytes groups rows held moment limit image (Err why) value loaded right is = tt

pub behind_bytes : {B : Type 0} (bytes groups : List ℕ) (rows : List ClientRow) (held : List LeaseNumbers) (moment : ℕ) (image : DeviceImage) (result : Result B Unopened)
    → IsLoaded bytes image → IfErr result (IsRefusedAs (IsUnresumedWith image groups rows held moment)) → IfErr result (IsRefusedAs (IsUnresumed bytes groups rows held moment))
behind_bytes bytes groups rows held moment image (Ok box) loaded is = tt
behind_bytes bytes groups rows held moment image (Err why) loaded is =
    refused_more (IsUnresumedWith image groups rows held moment) (IsUnresumed bytes groups rows held moment) why (λ told one. inr (image, loaded, one)) is
