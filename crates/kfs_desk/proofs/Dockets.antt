-- A desk with one row more in its docket.
use Rattle.std.proofs.Common.{◌≡◌, ◌+◌, ◌≤◌, Bool, true, false, leb, List, [], ◌∷◌, ◌++◌, length, take, Option, Some, refl, sym, subst, arith, length-append, leb-true, leb-false}
use Rattle.std.proofs.lemmas.List.{take-append-le, take_all}
use Rattle.kfs_model.specs.Judgement.{State}
use Rattle.kfs_model.specs.Lease.{Leases}
use Rattle.kfs_model.specs.Access.{Client}
use Rattle.kfs_model.specs.Machine.{IsRead, Row, after, next}
use Rattle.kfs_model.specs.Order.{IsInOrder}
use Rattle.kfs_model.proofs.OrderKept.{step_keeps_order}
use Rattle.kfs_lease.specs.LeaseLists.{HasLawfulLeases}
use Rattle.kfs_lease.proofs.ListLemmas.Kept.{steps_keep}
use Rattle.kfs_desk.specs.History.Least.{AreLeast}
use Rattle.kfs_desk.specs.History.Legal.{IsLegalDocket}
use Rattle.kfs_desk.proofs.HistoryLemmas.Longer.{leads_nowhere, leads_on}
use Rattle.kfs_model.specs.Device.ShownTree.{DeviceImage, IsLawful}
use Rattle.kfs_desk.specs.Machine.{AreShown, IsDesk, IsShown, Parts, state_at, state_of}

-- A lawful image shows its state.
pub shown_by : (image : DeviceImage) → IsLawful image → (clients : List Client) (leases : Leases) → IsShown (state_at image clients leases)
shown_by image lawful clients leases = record { image = image; lawful = lawful; is = record { tree = refl; sizes = refl; placement = refl } }

-- The empty docket leads to the opening alone.
opening_shown : (opening : State) → IsShown opening → AreShown opening []
unfolding after
opening_shown opening is count s leads =
    let none : ◌≡◌ {A = List Row} (take count []) [] = take_all count [] (omega arith) in
    let at_once : ◌≡◌ {A = Option State} (Some opening) (Some s) = subst (λ rows. after opening rows ≡ Some s) none leads in
    let same : opening ≡ s = cc in
    subst IsShown same is

-- A row more leads to one state more.
shown_with : (row : Row) (opening s : State) (docket : List Row) → AreShown opening docket → after opening (docket ++ row ∷ []) ≡ Some s → IsShown s → AreShown opening (docket ++ row ∷ [])
shown_with row opening s docket earlier whole is count t leads = by (leb count (length docket)) refl
  where
    by : (within : Bool) → leb count (length docket) ≡ within → IsShown t
    by true within =
        let first = take-append-le count docket (row ∷ []) (leb-true count (length docket) within) in
        earlier count t (subst (λ rows. after opening rows ≡ Some t) first leads)
    by false beyond =
        let counted = length-append docket (row ∷ []) in
        let behind = leb-false count (length docket) beyond in
        let all = take_all count (docket ++ row ∷ []) (omega arith) in
        let last : after opening (docket ++ row ∷ []) ≡ Some t = subst (λ rows. after opening rows ≡ Some t) all leads in
        let same : s ≡ t = cc in
        subst IsShown same is

-- A desk opens with an empty docket.
pub desk_opened : (new : Parts) → new.opening ≡ state_of new → new.docket ≡ [] → IsInOrder (state_of new) → HasLawfulLeases (state_of new) → IsShown (state_of new) → IsDesk new
desk_opened new opened empty in_order lawful is = record {
  within_limit = subst (λ rows. length rows ≤ new.limit) (sym empty) (omega arith);
  legal = subst (λ opening. IsLegalDocket opening new.docket (state_of new)) (sym opened) (subst (λ rows. IsLegalDocket (state_of new) rows (state_of new)) (sym empty) (leads_nowhere (state_of new)));
  in_order = in_order;
  lawful = lawful;
  shown = subst (λ opening. AreShown opening new.docket) (sym opened) (subst (AreShown (state_of new)) (sym empty) (opening_shown (state_of new) is));
}

-- The row of a step keeps the docket legal, the state in order, and the states shown.
pub desk_with : (desk new : Parts) → IsDesk desk → (row : Row) → IsRead row → next (state_of desk) row ≡ Some (state_of new) → AreLeast (state_of desk) row.places
    → IsShown (state_of new) → new.opening ≡ desk.opening → new.docket ≡ desk.docket ++ row ∷ [] → length desk.docket + 1 ≤ new.limit → IsDesk new
desk_with desk new is_desk row read fits least is opened added within =
    let leads = leads_on row desk.opening (state_of desk) (state_of new) desk.docket is_desk.legal read fits least in
    let shown = shown_with row desk.opening (state_of new) desk.docket is_desk.shown leads.fit is in
    record {
      within_limit = subst (λ rows. length rows ≤ new.limit) (sym added) (let count = length-append desk.docket (row ∷ []) in omega arith);
      legal = subst (λ opening. IsLegalDocket opening new.docket (state_of new)) (sym opened) (subst (λ rows. IsLegalDocket desk.opening rows (state_of new)) (sym added) leads);
      in_order = step_keeps_order (state_of desk) (state_of new) row is_desk.in_order read fits;
      lawful = steps_keep (state_of desk) (state_of new) row is_desk.in_order read is_desk.lawful fits;
      shown = subst (λ opening. AreShown opening new.docket) (sym opened) (subst (AreShown desk.opening) (sym added) shown);
    }
