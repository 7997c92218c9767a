-- Rows that were written are those of the state.
use Rattle.std.proofs.Common.{◌≡◌, ℕ, suc, ◌^◌, ◌<◌, ◌≤◌, All, List, [], ◌∷◌, ◌++◌, length, map, refl, sym, ap, subst, ◌∙◌, append-nil}
use Rattle.std.specs.List.{flat_map}
use Rattle.std.proofs.lemmas.List.Elements.{recursion_from_All, All-map}
use Rattle.kfs_model.specs.Access.{Client}
use Rattle.kfs_model.specs.Lease.{Leases}
use Rattle.kfs_model.specs.Device.Canonical.{image_bytes}
use Rattle.kfs_model.specs.Device.ShownTree.{DeviceImage}
use Rattle.kfs_lease.specs.LeaseLists.{Ascend, listed_leases}
use Rattle.kfs_lease.specs.ShownLists.{row_shown, rows_shown}
use Rattle.kfs_lease.specs.declared.leases.listed.LeaseRow.{LeaseRow as ListedLease}
use Rattle.kfs_call.specs.StateRows.{StateRows, IsClientRow, IsLeaseRow, IsStateRows, client_bytes, lease_bytes, state_header, state_bytes}
use Rattle.kfs_call.specs.StateViews.{client_shown, lease_shown}
use Rattle.kfs_call.specs.declared.state.ClientRow.{ClientRow}
use Rattle.kfs_call.specs.declared.state.LeaseRow.{LeaseRow}
use Rattle.kfs_desk.specs.Machine.{state_at}
use Rattle.kfs_call_desk.specs.Restore.Saved.{AreListed, IsSaved, lease_of_row, rows_of_state, spelled_lease}

length_map : {X Y : Type 0} (f : X → Y) (xs : List X) → length (map f xs) ≡ length xs
length_map f [] = refl
length_map f (x ∷ xs) = ap suc (length_map f xs)

spelled_all : (listed : List ListedLease) → map (λ lease. spelled_lease (row_shown lease)) listed ≡ map spelled_lease (rows_shown listed)
spelled_all [] = refl
spelled_all (row ∷ rows) = ap (λ rest. spelled_lease (row_shown row) ∷ rest) (spelled_all rows)

-- a state's bytes are those without the image, and then the image's
pub image_behind_rows : (s : StateRows) (rows bytes : List ℕ) → rows ≡ state_bytes (record { moment = s.moment; clients = s.clients; leases = s.leases; image = [] }) → bytes ≡ rows ++ s.image → bytes ≡ state_bytes s
image_behind_rows s rows bytes spelled behind =
    let front = state_header (record { moment = s.moment; clients = length s.clients; leases = length s.leases }) ++ flat_map client_bytes s.clients ++ flat_map lease_bytes s.leases in
    behind ∙ ap (λ text. text ++ s.image) (spelled ∙ append-nil front)

pub read_all : (rows : List LeaseRow) → map (λ row. lease_of_row (lease_shown row)) rows ≡ map lease_of_row (map lease_shown rows)
read_all [] = refl
read_all (row ∷ rows) = ap (λ rest. lease_of_row (lease_shown row) ∷ rest) (read_all rows)

module _ (image : DeviceImage) (clients : List Client) (leases : Leases) (listed : List ListedLease) (ascend : Ascend (rows_shown listed)) (same : listed_leases leases.moment (rows_shown listed) ≡ leases) where
  pub are_listed : AreListed (state_at image clients leases) (rows_shown listed)
  are_listed = record { ascend = ascend; same = same }

  module _ (rows : List ClientRow) (shown : map client_shown rows ≡ clients) (all : All IsClientRow clients) (written : List LeaseRow) (written_is : map lease_shown written ≡ map (λ lease. spelled_lease (row_shown lease)) listed) (all_written : All (λ row. IsLeaseRow (lease_shown row)) written) where
    pub encoded : (moment : ℕ) (of_image bytes : List ℕ) → moment ≡ leases.moment → moment < 2 ^ 64 → of_image ≡ image_bytes image → length rows < 2 ^ 32 → length written < 2 ^ 32
        → bytes ≡ state_bytes (record { moment = moment; clients = map client_shown rows; leases = map lease_shown written; image = of_image }) → IsSaved (state_at image clients leases) bytes
    encoded moment of_image bytes at moment_fits image_is few few_written is =
        let spelled = written_is ∙ spelled_all listed in
        let whole : StateRows = record { moment = moment; clients = map client_shown rows; leases = map lease_shown written; image = of_image } in
        let same_rows : whole ≡ rows_of_state (state_at image clients leases) (rows_shown listed) = λ i. record { moment = at i; clients = shown i; leases = spelled i; image = image_is i } in
        let fit_clients = recursion_from_All IsClientRow (map client_shown rows) (subst (All IsClientRow) (sym shown) all) in
        let fit_leases = recursion_from_All IsLeaseRow (map lease_shown written) (All-map IsLeaseRow lease_shown written all_written) in
        let fits : IsStateRows whole = ((moment_fits, subst (λ n. n < 2 ^ 32) (sym (length_map client_shown rows)) few, subst (λ n. n < 2 ^ 32) (sym (length_map lease_shown written)) few_written), fit_clients, fit_leases) in
        record {
          leases = rows_shown listed;
          listed = are_listed;
          fits = subst IsStateRows same_rows fits;
          spelled = is ∙ ap state_bytes same_rows;
        }

  -- more rows were written than 32 bits count
  pub many_listed : (written : List LeaseRow) → map lease_shown written ≡ map (λ lease. spelled_lease (row_shown lease)) listed → 2 ^ 32 ≤ length written → 2 ^ 32 ≤ length (rows_shown listed)
  many_listed written is many =
      let counted : length written ≡ length (rows_shown listed) =
      sym (length_map lease_shown written) ∙ ap length (is ∙ spelled_all listed) ∙ length_map spelled_lease (rows_shown listed) in
      subst (λ n. 2 ^ 32 ≤ n) counted many
