-- A state that is saved is what its bytes come to.
use Rattle.std.proofs.Common.{◌≡◌, ℕ, List, [], ◌∷◌, map, Option, None, option_map, Ok, refl, sym, ap, subst, ◌∙◌}
use Rattle.std.specs.Prelude.{Result}
use Rattle.std.specs.List.{AllByRecursion}
use Rattle.kfs_model.specs.CleanStep.{IsClient}
use Rattle.kfs_model.specs.Header.{Header}
use Rattle.kfs_model.specs.Judgement.{State}
use Rattle.kfs_model.specs.Lease.{Leases}
use Rattle.kfs_model.specs.Table.{Table, numbers, get}
use Rattle.kfs_model.specs.Tree.{headers}
use Rattle.kfs_model.specs.Device.Canonical.{canonical_bytes, image_bytes}
use Rattle.kfs_model.specs.Device.RawImage.{heads_of, image_of}
use Rattle.kfs_model.specs.Device.ShownTree.{DeviceImage, IsLawful, shown_tree}
use Rattle.kfs_model.specs.Device.Spelling.{ImageAnswer}
use Rattle.kfs_lease.specs.LeaseLists.{AreLawful, HasLawfulLeases, LeaseRow, fault_of_rows, listed_leases}
use Rattle.kfs_lease.proofs.ListLemmas.Lawful.{listed_faultless}
use Rattle.kfs_lease.proofs.ListLemmas.OneList.{one_list}
use Rattle.kfs_fsck.specs.SavedImages.{IsReadAgain}
use Rattle.kfs_fsck.proofs.SavedImages.{lawful_image, read_again}
use Rattle.kfs_call.specs.StateRows.{state_bytes}
use Rattle.kfs_desk.specs.Machine.{IsShown}
use Rattle.kfs_desk.specs.declared.history.answers.BeginFault.{BeginFault}
use Rattle.kfs_call_desk.specs.Restore.Saved.{IsSaved, lease_of_row, rows_of_state, spelled_lease}
use Rattle.kfs_call_desk.specs.Restore.Restored.{BadClients, BadLease, BrokenRule, RestoreAnswer, RestoreFault, begin_refusal, clients_refusal, leases_refusal, rule_refusal, shown_state, unless, verdict}
use Rattle.kfs_kept.specs.Admitting.{begun_with}
use Rattle.kfs_kept.specs.Restored.Laws.{SavedApart, SavedIsRestored, SavedOnce}
use Rattle.kfs_call_desk.proofs.RestoreLemmas.ClientRows.{clients_pass}
use Rattle.kfs_call_desk.proofs.RestoreLemmas.OneAnswer.{one_answer, passes}

-- rows are the leases that they were written for
pub same_leases : (leases : List LeaseRow) → map lease_of_row (map spelled_lease leases) ≡ leases
same_leases [] = refl
same_leases (row ∷ rows) = ap (λ rest. row ∷ rest) (same_leases rows)

module _ (s : State) (bytes : List ℕ) (in_range : AllByRecursion IsClient s.clients) (held : HasLawfulLeases s) (shown : IsShown s) (saved : IsSaved s bytes) where
  abbrev image : DeviceImage
  image = shown.image

  again : IsReadAgain image
  again = read_again image shown.lawful

  -- the image's bytes are the state's
  bytes_of_image : image_bytes image ≡ canonical_bytes s.sizes s.tree s.placement
  bytes_of_image = let is = shown.is in λ i. canonical_bytes (is.sizes i) (is.tree i) (is.placement i)

  same_tree : shown_tree (image_of again.rows) ≡ s.tree
  same_tree = again.tree ∙ shown.is.tree

  -- the headers that were read are the tree's
  same_heads : heads_of again.rows ≡ headers s.tree
  same_heads =
      let lawful : IsLawful (image_of again.rows) = lawful_image again.rows again.spelled.0 again.well_formed in
      sym lawful.tree.counted ∙ ap headers same_tree

  same_held : listed_leases s.leases.moment (map lease_of_row (map spelled_lease saved.leases)) ≡ s.leases
  same_held = ap (listed_leases s.leases.moment) (same_leases saved.leases) ∙ saved.listed.same

  -- ---- no refusal

  rules_hold : rule_refusal again.rows ≡ None
  rules_hold = ap (option_map BrokenRule) again.well_formed

  leases_hold : leases_refusal s.clients (heads_of again.rows) s.leases.moment (map spelled_lease saved.leases) ≡ None
  leases_hold =
      let lawful : AreLawful s.clients (get (heads_of again.rows)) s.leases = subst (λ (heads : Table numbers Header). AreLawful s.clients (get heads) s.leases) (sym same_heads) held in
      ap (λ rows. option_map BadLease (fault_of_rows s.clients (get (heads_of again.rows)) s.leases.moment rows)) (same_leases saved.leases)
      ∙ ap (option_map BadLease) (listed_faultless s.clients (get (heads_of again.rows)) s.leases saved.leases lawful saved.listed.ascend saved.listed.same)

  clients_hold : clients_refusal s.clients ≡ None
  clients_hold = clients_pass s.clients in_range saved.fits.1

  -- ---- the same state

  same_state : shown_state (rows_of_state s saved.leases) again.rows ≡ s
  same_state =
      let sizes = again.sizes ∙ shown.is.sizes in
      let placement = again.placement ∙ shown.is.placement in
      λ i. record { clients = s.clients; sizes = sizes i; tree = same_tree i; leases = same_held i; placement = placement i }

  is_verdict : begun_with s ≡ verdict (rows_of_state s saved.leases) again.rows
  is_verdict =
      let rest = unless (begin_refusal s.clients) (Ok (shown_state (rows_of_state s saved.leases) again.rows)) in
      let leases = unless (leases_refusal s.clients (heads_of again.rows) s.leases.moment (map spelled_lease saved.leases)) rest in
      sym
      (passes (rule_refusal again.rows) (unless (clients_refusal s.clients) leases) rules_hold
      ∙ passes (clients_refusal s.clients) leases clients_hold
      ∙ passes (leases_refusal s.clients (heads_of again.rows) s.leases.moment (map spelled_lease saved.leases)) rest leases_hold
      ∙ ap (λ (t : State). unless (begin_refusal s.clients) (Ok t)) same_state)

  comes_to : RestoreAnswer bytes (begun_with s)
  comes_to = (
    Ok (rows_of_state s saved.leases),
    (saved.fits, saved.spelled),
    (Ok again.rows, subst (λ b. ImageAnswer b (Ok again.rows)) bytes_of_image again.spelled, is_verdict),
  )

-- the bytes of a state come to it, unless its clients can't be beside each other
pub saved_comes_to : (s : State) (bytes : List ℕ) → AllByRecursion IsClient s.clients → HasLawfulLeases s → IsShown s → IsSaved s bytes → RestoreAnswer bytes (begun_with s)
saved_comes_to = comes_to

pub saved_is_restored : SavedIsRestored
saved_is_restored s bytes can saved =
    let begun : begun_with s ≡ Ok s = ap (λ (found : Option BeginFault). unless (option_map BadClients found) (Ok s)) can.beside in
    subst (λ (answer : Result State RestoreFault). RestoreAnswer bytes answer) begun (saved_comes_to s bytes can.in_order.clients can.lawful can.shown saved)

pub saved_once : SavedOnce
saved_once s one other is this =
    let tables = ap (λ (l : Leases). l.rows) (is.listed.same ∙ sym this.listed.same) in
    let same = one_list is.leases this.leases is.listed.ascend this.listed.ascend tables in
    is.spelled ∙ ap (λ leases. state_bytes (rows_of_state s leases)) same ∙ sym this.spelled

pub saved_apart : SavedApart
saved_apart s t bytes fits first second is this =
    let same : Ok s ≡ Ok t = one_answer bytes fits (Ok s) (Ok t) (saved_is_restored s bytes first is) (saved_is_restored t bytes second this) in
    cc
