-- A view of the state of now, and the verdicts that hold there.
use Rattle.std.proofs.Common.{◌≡◌, ℕ, List, IfOk, Result, Ok, Err, sym, ap, subst, ◌∙◌}
use Rattle.kfs_model.specs.Access.{Client}
use Rattle.kfs_model.specs.Judgement.{State, client_sight_of}
use Rattle.kfs_model.specs.Lease.{Leases, holds, row_of}
use Rattle.kfs_image_nodes.specs.Contents.{sight_of}
use Rattle.kfs_model.specs.Device.ShownTree.{DeviceImage, IsLawful}
use Rattle.kfs_image.specs.Image as images
use Rattle.kfs_image.proofs.ShownTrees.{sight_shown}
use Rattle.kfs_judge.specs.Views.{View, clients_of, contents_of, leases_of, client_sight_in, Agrees}
use Rattle.kfs_plan.specs.Judged.{HoldsIn, IsKnown, Judged}
use Rattle.kfs_plan.specs.Judging.{IsVerdict, submission_of}
use Rattle.kfs_desk.specs.Machine.{IsCurrent, IsViewOf, state_at}

module _ (image : DeviceImage) (lawful : IsLawful image) (clients : List Client) (leases : Leases) {A : Type 0} (view : View A)
    (same_contents : contents_of view ≡ images.contents_of image) (same_leases : leases_of view ≡ leases) (same_clients : clients_of view ≡ clients) where
  abbrev s : State
  s = state_at image clients leases

  pub is_view : IsViewOf view s
  is_view = record { sight = ap sight_of same_contents ∙ sight_shown image lawful; leases = same_leases; clients = same_clients }

  seen : (number : ℕ) → client_sight_in view number ≡ client_sight_of s number
  seen number = λ i. record { sight = is_view.sight i; held = holds (same_leases i) number }

  pub current_by : (judged : Judged A) → HoldsIn view judged → IsCurrent s judged
  current_by judged is = record {
    row = sym (ap (λ rows. row_of rows judged.submission.client) same_clients) ∙ is.row;
    agrees = subst (Agrees judged.reads) (seen judged.submission.client) is.agrees;
  }

  pub holds_by : (judged : Judged A) → IsCurrent s judged → HoldsIn view judged
  holds_by judged is = record {
    row = ap (λ rows. row_of rows judged.submission.client) same_clients ∙ is.row;
    agrees = subst (Agrees judged.reads) (sym (seen judged.submission.client)) is.agrees;
  }

  pub verdict_by : (judged : Judged A) → IsKnown judged → HoldsIn view judged → IsVerdict s (submission_of judged.submission) judged.outcome
  verdict_by judged known is =
      let current = current_by judged is in
      known s (record { sound = lawful.tree.sound; row = current.row; agrees = current.agrees })

-- the view that was taken, if there is one, shows the state
pub viewed : {A E : Type 0} (image : DeviceImage) → IsLawful image → (clients : List Client) (leases : Leases) (result : Result (View A) E)
    → IfOk result (λ view. contents_of view ≡ images.contents_of image) → IfOk result (λ view. leases_of view ≡ leases) → IfOk result (λ view. clients_of view ≡ clients)
    → (s : State) → s ≡ state_at image clients leases → IfOk result (λ view. IsViewOf view s)
viewed image lawful clients leases (Ok view) same_contents same_leases same_clients s is = subst (IsViewOf view) (sym is) (is_view image lawful clients leases view same_contents same_leases same_clients)
viewed image lawful clients leases (Err error) same_contents same_leases same_clients s is = tt
