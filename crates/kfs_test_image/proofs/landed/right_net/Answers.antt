-- The image's own state agrees with the reads, so the verdict is its own, and its net keeps the image lawful.
use Rattle.std.proofs.Common.{◌≡◌, Option, None, Some, refl, sym, ap, subst, ◌∙◌}
use Rattle.std.specs.Prelude.{IfSome}
use Rattle.kfs_model.specs.Lease.{holds}
use Rattle.kfs_model.specs.Sight.{client_sight}
use Rattle.kfs_model.specs.Judgement.{State}
use Rattle.kfs_image_nodes.specs.Contents.{sight_of}
use Rattle.kfs_model.specs.Device.ShownTree.{IsLawful, shown_tree}
use Rattle.kfs_image.specs.Net.{after_net}
use Rattle.kfs_image_nodes.specs.Lent.{IsSameNet}
use Rattle.kfs_image.proofs.ShownTrees.{sight_shown}
use Rattle.kfs_judge.specs.Views.{clients_of, leases_of, client_sight_in, Agrees}
use Rattle.kfs_plan.specs.Judging.{IsVerdict, submission_of}
use Rattle.kfs_test_image.proofs.LandedNets.{same_is_lawful}
use Rattle.kfs_test_image.proofs.landed.right_net.Goals as goal

for_same : {X : Type 0} (P Q : X → Type 0) (found : Option X) → ((x : X) → P x → Q x) → IfSome found P → IfSome found Q
for_same P Q None leads holds = tt
for_same P Q (Some x) leads holds = leads x holds

pub returns-in-Yes : goal.returns-in-Yes
returns-in-Yes g c =
    let image = c.args.image.now in
    let lawful = c.shape-shape.ensures.lawful in
    let leases = leases_of c.args.view.now in
    let number = c.args.submission.client in
    let s : State = record { clients = clients_of c.args.view.now; sizes = image.sizes; tree = shown_tree image; leases = leases; placement = image.placement } in
    let sights = ap sight_of c.requires.contents ∙ sight_shown image lawful in
    let seen : client_sight_in c.args.view.now number ≡ client_sight (shown_tree image) (holds leases number) = λ i. record { sight = sights i; held = holds leases number } in
    let agrees = subst (Agrees c.in-Ok.judged.reads) seen c.in-Ok.ensures.view_agrees in
    let verdict = c.in-Ok.ensures.known s (record { sound = lawful.tree.sound; row = sym c.in-Ok.ensures.client; agrees = agrees }) in
    let told = subst (λ o. IsVerdict s (submission_of c.args.submission) o) (sym c.into_parts-submission.ensures.outcome ∙ c.in-Yes.is) verdict in
    record {
      lawful = for_same (IsSameNet c.in-Yes.net) (λ net. IsLawful (after_net net image)) c.owned.result
          (λ net same. same_is_lawful image lawful s refl (submission_of c.args.submission) _ _ c.in-Yes.net net _ told same) c.owned.ensures;
    }
