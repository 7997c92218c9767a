-- The view is of the state of now, and so that state shows the client what the view shows.
use Rattle.std.proofs.Common.{◌≡◌, Result, Ok, Err, sym, ap, ◌∙◌}
use Rattle.std.specs.Prelude.{IfOk}
use Rattle.kfs_model.specs.Lease.{holds, row_of}
use Rattle.kfs_model.specs.Sight.{client_sight}
use Rattle.kfs_image_nodes.specs.Contents.{sight_of}
use Rattle.kfs_model.specs.Device.ShownTree.{shown_tree}
use Rattle.kfs_image.proofs.ShownTrees.{sight_shown}
use Rattle.kfs_judge.specs.Views.{client_sight_in}
use Rattle.kfs_desk.proofs.desk.outcome.Goals as goal

with_known : {X E : Type 0} {P Q : X → Type 0} (result : Result X E) → IfOk result P → ((x : X) → P x → Q x) → IfOk result Q
with_known (Ok x) p f = f x p
with_known (Err e) p f = tt

pub returns-clause-verdict : goal.returns-clause-verdict
returns-clause-verdict g c =
    let number = c.args.client in
    let image = c.args.image.now in
    let sights = ap sight_of c.in_ok-view.ensures.contents ∙ sight_shown image c.view_of.ensures.lawful in
    let seen : client_sight_in c.in_ok-view.view number ≡ client_sight (shown_tree image) (holds c.args.leases.now.value number) = λ i. record { sight = sights i; held = holds (c.in_ok-view.ensures.leases i) number } in
    with_known c.judge_bytes.result c.judge_bytes.ensures.known (λ found known.
    known _ (record {
      sound = c.view_of.ensures.lawful.tree.sound;
      row = sym (ap (λ rows. row_of rows number) c.in_ok-view.ensures.clients);
      sight = sym seen;
    }))
