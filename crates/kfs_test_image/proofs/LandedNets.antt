-- The net of what is judged right makes a lawful image of the one that was judged.
use Rattle.std.proofs.Common.{◌≡◌, ℕ, List, map, refl, sym, ap, subst, ◌∙◌}
use Rattle.kfs_model.specs.Table.{numbers, get}
use Rattle.kfs_model.specs.Tree.{Tree, NameTable, name_order, headers}
use Rattle.kfs_model.specs.Plan.{header_now, number_now, AreDifferences}
use Rattle.kfs_model.specs.Judgement.{State, Submission, Verdict, Yes, No}
use Rattle.kfs_model.specs.Device.ShownTree.{DeviceImage, IsLawful, shown_tree}
use Rattle.kfs_image_nodes.specs.Contents.{contents_in}
use Rattle.kfs_image_nodes.specs.Change.{after_rows}
use Rattle.kfs_image.specs.Image.{contents_of}
use Rattle.kfs_image.specs.Net.{after_net, cut}
use Rattle.kfs_image.proofs.KeptTrees.{image_kept, kept_is_lawful}
use Rattle.kfs_image.proofs.NetTables.{net_makes}
use Rattle.kfs_image_nodes.specs.Lent.{IsSameNet}
use Rattle.kfs_image_nodes.specs.declared.net.Net.{Net}
use Rattle.kfs_judge.specs.Step.Rows.{keyed_name_row, keyed_node_row}
use Rattle.kfs_plan.specs.Judging.{IsVerdict, TellsVerdict}
use Rattle.kfs_plan.proofs.SameFindings.{same_verdict}
use Rattle.kfs_plan.specs.declared.submission.Outcome.TheVariants as outcomes
use Rattle.kfs_types.specs.declared.entry.Log.{Log as CodeLog}
use Rattle.kfs_types.specs.declared.plan.Plan.{Plan as CodePlan}

module _ {A : Type 0} (image : DeviceImage) (lawful : IsLawful image) (s : State) (shown : s.tree ≡ shown_tree image) (submission : Submission) (log : CodeLog A (List ℕ)) (plan : CodePlan A (List ℕ)) (net : Net A (List ℕ)) (told : ℕ) where
  pub net_is_lawful : IsVerdict s submission (outcomes.Yes log plan net told) → IsLawful (after_net net image)
  net_is_lawful is = by is.verdict is.told
    where
      by : (verdict : Verdict) → TellsVerdict s submission (outcomes.Yes log plan net told) verdict → IsLawful (after_net net image)
      by (No refusal) told = absurd told
      by (Yes after marked_after) tells =
          let heads : headers s.tree ≡ image.heads = ap (λ (t : Tree ℕ). headers t) shown ∙ lawful.tree.counted in
          let names : s.tree.names ≡ image.names = ap (λ (t : Tree ℕ). t.names) shown in
          let made : after_rows (contents_of image) net.names.items net.nodes.items ≡ contents_in after = net_makes (contents_of image) after net.names.items net.nodes.items tells.comes.sound
          (subst (λ (table : NameTable). AreDifferences name_order number_now (get table) (get after.names) (map keyed_name_row net.names.items)) names tells.comes.differs.names)
          (subst (λ table. AreDifferences numbers header_now (get table) (get (headers after)) (map keyed_node_row net.nodes.items)) heads tells.comes.differs.nodes) in
          let image_is : after_net net image ≡ image_kept image after = λ i. record image { heads = (made i).heads; names = (made i).names; placement = cut (made i).heads image.placement } in
          subst IsLawful (sym image_is) (kept_is_lawful image lawful after tells.comes.sound)

-- the same of a net of the same rows
pub same_is_lawful : {A : Type 0} (image : DeviceImage) (lawful : IsLawful image) (s : State) (shown : s.tree ≡ shown_tree image) (submission : Submission) (log : CodeLog A (List ℕ)) (plan : CodePlan A (List ℕ)) (net other : Net A (List ℕ)) (told : ℕ)
    → IsVerdict s submission (outcomes.Yes log plan net told) → IsSameNet net other → IsLawful (after_net other image)
same_is_lawful image lawful s shown submission log plan net other told is same =
    net_is_lawful image lawful s shown submission log plan other told
    (same_verdict s submission (outcomes.Yes log plan net told) (outcomes.Yes log plan other told) (refl, refl, same, refl) is)
