-- What ends is the leases on the nodes that the rows remove.
use Rattle.std.proofs.Common.{◌≡◌, Ok, Err, ap, ◌∙◌}
use Rattle.std.specs.Prelude.{OnOk}
use Rattle.kfs_image_nodes.specs.Lent.{net_in}
use Rattle.kfs_lease.specs.Removed.{without_nodes_in}
use Rattle.kfs_desk.specs.Landing.{ended_by, removed_by}
use Rattle.kfs_desk.proofs.Landing.{ends_on_removed}
use Rattle.kfs_desk.proofs.state_change.change_state.Goals as goal

pub change_both-requires : goal.change_both-requires
change_both-requires g c = record {
  payloads = c.requires.payloads;
  pieces = c.requires.pieces;
  whole = c.requires.whole;
  filled = c.requires.filled;
  fits = c.requires.fits;
}

pub returns-clause-leases : goal.returns-clause-leases
returns-clause-leases g c =
    let old = c.args.leases.now.value in
    elim c.change_both.result as (λ r. OnOk r (c.change_both.new.leases.value ≡ without_nodes_in old c.as_slice-2.result.now) → OnOk r (c.change_both.new.leases.value ≡ ended_by old (net_in c.args.net.now).nodes.items)) [
      | Ok done ↦ λ ended.
          ended
          ∙ ap (without_nodes_in old) (c.as_slice-2.ensures.value ∙ c.in_ok-removed.ensures ∙ ap removed_by (c.as_slice.ensures.value ∙ ap (λ rows. rows.items) c.nodes.ensures))
          ∙ ends_on_removed old (net_in c.args.net.now).nodes.items
      | Err e ↦ λ none. none
    ] c.change_both.ensures.leases
