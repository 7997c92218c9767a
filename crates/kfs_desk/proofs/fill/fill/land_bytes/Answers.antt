use Rattle.std.proofs.Common.{◌≡◌, Ok, Err, sym, ap, subst, ◌∙◌}
use Rattle.std.specs.Prelude.{OnOk}
use Rattle.kfs_image_nodes.specs.Lent.{net_in}
use Rattle.kfs_image.specs.Net.{CanApply, applied}
use Rattle.kfs_desk.specs.Fill.FillOf.{HasLandedWith, IsFillOf}
use Rattle.kfs_desk.proofs.fill.fill.land_bytes.Goals as goal

pub net_apply_moving-requires-clause-nodes : goal.net_apply_moving-requires-clause-nodes
net_apply_moving-requires-clause-nodes g c = c.in_ok-nodes.ensures ∙ c.as_slice.ensures.value ∙ ap (λ rows. rows.items) c.nodes.ensures

pub net_apply_moving-requires-clause-can : goal.net_apply_moving-requires-clause-can
net_apply_moving-requires-clause-can g c =
    let fill = c.in_ok-fill.fill in
    let is = subst (λ nodes. IsFillOf c.swap_spares.new.self c.args.log.now nodes fill) (c.in_ok-nodes.ensures ∙ c.as_slice.ensures.value ∙ ap (λ rows. rows.items) c.nodes.ensures) c.in_ok-fill.ensures in
    subst (CanApply (net_in c.args.net.now) fill) (sym (c.swap_spares-2.ensures ∙ c.swap_spares.ensures))
    (c.requires.fits fill (subst (λ image. IsFillOf image c.args.log.now (net_in c.args.net.now).nodes.items fill) c.swap_spares.ensures is))

pub returns-clause-ok : goal.returns-clause-ok
returns-clause-ok g c =
    let image = c.args.image.now in
    let fill = c.in_ok-fill.fill in
    let same : c.swap_spares-2.new.self ≡ image = c.swap_spares-2.ensures ∙ c.swap_spares.ensures in
    let is = subst (λ nodes. IsFillOf c.swap_spares.new.self c.args.log.now nodes fill) (c.in_ok-nodes.ensures ∙ c.as_slice.ensures.value ∙ ap (λ rows. rows.items) c.nodes.ensures) c.in_ok-fill.ensures in
    elim c.net_apply_moving.result as (λ r. OnOk r (c.net_apply_moving.new.image ≡ applied (net_in c.args.net.now) fill c.swap_spares-2.new.self) → OnOk r (HasLandedWith image c.args.log.now (net_in c.args.net.now) c.net_apply_moving.new.image)) [
      | Ok done ↦ λ made. record {
        fill = fill;
        is = subst (λ i. IsFillOf i c.args.log.now (net_in c.args.net.now).nodes.items fill) c.swap_spares.ensures is;
        made = subst (λ i. c.net_apply_moving.new.image ≡ applied (net_in c.args.net.now) fill i) same made;
      }
      | Err e ↦ λ none. none
    ] c.net_apply_moving.ensures.ok
