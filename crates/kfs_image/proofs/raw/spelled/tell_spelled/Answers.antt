use Rattle.std.proofs.Common.{◌≤◌, ◌<◌, ◌^◌, All, map, subst}
use Rattle.std.proofs.lemmas.List.Elements.{recursion_from_All, All-map}
use Rattle.kfs_model.specs.Limits.{tier_limit}
use Rattle.kfs_model.specs.PlanRow.{NameRow}
use Rattle.kfs_model.specs.Spelling.{IsName}
use Rattle.kfs_model.specs.Device.RawImage.{RawNode}
use Rattle.kfs_types.specs.Views.{name_row_of}
use Rattle.kfs_image.specs.Codec.RawImages.{raw_node_of}
use Rattle.kfs_image.proofs.raw.spelled.tell_spelled.Goals as goal

pub returns : goal.returns
returns g c =
    let raw = c.args.raw.now in
    let names = subst (All (λ row. IsName row.name)) c.as_slice.ensures.value c.tell_names.ensures in
    let ids = subst (All (λ row. (row.header.uid < 2 ^ 32) × (row.header.gid < 2 ^ 32))) c.as_slice-2.ensures.value c.tell_ids.ensures in
    record {
      sizes = (
        subst (λ n. n ≤ tier_limit) c.size.ensures.size c.size.ensures.in_range,
        subst (λ n. n ≤ tier_limit) c.size-2.ensures.size c.size-2.ensures.in_range,
        subst (λ n. n ≤ tier_limit) c.size-3.ensures.size c.size-3.ensures.in_range,
      );
      names = recursion_from_All (λ (row : NameRow). IsName row.name) (map name_row_of raw.names.items) (All-map (λ (row : NameRow). IsName row.name) name_row_of raw.names.items names);
      ids = recursion_from_All (λ (row : RawNode). (row.header.uid < 2 ^ 32) × (row.header.gid < 2 ^ 32)) (map raw_node_of raw.nodes.items) (All-map (λ (row : RawNode). (row.header.uid < 2 ^ 32) × (row.header.gid < 2 ^ 32)) raw_node_of raw.nodes.items ids);
    }
