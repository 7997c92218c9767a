use Rattle.std.proofs.Common.{sym, ap, subst, ◌∙◌}
use Rattle.std.proofs.lemmas.List.Elements.{All-push}
use Rattle.std.specs.Prelude.{◌≡◌, ℕ, ◌<◌, List, vec_len}
use Rattle.kfs_types.specs.declared.plan.NameRow.{NameRow}
use Rattle.kfs_types.specs.declared.plan.NodeRow.{NodeRow}
use Rattle.kfs_model.specs.Limits.{block_size}
use Rattle.kfs_model.specs.Placement.{Place, tier_size}
use Rattle.kfs_model.specs.Table.{changed, insert}
use Rattle.kfs_image_nodes.specs.Change.{led_to, renamed, reheaded}
use Rattle.kfs_image.specs.declared.tier.tiers.NewBlock.{NewBlock}
use Rattle.kfs_image.specs.Tier.Tiers.{with_blocks}
use Rattle.kfs_maps.specs.Chunks.Overlays.{overlaid}
use Rattle.kfs_maps.proofs.ChunksLemmas.Overlays.{overlaid_set}
use Rattle.kfs_image.specs.Edit.{edited, WritesWholeBlocks}
use Rattle.kfs_image.specs.Parts.{plain, with_parts, BlocksAreWhole}
use Rattle.kfs_image.proofs.EditedImages.{one_name, one_node, one_block, whole_copy}
use Rattle.kfs_image.proofs.edit.Parts.add.Goals as goal

pub returns-in_ok-push-in-Header-clause-made : goal.returns-in_ok-push-in-Header-clause-made
returns-in_ok-push-in-Header-clause-made g c = λ image.
    let parts = c.args.self.now in
    let row : NodeRow = record { number = c.in-Header.number; now = c.in-Header.now } in
    let heads = ap (reheaded image.heads) c.in_ok-push-in-Header.ensures.items ∙ one_node image.heads parts.nodes.items row in
    (λ i. record (with_parts parts image) { heads = heads i }) ∙ ap (λ e. edited (plain e) (with_parts parts image)) (sym c.in-Header.is)

pub returns-in_ok-push-in-Name-clause-made : goal.returns-in_ok-push-in-Name-clause-made
returns-in_ok-push-in-Name-clause-made g c = λ image.
    let parts = c.args.self.now in
    let row : NameRow (List ℕ) = record { dir = c.in-Name.dir; name = c.in-Name.name; number = c.unwrap_or.result } in
    let names =
    ap (renamed image.names) c.in_ok-push-in-Name.ensures.items
    ∙ one_name image.names parts.names.items row
    ∙ (λ i. changed (renamed image.names parts.names.items) (c.in-Name.dir, c.in-Name.name) (led_to (c.unwrap_or.ensures i))) in
    (λ i. record (with_parts parts image) { names = names i }) ∙ ap (λ e. edited (plain e) (with_parts parts image)) (sym c.in-Name.is)

pub returns-in_ok-set-in-Map-clause-made : goal.returns-in_ok-set-in-Map-clause-made
returns-in_ok-set-in-Map-clause-made g c = λ image.
    let parts = c.args.self.now in
    let placement =
    overlaid_set image.placement parts.block_places.latest c.set.new.self.latest (c.in-Map.number, c.in-Map.block) c.place_in-place.result c.in_ok-set-in-Map.ensures
    ∙ ap (changed (overlaid image.placement parts.block_places.latest.entries) (c.in-Map.number, c.in-Map.block)) c.place_in-place.ensures in
    (λ i. record (with_parts parts image) { placement = placement i }) ∙ ap (λ e. edited (plain e) (with_parts parts image)) (sym c.in-Map.is)

pub returns-in_ok-push-in-Bytes-clause-made : goal.returns-in_ok-push-in-Bytes-clause-made
returns-in_ok-push-in-Bytes-clause-made g c = λ image.
    let parts = c.args.self.now in
    let place : Place = record { tier = c.in-Bytes.tier; place = c.in-Bytes.place } in
    let block : NewBlock _ = record { place = place; bytes = c.in_ok-copy_of-in-Bytes.field-0 } in
    let devices =
    ap (λ blocks. with_blocks blocks image.devices) c.in_ok-push-in-Bytes.ensures.items
    ∙ one_block image.devices parts.written.items block
    ∙ ap (insert (with_blocks parts.written.items image.devices) (place.tier, place.place)) c.in_ok-copy_of-in-Bytes.ensures in
    (λ i. record (with_parts parts image) { devices = devices i }) ∙ ap (λ e. edited (plain e) (with_parts parts image)) (sym c.in-Bytes.is)

pub returns-in_ok-push-in-Bytes-clause-whole : goal.returns-in_ok-push-in-Bytes-clause-whole
returns-in_ok-push-in-Bytes-clause-whole g c = λ sizes whole written.
    let copy = c.in_ok-copy_of-in-Bytes.field-0 in
    let place : Place = record { tier = c.in-Bytes.tier; place = c.in-Bytes.place } in
    let block : NewBlock _ = record { place = place; bytes = copy } in
    let (in_tier, long) = subst (WritesWholeBlocks sizes) c.in-Bytes.is whole in
    subst (BlocksAreWhole sizes) (sym c.in_ok-push-in-Bytes.ensures.items)
    (All-push (λ (b : NewBlock _). (b.place.place < tier_size sizes b.place.tier) × (vec_len b.bytes ≡ block_size)) c.args.self.now.written.items block written
    (in_tier, whole_copy copy c.in-Bytes.bytes c.in_ok-copy_of-in-Bytes.ensures long))
