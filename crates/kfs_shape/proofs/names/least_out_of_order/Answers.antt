use Rattle.std.proofs.Common.{map, ap, ◌∙◌}
use Rattle.kfs_types.specs.Views.{name_row_of}
use Rattle.kfs_model.specs.Device.Finding.{least_failed}
use Rattle.kfs_shape.specs.Heads.{head_at}
use Rattle.kfs_shape.specs.Least.{merged}
use Rattle.kfs_shape.specs.Links.{inside_test}
use Rattle.kfs_shape.specs.Names.{least_unordered}
use Rattle.kfs_image.specs.Codec.RawImages.{raw_of}
use Rattle.kfs_shape.proofs.NameTests.{rule_4_in_two}
use Rattle.kfs_shape.proofs.names.least_out_of_order.Goals as goal

pub returns : goal.returns
returns g c =
    let outside = least_failed (map (inside_test (head_at c.args.headers.now)) c.args.links.now) in
    c.lesser.ensures
    ∙ ap (λ least. merged least c.least_outside.result) c.least_unordered-unordered.ensures
    ∙ ap (merged (least_unordered (map name_row_of c.as_slice.result.now))) c.least_outside.ensures
    ∙ ap (λ rows. merged (least_unordered (map name_row_of rows)) outside) c.as_slice.ensures.value
    ∙ rule_4_in_two (raw_of c.args.raw.now) c.args.links.now (head_at c.args.headers.now) c.requires.links c.requires.shown
