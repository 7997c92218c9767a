use Rattle.kfs_image.specs.Codec.Headers.{image_header_of}
use Rattle.kfs_image.proofs.EncodeLemmas.Spelled.{image_appended}
use Rattle.kfs_image.proofs.encode.encode.append_image.Goals as goal

pub returns : goal.returns
returns g c =
    image_appended c.args.image.now c.shape-shape.ensures.lawful (image_header_of _) c.args.out.now.items c.reserve_exact.new.self.items c.write.new.out.items c.write_nodes.new.out.items c.write_names.new.out.items c.write_extents.new.out.items
    (λ i. record { version = 2; sizes = c.sizes_of.ensures i; nodes = c.in_ok-nodes.ensures i; names = c.in_ok-names.ensures i; extents = c.in_ok-extents.ensures i })
    c.reserve_exact.ensures.items c.in_ok-write.ensures c.in_ok-write_nodes.ensures c.in_ok-write_names.ensures c.in_ok-write_extents.ensures
