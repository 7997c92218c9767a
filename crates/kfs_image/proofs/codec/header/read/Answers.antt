use Rattle.std.proofs.Common.{arith}
use Rattle.kfs_model.proofs.DeviceLemmas.ImageFields.{image_header_field}
use Rattle.kfs_entry.proofs.CodecLemmas.Found.{is_found, is_none}
use Rattle.kfs_image.specs.Codec.Headers.{image_header_of}
use Rattle.kfs_image.proofs.codec.header.read.Goals as goal

pub returns-clause-found : goal.returns-clause-found
returns-clause-found c =
    is_found image_header_of image_header_field c.args.source.now 0 c.header_of_image.result (λ i. omega (arith, c.type_inv.source i)) c.header_of_image.ensures.value c.header_of_image.ensures.within

pub returns-clause-none : goal.returns-clause-none
returns-clause-none c =
    let source = c.args.source.now in
    is_none image_header_of image_header_field source source c.header_of_image.result c.header_of_image.ensures.value
