use Rattle.std.proofs.Common.{◌≡◌, arith}
use Rattle.kfs_model.specs.Device.Spelling.{ImageAnswer}
use Rattle.kfs_model.proofs.DeviceLemmas.OneImageAnswer.{one_image_answer}
use Rattle.kfs_image.specs.Codec.RawImages.{raw_of}
use Rattle.kfs_image.proofs.CodecLemmas.DecodedImage.{Answered-weaker}
use Rattle.kfs_image.proofs.codec.decoding.decode_image.Goals as goal

pub returns-clause-only : goal.returns-clause-only
returns-clause-only g c = λ answer is.
    let source = c.args.source.now in
    Answered-weaker raw_of (ImageAnswer source) (λ given. given ≡ answer) (λ given found. one_image_answer source (λ i. omega (arith, c.type_inv.source i)) given answer found is) c.image_in.result c.image_in.ensures
