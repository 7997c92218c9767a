use Rattle.std.proofs.Common.{drop, arith}
use Rattle.kfs_model.proofs.DeviceLemmas.ImageFields.{raw_node_field}
use Rattle.kfs_entry.proofs.CodecLemmas.Found.{is_found, is_none}
use Rattle.kfs_image.specs.Codec.RawImages.{raw_node_of}
use Rattle.kfs_image.proofs.codec.node.RawNodeReadRow.read.Goals as goal

pub returns-clause-found : goal.returns-clause-found
returns-clause-found c =
    is_found raw_node_of raw_node_field c.args.source.now c.args.at c.read_row.result (λ i. omega (arith, c.type_inv.source i)) c.read_row.ensures.value c.read_row.ensures.within

pub returns-clause-none : goal.returns-clause-none
returns-clause-none c = is_none raw_node_of raw_node_field c.args.source.now (drop c.args.at c.args.source.now) c.read_row.result c.read_row.ensures.value
