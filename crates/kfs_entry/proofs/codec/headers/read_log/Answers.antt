use Rattle.std.proofs.Common.{arith}
use Rattle.kfs_entry.specs.Codec.Headers.{log_header_of}
use Rattle.kfs_model.proofs.HeaderLaws.{log_header_field}
use Rattle.kfs_entry.proofs.CodecLemmas.Found.{is_found, is_none}
use Rattle.kfs_entry.proofs.codec.headers.read_log.Goals as goal

pub returns-clause-found : goal.returns-clause-found
returns-clause-found c =
    is_found log_header_of log_header_field c.args.source.now 0 c.header_of_log.result (λ i. omega (arith, c.type_inv.source i)) c.header_of_log.ensures.value c.header_of_log.ensures.within

pub returns-clause-none : goal.returns-clause-none
returns-clause-none c =
    let source = c.args.source.now in
    is_none log_header_of log_header_field source source c.header_of_log.result c.header_of_log.ensures.value
