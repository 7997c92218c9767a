use Rattle.std.proofs.Common.{arith}
use Rattle.kfs_entry.proofs.CodecLemmas.Found.{is_found, is_none}
use Rattle.kfs_call.specs.StateViews.{header_shown}
use Rattle.kfs_call.proofs.StateLaws.{state_header_field}
use Rattle.kfs_call.proofs.codec.state_header.read.Goals as goal

pub returns-clause-found : goal.returns-clause-found
returns-clause-found c =
    is_found header_shown state_header_field c.args.source.now 0 c.header_of_state.result (λ i. omega (arith, c.type_inv.source i)) c.header_of_state.ensures.value c.header_of_state.ensures.within

pub returns-clause-none : goal.returns-clause-none
returns-clause-none c =
    let source = c.args.source.now in
    is_none header_shown state_header_field source source c.header_of_state.result c.header_of_state.ensures.value
