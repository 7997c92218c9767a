use Rattle.std.proofs.Common.{arith}
use Rattle.kfs_entry.specs.Codec.Headers.{plan_header_of}
use Rattle.kfs_model.proofs.HeaderLaws.{plan_header_field}
use Rattle.kfs_entry.proofs.CodecLemmas.Found.{is_found, is_none}
use Rattle.kfs_entry.proofs.codec.headers.read_plan.Goals as goal

pub returns-clause-found : goal.returns-clause-found
returns-clause-found c =
    is_found plan_header_of plan_header_field c.args.source.now 0 c.header_of_plan.result (λ i. omega (arith, c.type_inv.source i)) c.header_of_plan.ensures.value c.header_of_plan.ensures.within

pub returns-clause-none : goal.returns-clause-none
returns-clause-none c =
    let source = c.args.source.now in
    is_none plan_header_of plan_header_field source source c.header_of_plan.result c.header_of_plan.ensures.value
