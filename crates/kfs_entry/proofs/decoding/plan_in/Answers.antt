use Rattle.std.proofs.Common.{◌∙◌, refl, drop}
use Rattle.std.proofs.lemmas.Result.{err_from_is_err_and}
use Rattle.kfs_model.specs.Spelling.{name_row_bytes, IsNameRow, node_row_bytes, IsNodeRow, piece_bytes, IsPiece, plan_bytes}
use Rattle.kfs_types.specs.Views.{name_row_of, node_row_of, piece_of}
use Rattle.kfs_entry.specs.Codec.Headers.{plan_header_of}
use Rattle.kfs_entry.proofs.DecodedLog.{no_rest, some_rest}
use Rattle.kfs_entry.proofs.DecodedPlan.{part_stands, part_is_missing, plan_from, plan_was_read}
use Rattle.kfs_entry.proofs.decoding.plan_in.Goals as goal

pub returns-in_err-names : goal.returns-in_err-names
returns-in_err-names g c =
    let p = err_from_is_err_and c.from_residual-in_err-names.result c.from_residual-in_err-names.ensures.1 in
    let source = c.args.source.now in
    let header = c.in-Some.ensures.found in
    rw (p.1, p.2) (part_is_missing name_row_of IsNameRow name_row_bytes source (drop c.in-Some.at source) (plan_header_of c.in-Some.header) (drop c.in-Some.at source) 0 c.from.result c.in-Some.header.names
    c.in_err-names.field-0.0 c.from.ensures header.0 header.1.parts (λ k stop. stop) c.in_err-names.ensures.missing)

pub returns-in_err-nodes : goal.returns-in_err-nodes
returns-in_err-nodes g c =
    let p = err_from_is_err_and c.from_residual-in_err-nodes.result c.from_residual-in_err-nodes.ensures.1 in
    let source = c.args.source.now in
    let header = c.in-Some.ensures.found in
    let names = c.in_ok-names.ensures.found in
    let a = drop c.in-Some.at source in
    let b = drop c.in_ok-names.at source in
    let names_stand = part_stands name_row_of IsNameRow name_row_bytes c.in_ok-names.names.items c.in-Some.header.names a b (names.number ∙ c.from.ensures) names.are in
    rw (p.1, p.2) (part_is_missing node_row_of IsNodeRow node_row_bytes source b (plan_header_of c.in-Some.header) a 1 c.from-2.result c.in-Some.header.nodes
    c.in_err-nodes.field-0.0 c.from-2.ensures header.0 header.1.parts (λ k stop. (b, names_stand, stop)) c.in_err-nodes.ensures.missing)

pub returns-in_err-pieces : goal.returns-in_err-pieces
returns-in_err-pieces g c =
    let p = err_from_is_err_and c.from_residual-in_err-pieces.result c.from_residual-in_err-pieces.ensures.1 in
    let source = c.args.source.now in
    let header = c.in-Some.ensures.found in
    let names = c.in_ok-names.ensures.found in
    let nodes = c.in_ok-nodes.ensures.found in
    let a = drop c.in-Some.at source in
    let b = drop c.in_ok-names.at source in
    let d = drop c.in_ok-nodes.at source in
    let names_stand = part_stands name_row_of IsNameRow name_row_bytes c.in_ok-names.names.items c.in-Some.header.names a b (names.number ∙ c.from.ensures) names.are in
    let nodes_stand = part_stands node_row_of IsNodeRow node_row_bytes c.in_ok-nodes.nodes.items c.in-Some.header.nodes b d (nodes.number ∙ c.from-2.ensures) nodes.are in
    rw (p.1, p.2) (part_is_missing piece_of IsPiece piece_bytes source d (plan_header_of c.in-Some.header) a 2 c.in-Some.header.pieces c.in-Some.header.pieces
    c.in_err-pieces.field-0.0 refl header.0 header.1.parts (λ k stop. (b, d, names_stand, nodes_stand, stop)) c.in_err-pieces.ensures.missing)

pub returns-then-end-source : goal.returns-then-end-source
returns-then-end-source g c =
    let source = c.args.source.now in
    let header = c.in-Some.ensures.found in
    let p = plan_was_read source c.in-Some.at c.in_ok-names.at c.in_ok-nodes.at c.in_ok-pieces.end c.from.result c.from-2.result (plan_header_of c.in-Some.header) c.in_ok-names.names.items c.in_ok-nodes.nodes.items c.in_ok-pieces.pieces.items
    header.0 header.1.parts c.from.ensures c.in_ok-names.ensures.found c.from-2.ensures c.in_ok-nodes.ensures.found c.in_ok-pieces.ensures.found in
    (plan_from (plan_header_of c.in-Some.header) c.in_ok-names.names.items c.in_ok-nodes.nodes.items c.in_ok-pieces.pieces.items, drop c.in_ok-pieces.end source, p.0, some_rest source c.in_ok-pieces.end c.if-end-source.true, p.1)

pub returns : goal.returns
returns g c =
    let source = c.args.source.now in
    let header = c.in-Some.ensures.found in
    let p = plan_was_read source c.in-Some.at c.in_ok-names.at c.in_ok-nodes.at c.in_ok-pieces.end c.from.result c.from-2.result (plan_header_of c.in-Some.header) c.in_ok-names.names.items c.in_ok-nodes.nodes.items c.in_ok-pieces.pieces.items
    header.0 header.1.parts c.from.ensures c.in_ok-names.ensures.found c.from-2.ensures c.in_ok-nodes.ensures.found c.in_ok-pieces.ensures.found in
    rw (c.from_vec.ensures, c.from_vec-2.ensures, c.from_vec-3.ensures)
    (p.0, no_rest source (plan_bytes (plan_from (plan_header_of c.in-Some.header) c.in_ok-names.names.items c.in_ok-nodes.nodes.items c.in_ok-pieces.pieces.items)) c.in_ok-pieces.end c.if-end-source.false p.1)
