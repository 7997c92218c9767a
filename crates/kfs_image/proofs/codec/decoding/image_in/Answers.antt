use Rattle.std.proofs.Common.{◌+◌, drop}
use Rattle.std.proofs.lemmas.Result.{err_from_is_err_and}
use Rattle.kfs_model.specs.Device.Spelling.{raw_image_bytes}
use Rattle.kfs_entry.proofs.DecodedLog.{no_rest, some_rest}
use Rattle.kfs_image.specs.Codec.Headers.{image_header_of}
use Rattle.kfs_image.proofs.CodecLemmas.DecodedImage.{image_from, image_was_read, node_is_missing, name_is_missing, extent_is_missing, in_source}
use Rattle.kfs_image.proofs.codec.decoding.image_in.Goals as goal

pub copies-requires : goal.copies-requires
copies-requires g c =
    rw c.as_slice.ensures.value (in_source c.args.source.now c.in_ok-names.at c.in-Some.header.extents c.in_ok-spanned.spanned.items c.in_ok-spanned.end c.in_ok-spanned.ensures.found)

pub returns-in_err-nodes : goal.returns-in_err-nodes
returns-in_err-nodes g c =
    let p = err_from_is_err_and c.from_residual-in_err-nodes.result c.from_residual-in_err-nodes.ensures.1 in
    let header = c.in-Some.ensures.found in
    rw (p.1, p.2) (node_is_missing c.args.source.now (image_header_of c.in-Some.header) header.0 c.in-Some.at header.1.parts c.in_err-nodes.field-0.0 c.in_err-nodes.ensures.missing)

pub returns-in_err-names : goal.returns-in_err-names
returns-in_err-names g c =
    let p = err_from_is_err_and c.from_residual-in_err-names.result c.from_residual-in_err-names.ensures.1 in
    let header = c.in-Some.ensures.found in
    rw (p.1, p.2) (name_is_missing c.args.source.now (image_header_of c.in-Some.header) header.0 c.in-Some.at header.1.parts c.in_ok-nodes.at c.from-before_names.result c.in_ok-nodes.nodes.items c.in_err-names.field-0.0 c.from-before_names.ensures c.in_ok-nodes.ensures.found c.in_err-names.ensures.missing)

pub returns-in_err-spanned : goal.returns-in_err-spanned
returns-in_err-spanned g c =
    let p = err_from_is_err_and c.from_residual-in_err-spanned.result c.from_residual-in_err-spanned.ensures.1 in
    let header = c.in-Some.ensures.found in
    rw (p.1, p.2) (extent_is_missing c.args.source.now (image_header_of c.in-Some.header) header.0 c.in-Some.at header.1.parts c.in_ok-nodes.at c.in_ok-names.at (c.from-before_names.result + c.from.result) c.in_ok-nodes.nodes.items c.in_ok-names.names.items
    c.in_err-spanned.field-0.0 (λ i. c.from-before_names.ensures i + c.from.ensures i) c.in_ok-nodes.ensures.found c.in_ok-names.ensures.found c.in_err-spanned.ensures.missing)

pub returns-then-end-source : goal.returns-then-end-source
returns-then-end-source g c =
    let source = c.args.source.now in
    let header = c.in-Some.ensures.found in
    let h = image_header_of c.in-Some.header in
    let read = image_was_read source h header.0 c.in-Some.at header.1.parts c.in_ok-nodes.at c.in_ok-names.at c.in_ok-spanned.end c.in_ok-nodes.nodes.items c.in_ok-names.names.items c.in_ok-spanned.spanned.items
    c.in_ok-nodes.ensures.found c.in_ok-names.ensures.found c.in_ok-spanned.ensures.found in
    (image_from h source c.in_ok-nodes.nodes.items c.in_ok-names.names.items c.in_ok-spanned.spanned.items, drop c.in_ok-spanned.end source, read.0, some_rest source c.in_ok-spanned.end c.if-end-source.true, read.1)

pub returns : goal.returns
returns g c =
    let source = c.args.source.now in
    let header = c.in-Some.ensures.found in
    let h = image_header_of c.in-Some.header in
    let read = image_was_read source h header.0 c.in-Some.at header.1.parts c.in_ok-nodes.at c.in_ok-names.at c.in_ok-spanned.end c.in_ok-nodes.nodes.items c.in_ok-names.names.items c.in_ok-spanned.spanned.items
    c.in_ok-nodes.ensures.found c.in_ok-names.ensures.found c.in_ok-spanned.ensures.found in
    rw (c.in_ok-extents.ensures, c.as_slice.ensures.value)
    (read.0, no_rest source (raw_image_bytes (image_from h source c.in_ok-nodes.nodes.items c.in_ok-names.names.items c.in_ok-spanned.spanned.items)) c.in_ok-spanned.end c.if-end-source.false read.1)
