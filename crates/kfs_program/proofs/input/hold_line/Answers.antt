use Rattle.std.proofs.lemmas.Result.{err_from_is_err_and}
use Rattle.kfs_program.proofs.Lines.{held_broken, held_on, held_whole}
use Rattle.kfs_program.proofs.input.hold_line.Goals as goal

pub returns-in_err-keep-in-Some : goal.returns-in_err-keep-in-Some
returns-in_err-keep-in-Some g c =
    let p = err_from_is_err_and c.from_residual.result c.from_residual.ensures.1 in
    rw (p.1, p.2) (held_broken c.args.line.now.items c.args.left.now.items c.args.bytes.now c.requires c.in-Some.part.now c.keep.new.line.items _ _ c.in-Some.ensures.cut c.in_err-keep-in-Some.ensures)

pub returns-in_err-keep-in-None : goal.returns-in_err-keep-in-None
returns-in_err-keep-in-None g c =
    let p = err_from_is_err_and c.from_residual-in_err-keep-in-None.result c.from_residual-in_err-keep-in-None.ensures.1 in
    rw (p.1, p.2)
    (held_broken c.args.line.now.items c.args.left.now.items c.args.bytes.now c.requires c.args.bytes.now c.keep-in-None.new.line.items _ _ c.in-None.ensures.cut c.in_err-keep-in-None.ensures)

pub returns-in_ok-extend_from_slice-in-Some : goal.returns-in_ok-extend_from_slice-in-Some
returns-in_ok-extend_from_slice-in-Some g c =
    held_whole c.args.line.now.items c.args.left.now.items c.args.bytes.now c.requires c.in-Some.part.now c.in-Some.behind.now c.keep.new.line.items c.extend_from_slice.new.self.items c.in-Some.ensures.cut
    c.in_ok-keep-in-Some.ensures c.in_ok-extend_from_slice-in-Some.ensures.items

pub returns-in_ok-keep-in-None : goal.returns-in_ok-keep-in-None
returns-in_ok-keep-in-None g c =
    held_on c.args.line.now.items c.args.left.now.items c.args.bytes.now c.requires c.keep-in-None.new.line.items c.in-None.ensures.cut c.in_ok-keep-in-None.ensures
