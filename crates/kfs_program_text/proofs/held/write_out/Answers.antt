use Rattle.std.proofs.Common.{◌+◌, ◌≤◌, ◌++◌, length, take, ap, sym, subst, ◌∙◌, arith, length-drop}
use Rattle.std.proofs.Math.Seq.{take-add}
use Rattle.std.proofs.lemmas.List.{take_rest}
use Rattle.std.proofs.KnownBytes.{Appends-trans}
use Rattle.std.specs.Io.KnownBytes.{Appends}
use Rattle.kfs_program_text.proofs.held.write_out.Goals as goal

pub writes-preserved : goal.writes-preserved
writes-preserved g c =
    let bytes = c.args.bytes.now in
    let count = c.writes.count in
    let more = c.in-Ok.more in
    let least = subst (λ rest. more ≤ length rest) (take_rest bytes count) c.in-Ok.ensures.count in
    let kept = c.writes.invariant.0 in
    let long = length-drop count bytes in
    let within : count + more ≤ length bytes = omega arith in
    let all = take-add count more bytes ∙ ap (λ rest. take count bytes ++ take more rest) (sym (take_rest bytes count)) in
    (within, subst (Appends (g.W.Write.contents c.args.writer.now) (g.W.Write.contents c.write_some.new.writer)) (sym all) (Appends-trans _ _ _ _ _ c.writes.invariant.1 c.in-Ok.ensures.text))
