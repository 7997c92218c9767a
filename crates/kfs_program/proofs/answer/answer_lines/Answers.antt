use Rattle.kfs_program.proofs.Told.{untold, written, written_in_part}
use Rattle.kfs_program.proofs.answer.answer_lines.Goals as goal

pub returns-in_err-is_done : goal.returns-in_err-is_done
returns-in_err-is_done g c =
    let remaining = g.I.Read.remaining in
    let contents = g.O.Write.contents in
    untold g.row.A.Denot c.args.word (remaining c.args.reader.now) (remaining c.tell.new.reader) (contents c.args.writer.now) c.tell.new.text.items c.in_err-is_done.field-0.0 c.from_residual.result c.from_residual.ensures.1
    c.in_err-is_done.ensures

pub returns-in_err-write_text : goal.returns-in_err-write_text
returns-in_err-write_text g c =
    let remaining = g.I.Read.remaining in
    let contents = g.O.Write.contents in
    written_in_part g.row.A.Denot c.args.word (remaining c.args.reader.now) (remaining c.tell.new.reader) (contents c.args.writer.now) (contents c.write_text.new.writer) c.deref.result.now c.tell.new.text.items c.in_ok-is_done.is_done
    c.deref.ensures.value c.in_ok-is_done.ensures c.in_err-write_text.field-0.0 c.from_residual-in_err-write_text.result c.in_err-write_text.ensures.fault c.from_residual-in_err-write_text.ensures.1 c.in_err-write_text.ensures.text

pub returns : goal.returns
returns g c =
    let remaining = g.I.Read.remaining in
    let contents = g.O.Write.contents in
    written g.row.A.Denot c.args.word (remaining c.args.reader.now) (remaining c.tell.new.reader) (contents c.args.writer.now) (contents c.write_text.new.writer) c.deref.result.now c.tell.new.text.items c.in_ok-is_done.is_done
    c.deref.ensures.value c.in_ok-is_done.ensures c.in_ok-write_text.ensures.text
