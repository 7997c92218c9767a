use Rattle.std.proofs.Common.{[], refl}
use Rattle.std.proofs.KnownBytes.{Consumes-nil}
use Rattle.kfs_program.specs.Images.Showing.{Shows}
use Rattle.kfs_program.specs.declared.answer.LineWord.TheVariants.{Show}
use Rattle.kfs_program.proofs.Lines.{none_taken}
use Rattle.kfs_program.proofs.Told.{answers, said, stopped, without_memory}
use Rattle.kfs_program.proofs.answer.tell_rows.Goals as goal

pub returns-in_err-take_line : goal.returns-in_err-take_line
returns-in_err-take_line g c =
    let before = g.I.Read.remaining c.args.reader.now in
    let new = none_taken before c.new.result (Consumes-nil before) c.new.ensures.bytes c.new.ensures.goes_on in
    let (input, taken) = c.in_err-take_line.ensures before [] [] new in
    stopped g.row.A.Denot Show before _ input _ [] c.take_line.new.self c.take_line.new.line.items c.in_err-take_line.field-0.0 c.from_residual.result c.from_residual.ensures.1 refl taken

pub returns-in_err-push_rows : goal.returns-in_err-push_rows
returns-in_err-push_rows g c =
    let before = g.I.Read.remaining c.args.reader.now in
    let new = none_taken before c.new.result (Consumes-nil before) c.new.ensures.bytes c.new.ensures.goes_on in
    let (input, taken) = c.in_ok-take_line.ensures before [] [] new in
    without_memory g.row.A.Denot Show before _ input _ _ _ c.from_residual-in_err-push_rows.result c.from_residual-in_err-push_rows.ensures.1 taken

pub returns : goal.returns
returns g c =
    let before = g.I.Read.remaining c.args.reader.now in
    let new = none_taken before c.new.result (Consumes-nil before) c.new.ensures.bytes c.new.ensures.goes_on in
    let (input, taken) = c.in_ok-take_line.ensures before [] [] new in
    let line = c.take_line.new.line.items in
    let told = answers (Shows g.row.A.Denot) line c.deref.result.now c.args.text.now.items c.push_rows.new.out.items _ c.deref.ensures.value c.requires c.in_ok-push_rows.ensures in
    said g.row.A.Denot Show before _ input _ _ _ _ taken told
