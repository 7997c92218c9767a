-- The lines are taken one after another, up to the first that is refused.
use Rattle.std.proofs.Common.{[], ◌∷◌, false}
use Rattle.std.proofs.KnownBytes.{Consumes-nil}
use Rattle.kfs_program.specs.declared.answer.LineWord.TheVariants.{Plan}
use Rattle.kfs_program.proofs.Lines.{none_taken}
use Rattle.kfs_program.proofs.Planned.{client_known, image_known, refuses_client, refuses_image, says_log}
use Rattle.kfs_program.proofs.Told.{said, stopped, without_memory}
use Rattle.kfs_program.proofs.planning.tell_plan.Goals as goal

pub returns-in_err-take_line : goal.returns-in_err-take_line
returns-in_err-take_line g c =
    let before = g.I.Read.remaining c.args.reader.now in
    let new = none_taken before c.new-unread.result (Consumes-nil before) c.new-unread.ensures.bytes c.new-unread.ensures.goes_on in
    let (input, taken) = c.in_err-take_line.ensures before [] [] new in
    stopped g.row.A.Denot Plan before _ input _ [] c.take_line.new.self c.take_line.new.line.items c.in_err-take_line.field-0.0 c.from_residual.result c.from_residual.ensures.1 tt taken

pub returns-in_err-image : goal.returns-in_err-image
returns-in_err-image g c =
    let before = g.I.Read.remaining c.args.reader.now in
    let new = none_taken before c.new-unread.result (Consumes-nil before) c.new-unread.ensures.bytes c.new-unread.ensures.goes_on in
    let (input, taken) = c.in_ok-take_line.ensures before [] [] new in
    let first = c.take_line.new.line.items in
    without_memory g.row.A.Denot Plan before _ input _ _ _ c.from_residual-in_err-image.result c.from_residual-in_err-image.ensures.1 taken

pub returns-in_default : goal.returns-in_default
returns-in_default g c =
    let before = g.I.Read.remaining c.args.reader.now in
    let new = none_taken before c.new-unread.result (Consumes-nil before) c.new-unread.ensures.bytes c.new-unread.ensures.goes_on in
    let (input, taken) = c.in_ok-take_line.ensures before [] [] new in
    let first = c.take_line.new.line.items in
    let refused = refuses_image first c.deref.result.now c.image_in.new.text.items _ c.deref.ensures.value c.in_default.is c.in_ok-image.ensures in
    said g.row.A.Denot Plan before _ input _ _ _ false taken refused

pub returns-in_err-take_line-2 : goal.returns-in_err-take_line-2
returns-in_err-take_line-2 g c =
    let before = g.I.Read.remaining c.args.reader.now in
    let new = none_taken before c.new-unread.result (Consumes-nil before) c.new-unread.ensures.bytes c.new-unread.ensures.goes_on in
    let (input, taken) = c.in_ok-take_line.ensures before [] [] new in
    let first = c.take_line.new.line.items in
    let known = image_known first c.deref.result.now c.image_in.new.text.items _ c.in-Some.image c.deref.ensures.value c.in-Some.is c.in_ok-image.ensures in
    let (input2, taken2) = c.in_err-take_line-2.ensures before input (first ∷ []) taken in
    stopped g.row.A.Denot Plan before _ input2 _ (first ∷ []) c.take_line-2.new.self c.take_line-2.new.line.items c.in_err-take_line-2.field-0.0 c.from_residual-in_err-take_line-2.result c.from_residual-in_err-take_line-2.ensures.1 (c.in-Some.image, known) taken2

pub returns-in_err-client : goal.returns-in_err-client
returns-in_err-client g c =
    let before = g.I.Read.remaining c.args.reader.now in
    let new = none_taken before c.new-unread.result (Consumes-nil before) c.new-unread.ensures.bytes c.new-unread.ensures.goes_on in
    let (input, taken) = c.in_ok-take_line.ensures before [] [] new in
    let first = c.take_line.new.line.items in
    let (input2, taken2) = c.in_ok-take_line-2.ensures before input (first ∷ []) taken in
    let second = c.take_line-2.new.line.items in
    without_memory g.row.A.Denot Plan before _ input2 _ _ _ c.from_residual-in_err-client.result c.from_residual-in_err-client.ensures.1 taken2

pub returns-in_default-2 : goal.returns-in_default-2
returns-in_default-2 g c =
    let before = g.I.Read.remaining c.args.reader.now in
    let new = none_taken before c.new-unread.result (Consumes-nil before) c.new-unread.ensures.bytes c.new-unread.ensures.goes_on in
    let (input, taken) = c.in_ok-take_line.ensures before [] [] new in
    let first = c.take_line.new.line.items in
    let known = image_known first c.deref.result.now c.image_in.new.text.items _ c.in-Some.image c.deref.ensures.value c.in-Some.is c.in_ok-image.ensures in
    let (input2, taken2) = c.in_ok-take_line-2.ensures before input (first ∷ []) taken in
    let second = c.take_line-2.new.line.items in
    let refused = refuses_client first second c.deref-2.result.now c.client_in.new.text.items _ _ c.deref-2.ensures.value c.in_default-2.is known c.in_ok-client.ensures in
    said g.row.A.Denot Plan before _ input2 _ _ _ false taken2 refused

pub returns-in_err-take_line-3 : goal.returns-in_err-take_line-3
returns-in_err-take_line-3 g c =
    let before = g.I.Read.remaining c.args.reader.now in
    let new = none_taken before c.new-unread.result (Consumes-nil before) c.new-unread.ensures.bytes c.new-unread.ensures.goes_on in
    let (input, taken) = c.in_ok-take_line.ensures before [] [] new in
    let first = c.take_line.new.line.items in
    let known = image_known first c.deref.result.now c.image_in.new.text.items _ c.in-Some.image c.deref.ensures.value c.in-Some.is c.in_ok-image.ensures in
    let (input2, taken2) = c.in_ok-take_line-2.ensures before input (first ∷ []) taken in
    let second = c.take_line-2.new.line.items in
    let client = client_known second c.deref-2.result.now c.client_in.new.text.items _ c.in-Some-2.client c.deref-2.ensures.value c.in-Some-2.is c.in_ok-client.ensures in
    let (input3, taken3) = c.in_err-take_line-3.ensures before input2 (first ∷ second ∷ []) taken2 in
    stopped g.row.A.Denot Plan before _ input3 _ (first ∷ second ∷ []) c.take_line-3.new.self c.take_line-3.new.line.items c.in_err-take_line-3.field-0.0 c.from_residual-in_err-take_line-3.result c.from_residual-in_err-take_line-3.ensures.1 (c.in-Some.image, c.in-Some-2.client, known, client) taken3

pub returns-in_err-tell_log : goal.returns-in_err-tell_log
returns-in_err-tell_log g c =
    let before = g.I.Read.remaining c.args.reader.now in
    let new = none_taken before c.new-unread.result (Consumes-nil before) c.new-unread.ensures.bytes c.new-unread.ensures.goes_on in
    let (input, taken) = c.in_ok-take_line.ensures before [] [] new in
    let first = c.take_line.new.line.items in
    let (input2, taken2) = c.in_ok-take_line-2.ensures before input (first ∷ []) taken in
    let second = c.take_line-2.new.line.items in
    let (input3, taken3) = c.in_ok-take_line-3.ensures before input2 (first ∷ second ∷ []) taken2 in
    let third = c.take_line-3.new.line.items in
    without_memory g.row.A.Denot Plan before _ input3 _ _ _ c.from_residual-in_err-tell_log.result c.from_residual-in_err-tell_log.ensures.1 taken3

pub returns : goal.returns
returns g c =
    let before = g.I.Read.remaining c.args.reader.now in
    let new = none_taken before c.new-unread.result (Consumes-nil before) c.new-unread.ensures.bytes c.new-unread.ensures.goes_on in
    let (input, taken) = c.in_ok-take_line.ensures before [] [] new in
    let first = c.take_line.new.line.items in
    let known = image_known first c.deref.result.now c.image_in.new.text.items _ c.in-Some.image c.deref.ensures.value c.in-Some.is c.in_ok-image.ensures in
    let (input2, taken2) = c.in_ok-take_line-2.ensures before input (first ∷ []) taken in
    let second = c.take_line-2.new.line.items in
    let client = client_known second c.deref-2.result.now c.client_in.new.text.items _ c.in-Some-2.client c.deref-2.ensures.value c.in-Some-2.is c.in_ok-client.ensures in
    let (input3, taken3) = c.in_ok-take_line-3.ensures before input2 (first ∷ second ∷ []) taken2 in
    let third = c.take_line-3.new.line.items in
    let says = says_log first second third c.deref-3.result.now c.tell_log.new.text.items c.in-Some.image c.in-Some-2.client _ c.deref-3.ensures.value known client c.in_ok-tell_log.ensures in
    said g.row.A.Denot Plan before _ input3 _ _ _ _ taken3 says
