use Rattle.std.proofs.Common.{◌≡◌, Ok}
use Rattle.std.proofs.lemmas.Result.{err_from_is_err_and}
use Rattle.kfs_image.specs.Codec.RawImages.{raw_of}
use Rattle.kfs_call.specs.StateViews.{state_shown}
use Rattle.kfs_call_desk.specs.Restore.Restored.{RestoreAnswer, verdict}
use Rattle.kfs_call_desk.proofs.RestoreLemmas.OneAnswer.{OnRestored-weaker}
use Rattle.kfs_call_desk.proofs.RestoreLemmas.ReadFaults.{image_refused, state_refused}
use Rattle.kfs_call_desk.proofs.restore.restoring.restore_in.Goals as goal

pub returns-in_err-rows : goal.returns-in_err-rows
returns-in_err-rows g c =
    let p = err_from_is_err_and c.from_residual.result c.from_residual.ensures.1 in
    rw (p.1, p.2) (state_refused c.args.bytes.now (state_shown {A = g.row.A.Denot}) c.in_err-rows.field-0.0 c.in_err-rows.ensures.found)

pub returns-in_err-raw : goal.returns-in_err-raw
returns-in_err-raw g c =
    let p = err_from_is_err_and c.from_residual-in_err-raw.result c.from_residual-in_err-raw.ensures.1 in
    rw (p.1, p.2) (image_refused c.args.bytes.now (state_shown {A = g.row.A.Denot} c.in_ok-rows.rows) c.in_ok-rows.ensures.found c.in_err-raw.field-0.0 c.in_err-raw.ensures.found)

pub returns : goal.returns
returns g c =
    let s = state_shown {A = g.row.A.Denot} c.in_ok-rows.rows in
    let raw = raw_of c.in_ok-raw.raw in
    OnRestored-weaker c.args.limit (λ answer. answer ≡ verdict s raw) (RestoreAnswer c.args.bytes.now) (λ answer is. (Ok s, c.in_ok-rows.ensures.found, (Ok raw, c.in_ok-raw.ensures.found, is))) c.desk_of.result c.desk_of.ensures
