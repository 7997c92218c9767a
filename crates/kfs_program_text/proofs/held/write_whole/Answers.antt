use Rattle.std.proofs.Common.{◌≡◌, ℕ, List, length, take, drop, Result, Ok, Err, sym, ap, ◌∙◌, take-append-drop}
use Rattle.std.specs.Prelude.{OnOk}
use Rattle.std.proofs.Common.{take_all, le_refl}
use Rattle.kfs_program_text.specs.Streams.{IsWritten}
use Rattle.kfs_program_text.proofs.held.write_whole.Goals as goal

-- all was written, or a first part
written : {T E : Type 0} (result : Result T E) (bytes : List ℕ) (count : ℕ) → OnOk result (count ≡ length bytes) → IsWritten result bytes (take count bytes)
written (Ok x) bytes count all = ap (λ n. take n bytes) all ∙ take_all (length bytes) bytes (le_refl (length bytes))
written (Err e) bytes count all = (drop count bytes, sym (take-append-drop count bytes))

pub returns : goal.returns
returns g c =
    let bytes = c.args.bytes.now in
    let wrote = c.write_out-count in
    (take wrote.result.0 bytes, wrote.ensures.text, written wrote.result.1 bytes wrote.result.0 wrote.ensures.all)
