-- An answer that a buffer has room for is handed out.
use Rattle.std.proofs.Common.{◌≡◌, ◌⊎◌, ◌≤◌, inl, inr, ℕ, List, length, refl, sym, subst, arith}
use Rattle.kfs_call.specs.AnswerRow.{AnswerRow, answer_bytes}
use Rattle.kfs_call_desk.specs.Told.{IsAnswer}
use Rattle.kfs_call_desk.specs.declared.made.Called.{Called}
use Rattle.kfs_c.specs.Reading.{AreLonger, BeginsWith}
use Rattle.kfs_c.specs.Spelled.{IsAnswerGiven}

pub handed : (bytes before after : List ℕ) (count status : ℕ) → length bytes ≤ 20 → 20 ≤ length before → (status ≡ 5 → AreLonger bytes before count) → (status ≡ 0) ⊎ (status ≡ 5) → status ≡ 0
handed bytes before after count status short room longer (inl done) = done
handed bytes before after count status short room longer (inr lacks) =
    let is = longer lacks in
    let same = is.0 in
    let less = is.1 in
    absurd (omega (arith, same, less, short, room))

pub given : (called : Called) (answer : AnswerRow) (bytes before after : List ℕ) (count : ℕ) → IsAnswer called answer → bytes ≡ answer_bytes answer → BeginsWith bytes before after count → IsAnswerGiven called before after count
given called answer bytes before after count is spelled begins = (answer, is, subst (λ (b : List ℕ). BeginsWith b before after count) spelled begins)
