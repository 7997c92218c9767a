-- The decoder of answers as a function, for proofs.
use Rattle.std.specs.Prelude.{ℕ, Bool, true, false, List, Option, Some, None, Result, ◌==◌, if◌then◌else◌}
use Rattle.kfs_model.specs.Steps.{◌>>=◌}
use Rattle.kfs_model.proofs.Reading.{◌&◌, made, byte_read, number32_read, number64_read}
use Rattle.kfs_call.specs.AnswerRow.{FaultRow, Told, Yes, No, NoRoom, Leased, Dropped, Moved, Ticked, LeaseRefused, MovesRefused, AnswerRow}
use Rattle.kfs_call.specs.declared.codec.answer_tag.AnswerTag.{AnswerTag}
use Rattle.kfs_call.specs.declared.codec.answer_tag.AnswerTag.TheVariants as tags
use Rattle.kfs_call.specs.Readers.{made_of, step, end}

-- ---- fields

unfoldable pub answer_tag_read : List ℕ → Option (AnswerTag × List ℕ)
answer_tag_read bytes = byte_read bytes >>= λ b.
    if b.0 == 1 then Some (tags.Yes, b.1)
    else if b.0 == 2 then Some (tags.No, b.1)
    else if b.0 == 3 then Some (tags.NoRoom, b.1)
    else if b.0 == 4 then Some (tags.Leased, b.1)
    else if b.0 == 5 then Some (tags.Dropped, b.1)
    else if b.0 == 6 then Some (tags.Ticked, b.1)
    else if b.0 == 7 then Some (tags.Moved, b.1)
    else if b.0 == 8 then Some (tags.LeaseRefused, b.1)
    else if b.0 == 9 then Some (tags.MovesRefused, b.1)
    else None

unfoldable pub flag_read : List ℕ → Option (Bool × List ℕ)
flag_read bytes = byte_read bytes >>= λ b. if b.0 == 0 then Some (false, b.1) else if b.0 == 1 then Some (true, b.1) else None

unfoldable pub fault_read : List ℕ → Option (FaultRow × List ℕ)
fault_read bytes = made (λ f. record { code = f.0.0.0; reason = f.0.0.1; index = f.0.1; detail = f.1 }) (byte_read & byte_read & number64_read & number32_read) bytes

-- ---- the fields behind each tag

abbrev pub yes_read : List ℕ → Result (Told × List ℕ) ℕ
yes_read bytes = made_of (λ v. Yes v.0 v.1.0) (step 2 flag_read (λ _. step 3 number64_read (λ _. end)) bytes)

abbrev pub no_read : List ℕ → Result (Told × List ℕ) ℕ
no_read bytes = made_of (λ v. No v.0 v.1.0) (step 2 flag_read (λ _. step 3 fault_read (λ _. end)) bytes)

abbrev pub no_room_read : List ℕ → Result (Told × List ℕ) ℕ
no_room_read bytes = made_of (λ v. NoRoom v.0 v.1.0 v.1.1.0) (step 2 flag_read (λ _. step 3 number64_read (λ _. step 4 number32_read (λ _. end))) bytes)

abbrev pub leased_read : List ℕ → Result (Told × List ℕ) ℕ
leased_read bytes = made_of (λ v. Leased v.0) (step 2 number32_read (λ _. end) bytes)

abbrev pub dropped_read : List ℕ → Result (Told × List ℕ) ℕ
dropped_read bytes = made_of (λ v. Dropped v.0) (step 2 number32_read (λ _. end) bytes)

abbrev pub ticked_read : List ℕ → Result (Told × List ℕ) ℕ
ticked_read bytes = made_of (λ v. Ticked v.0) (step 2 number64_read (λ _. end) bytes)

abbrev pub moved_read : List ℕ → Result (Told × List ℕ) ℕ
moved_read bytes = made_of (λ v. Moved v.0) (step 2 number32_read (λ _. end) bytes)

abbrev pub lease_refused_read : List ℕ → Result (Told × List ℕ) ℕ
lease_refused_read bytes = made_of (λ v. LeaseRefused v.0) (step 2 fault_read (λ _. end) bytes)

abbrev pub moves_refused_read : List ℕ → Result (Told × List ℕ) ℕ
moves_refused_read bytes = made_of (λ v. MovesRefused v.0) (step 2 fault_read (λ _. end) bytes)

abbrev pub told_read : AnswerTag → List ℕ → Result (Told × List ℕ) ℕ
told_read tags.Yes = yes_read
told_read tags.No = no_read
told_read tags.NoRoom = no_room_read
told_read tags.Leased = leased_read
told_read tags.Dropped = dropped_read
told_read tags.Ticked = ticked_read
told_read tags.Moved = moved_read
told_read tags.LeaseRefused = lease_refused_read
told_read tags.MovesRefused = moves_refused_read

unfoldable pub answer_read : List ℕ → Result (AnswerRow × List ℕ) ℕ
answer_read bytes = made_of (λ v. record { position = v.0; told = v.1.1 }) (step 0 number32_read (λ _. step 1 answer_tag_read told_read) bytes)
