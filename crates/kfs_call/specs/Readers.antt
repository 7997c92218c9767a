-- The decoder of calls as a function, for proofs.
use Rattle.std.specs.Prelude.{ℕ, zero, suc, List, [], ◌∷◌, Option, Some, None, Result, Ok, Err, ◌==◌, if◌then◌else◌}
use Rattle.kfs_model.specs.Lease.{LeaseKind, ReadLease, WriteLease}
use Rattle.kfs_model.specs.Migration.{Move}
use Rattle.kfs_model.specs.Steps.{◌>>=◌}
use Rattle.kfs_model.proofs.Reading.{◌&◌, made, byte_read, number16_read, number32_read, number64_read, bytes_read}
use Rattle.kfs_call.specs.Call.{Call, Submit, Lease, Drop, Tick, Migrate, LeaseAt}
use Rattle.kfs_call.specs.declared.codec.tag.Tag.{Tag}
use Rattle.kfs_call.specs.declared.codec.tag.Tag.TheVariants as tags

-- ---- readers

-- what an answer leads to, or what none does
abbrev pub with_option : {V W : Type 0} → Option V → W → (V → W) → W
with_option None otherwise f = otherwise
with_option (Some x) otherwise f = f x

-- the value made of what was read, or the same missing field
abbrev pub made_of : {V W : Type 0} → (V → W) → Result (V × List ℕ) ℕ → Result (W × List ℕ) ℕ
made_of f (Ok x) = Ok (f x.0, x.1)
made_of f (Err k) = Err k

-- a field, and then a layout that depends on it; n fields come before
abbrev pub step : {V W : Type 0} → (n : ℕ) → (List ℕ → Option (V × List ℕ)) → (V → List ℕ → Result (W × List ℕ) ℕ) → List ℕ → Result ((V × W) × List ℕ) ℕ
step n r q bytes = with_option (r bytes) (Err n) (λ x. made_of (λ y. (x.0, y)) (q x.0 x.1))

-- no further field
abbrev pub end : List ℕ → Result (Unit {0} × List ℕ) ℕ
end bytes = Ok (tt, bytes)

-- so many fields of one kind; n fields come before
unfoldable pub rows_at : {V : Type 0} → (List ℕ → Option (V × List ℕ)) → (n count : ℕ) → List ℕ → Result (List V × List ℕ) ℕ
rows_at r n zero bytes = Ok ([], bytes)
rows_at r n (suc count) bytes = made_of (λ x. x.0 ∷ x.1) (step n r (λ row. rows_at r (suc n) count) bytes)

-- ---- fields

unfoldable pub tag_read : List ℕ → Option (Tag × List ℕ)
tag_read bytes = byte_read bytes >>= λ b.
    if b.0 == 1 then Some (tags.Submit, b.1)
    else if b.0 == 2 then Some (tags.Lease, b.1)
    else if b.0 == 3 then Some (tags.Drop, b.1)
    else if b.0 == 4 then Some (tags.Tick, b.1)
    else if b.0 == 5 then Some (tags.Migrate, b.1)
    else if b.0 == 6 then Some (tags.LeaseAt, b.1)
    else None

unfoldable pub lease_kind_read : List ℕ → Option (LeaseKind × List ℕ)
lease_kind_read bytes = byte_read bytes >>= λ b. if b.0 == 0 then Some (ReadLease, b.1) else if b.0 == 1 then Some (WriteLease, b.1) else None

unfoldable pub long_read : List ℕ → Option (List ℕ × List ℕ)
long_read bytes = number32_read bytes >>= λ len. bytes_read len.0 len.1

unfoldable pub short_read : List ℕ → Option (List ℕ × List ℕ)
short_read bytes = number16_read bytes >>= λ len. bytes_read len.0 len.1

unfoldable pub move_read : List ℕ → Option (Move × List ℕ)
move_read bytes =
    made (λ f. record { number = f.0.0.0; block = f.0.0.1; target = record { tier = f.0.1; place = f.1 } }) (number32_read & number32_read & byte_read & number32_read) bytes

-- ---- the fields behind each tag

abbrev pub submit_read : List ℕ → Result (Call × List ℕ) ℕ
submit_read bytes = made_of (λ v. Submit v.0 v.1.0 v.1.1.0) (step 1 number32_read (λ _. step 2 long_read (λ _. step 3 long_read (λ _. end))) bytes)

abbrev pub lease_read : List ℕ → Result (Call × List ℕ) ℕ
lease_read bytes =
    made_of (λ v. Lease v.0 v.1.0 v.1.1.0 v.1.1.1.0) (step 1 number32_read (λ _. step 2 lease_kind_read (λ _. step 3 number64_read (λ _. step 4 short_read (λ _. end)))) bytes)

abbrev pub drop_read : List ℕ → Result (Call × List ℕ) ℕ
drop_read bytes = made_of (λ v. Drop v.0 v.1.0) (step 1 number32_read (λ _. step 2 number32_read (λ _. end)) bytes)

abbrev pub tick_read : List ℕ → Result (Call × List ℕ) ℕ
tick_read bytes = made_of (λ v. Tick v.0) (step 1 number64_read (λ _. end) bytes)

abbrev pub migrate_read : List ℕ → Result (Call × List ℕ) ℕ
migrate_read bytes = made_of (λ v. Migrate v.1) (step 1 number16_read (rows_at move_read 2) bytes)

abbrev pub lease_at_read : List ℕ → Result (Call × List ℕ) ℕ
lease_at_read bytes =
    made_of (λ v. LeaseAt v.0 v.1.0 v.1.1.0 v.1.1.1.0) (step 1 number32_read (λ _. step 2 lease_kind_read (λ _. step 3 number64_read (λ _. step 4 number32_read (λ _. end)))) bytes)

abbrev pub tail_read : Tag → List ℕ → Result (Call × List ℕ) ℕ
tail_read tags.Submit = submit_read
tail_read tags.Lease = lease_read
tail_read tags.Drop = drop_read
tail_read tags.Tick = tick_read
tail_read tags.Migrate = migrate_read
tail_read tags.LeaseAt = lease_at_read

unfoldable pub call_read : List ℕ → Result (Call × List ℕ) ℕ
call_read bytes = made_of (λ v. v.1) (step 0 tag_read tail_read bytes)
