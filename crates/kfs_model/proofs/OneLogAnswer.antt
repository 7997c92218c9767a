-- Bytes have one answer as a log: what it must be is a function of the bytes.
use Rattle.std.proofs.Common.{◌≡◌, ◌≢◌, ℕ, List, [], ◌∷◌, ◌++◌, Result, Ok, Err, refl, sym, ap, subst, ◌∙◌, append_assoc}
use Rattle.std.specs.List.{flat_map}
use Rattle.std.proofs.lemmas.List.{append-nil}
use Rattle.kfs_model.specs.Entry.{Entry, Log}
use Rattle.kfs_model.specs.Spelling.{IsBytes, BeginsWithNo, LogHeader, IsLogHeader, log_header, IsEntry, entry_bytes, log_header_of, IsLog, log_bytes, LogAnswer, SpellingFault, BadHeader, BadEntry, Trailing, BadRow}
use Rattle.kfs_model.proofs.Reading.{log_header_read, entry_read}
use Rattle.kfs_model.proofs.EntryLaws.{entry_field}
use Rattle.kfs_model.proofs.HeaderLaws.{log_header_field}
use Rattle.kfs_model.proofs.RowsRead.{IsBytes-behind, with_option, rows_read, none_read, rows_stand, stop_is_read}

abbrev log_rest : LogHeader → List Entry → List ℕ → Result Log SpellingFault
log_rest h entries [] = Ok (record { version = h.version; client = h.client; entries = entries })
log_rest h entries (b ∷ more) = Err Trailing

abbrev log_rows : LogHeader → Result (List Entry × List ℕ) ℕ → Result Log SpellingFault
log_rows h (Ok x) = log_rest h x.0 x.1
log_rows h (Err k) = Err (BadEntry k)

-- the one answer to the bytes
unfoldable pub log_reading : List ℕ → Result Log SpellingFault
log_reading bytes = with_option (log_header_read bytes) (Err BadHeader) (λ h. log_rows h.0 (rows_read (entry_read h.0.version) h.0.count h.1))

trailing : (h : LogHeader) (entries : List Entry) (more : List ℕ) → more ≢ [] → log_rest h entries more ≡ Err Trailing
trailing h entries [] some = absurd (some refl)
trailing h entries (b ∷ more) some = refl

-- the answer behind a header
behind_header : (h : LogHeader) (rest : List ℕ) → IsLogHeader h → log_reading (log_header h ++ rest) ≡ log_rows h (rows_read (entry_read h.version) h.count rest)
unfolding log_reading
behind_header h rest fits = ap (λ o. with_option o (Err BadHeader) (λ x. log_rows x.0 (rows_read (entry_read x.0.version) x.0.count x.1))) (log_header_field.again h rest fits)

no_header : (bytes : List ℕ) → IsBytes bytes → BeginsWithNo IsLogHeader log_header bytes → log_reading bytes ≡ Err BadHeader
unfolding log_reading
no_header bytes fits never =
    ap (λ o. with_option o (Err BadHeader) (λ x. log_rows x.0 (rows_read (entry_read x.0.version) x.0.count x.1))) (none_read IsLogHeader log_header log_header_read log_header_field bytes fits never)

whole_log : (l : Log) (more : List ℕ) → IsLog l → log_reading (log_bytes l ++ more) ≡ log_rest (log_header_of l) l.entries more
whole_log l more fits =
    ap log_reading (append_assoc (log_header (log_header_of l)) (flat_map entry_bytes l.entries) more)
    ∙ behind_header (log_header_of l) (flat_map entry_bytes l.entries ++ more) fits.0
    ∙ ap (log_rows (log_header_of l)) (rows_stand (IsEntry l.version) entry_bytes (entry_read l.version) (entry_field l.version) l.entries more fits.1)

pub log_is_read : (bytes : List ℕ) → IsBytes bytes → (answer : Result Log SpellingFault) → LogAnswer bytes answer → log_reading bytes ≡ answer
log_is_read bytes fits (Ok l) is = ap log_reading (is.1 ∙ sym (append-nil (log_bytes l))) ∙ whole_log l [] is.0
log_is_read bytes fits (Err Trailing) is = ap log_reading is.4 ∙ whole_log is.0 is.1 is.2 ∙ trailing (log_header_of is.0) is.0.entries is.1 is.3
log_is_read bytes fits (Err BadHeader) is = no_header bytes fits is
log_is_read bytes fits (Err (BadEntry k)) is =
    let behind : IsBytes is.1 = IsBytes-behind (log_header is.0) is.1 (subst IsBytes is.3 fits) in
    ap log_reading is.3 ∙ behind_header is.0 is.1 is.2 ∙ ap (log_rows is.0) (stop_is_read (IsEntry is.0.version) entry_bytes (entry_read is.0.version) (entry_field is.0.version) is.0.count k is.1 behind is.4)
log_is_read bytes fits (Err (BadRow part k)) is = absurd is

pub one_log_answer : (bytes : List ℕ) → IsBytes bytes → (a b : Result Log SpellingFault) → LogAnswer bytes a → LogAnswer bytes b → a ≡ b
one_log_answer bytes fits a b is this = sym (log_is_read bytes fits a is) ∙ log_is_read bytes fits b this
