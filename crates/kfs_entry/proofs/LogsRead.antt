-- What a decoder of logs owes where it returns, whichever names its rows have: their own, or those that lie in the source. The header's numbers are variables of their own here, so that tactics find them.
use Rattle.std.proofs.Common.{◌≡◌, ℕ, ◌<◌, ◌≤◌, List, length, drop, Result, Ok, Err}
use Rattle.std.specs.List.{AllByRecursion}
use Rattle.std.specs.Prelude.{IsErrAnd}
use Rattle.std.proofs.lemmas.Result.{err_from_is_err_and}
use Rattle.kfs_model.specs.Spelling.{Begins, LogHeader, IsLogHeader, log_header, IsEntry, entry_bytes, log_bytes, LogAnswer, Trailing}
use Rattle.kfs_types.specs.Views.{IsSpanned, IsWithin}
use Rattle.kfs_types.specs.declared.entry.Entry.{Entry as CodeEntry}
use Rattle.kfs_types.specs.declared.entry.Log.{Log as CodeLog}
use Rattle.kfs_types.specs.declared.entry.Span.{Span}
use Rattle.kfs_entry.specs.declared.fault.SpellFault.{SpellFault}
use Rattle.kfs_entry.specs.Codec.Reading.{StandsIn}
use Rattle.kfs_entry.specs.Codec.RowList.{AreRead}
use Rattle.kfs_entry.specs.Missing.{EntryMissing}
use Rattle.kfs_entry.specs.Answers.{OnAnswer, log_of}
use Rattle.kfs_entry.proofs.DecodedLog.{Fit, spelled, log_from, log_is_spelled, spans_are_within, are_spanned, no_rest, some_rest, entry_is_missing}

-- the header with these numbers
abbrev header_from : ℕ → ℕ → ℕ → LogHeader
header_from version client count = record { version = version; client = client; count = count }

module _ (source : List ℕ) (version client count at : ℕ) (fits : IsLogHeader (header_from version client count)) (front : StandsIn source 0 at (log_header (header_from version client count))) where
  -- where the entries stop before their count, what the decoder passes on is right
  pub entries_stop : {A : Type 0} (fault : SpellFault) (result : Result (CodeLog A (List ℕ)) SpellFault) → EntryMissing (Fit version source) (spelled source) (Begins (IsEntry version) entry_bytes) count (drop at source) fault
      → IsErrAnd result (λ given. given ≡ fault) → OnAnswer (log_of source) (LogAnswer source) result
  entries_stop fault result stops passed =
      let p = err_from_is_err_and result passed in
      rw (p.1, p.2) (entry_is_missing source (header_from version client count) at fault fits front.parts stops)

  -- where bytes follow the entries, that is the answer
  pub bytes_follow : (end : ℕ) (entries : List (CodeEntry Span (List ℕ))) → AreRead (Fit version source) (spelled source) source at count entries end → end < length source → LogAnswer source (Err Trailing)
  bytes_follow end entries read below =
      let h = header_from version client count in
      let is = log_is_spelled source h at end entries fits front.parts read.number read.are in
      (log_from h source entries, drop end source, is.0, some_rest source end below, is.1)

  -- where the entries reach the end, the answer is their log
  pub log_is_whole : (end : ℕ) (entries rows : List (CodeEntry Span (List ℕ))) → AreRead (Fit version source) (spelled source) source at count entries end → rows ≡ entries → length source ≤ end
      → LogAnswer source (Ok (log_from (header_from version client count) source rows))
  log_is_whole end entries rows read same reached =
      let h = header_from version client count in
      let is = log_is_spelled source h at end entries fits front.parts read.number read.are in
      rw same (is.0, no_rest source (log_bytes (log_from h source entries)) end reached is.1)

module _ (source : List ℕ) (version count at end : ℕ) (entries rows : List (CodeEntry Span (List ℕ))) (read : AreRead (Fit version source) (spelled source) source at count entries end) (same : rows ≡ entries) where
  -- the payloads of entries that were read lie in the source
  pub rows_are_within : AllByRecursion (IsWithin (length source)) rows
  rows_are_within = rw same (spans_are_within version source entries (drop at source) (drop end source) read.are)

  -- the payloads of entries that were read are no longer than a payload may be
  pub rows_are_spanned : AllByRecursion IsSpanned rows
  rows_are_spanned = rw same (are_spanned version source entries (drop at source) (drop end source) read.are)

-- what a decoder owes once all the entries were read
pub ruleset log_read = (bytes_follow, log_is_whole, rows_are_within, rows_are_spanned)
