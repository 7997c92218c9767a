-- A log that was decoded, and why one was not, as the definitions say it.
use Rattle.std.proofs.Common.{◌≡◌, ◌≢◌, ℕ, ◌<◌, ◌≤◌, List, [], ◌++◌, length, drop, map, ap, ◌∙◌, arith}
use Rattle.std.specs.List.{AllByRecursion}
use Rattle.std.specs.Prelude.{All}
use Rattle.std.proofs.lemmas.List.Elements.{All-from_recursion}
use Rattle.std.proofs.lemmas.List.{append-nil, drop_all, length-drop}
use Rattle.kfs_model.specs.Entry.{Log}
use Rattle.kfs_model.specs.Limits.{latest_version}
use Rattle.kfs_model.specs.Spelling.{AreRows, Begins, LogHeader, IsLogHeader, log_header, IsEntry, entry_bytes, IsLog, log_bytes, LogAnswer}
use Rattle.kfs_model.proofs.AnswersExist.{spelled_log}
use Rattle.kfs_model.proofs.EntryLaws.{is_of_latest}
use Rattle.kfs_types.specs.declared.entry.Entry.{Entry as CodeEntry}
use Rattle.kfs_types.specs.declared.entry.Span.{Span}
use Rattle.kfs_entry.specs.declared.fault.SpellFault.{SpellFault}
use Rattle.kfs_entry.specs.declared.fault.SpellFault.TheVariants as faults
use Rattle.kfs_types.specs.Views.{entry_of, IsSpanned, IsWithin}
use Rattle.kfs_entry.specs.Missing.{EntryMissing}
use Rattle.kfs_entry.specs.Answers.{OnRefusal}
use Rattle.kfs_entry.proofs.Spans.{is_spanned}
use Rattle.kfs_entry.proofs.RowLaws.{both_hold, AllByRecursion-weaker, stand_from, stop_from}

-- what is known of the entries that were read from a log of this version
abbrev pub Fit : (version : ℕ) → List ℕ → CodeEntry Span (List ℕ) → Type 0
Fit version source e = IsWithin (length source) e × IsEntry version (entry_of source e)

abbrev pub spelled : List ℕ → CodeEntry Span (List ℕ) → List ℕ
spelled source e = entry_bytes (entry_of source e)

-- the log of a header and the entries behind it
abbrev pub log_from : LogHeader → List ℕ → List (CodeEntry Span (List ℕ)) → Log
log_from h source entries = record { version = h.version; client = h.client; entries = map (entry_of source) entries }

pub log_is_spelled : (source : List ℕ) (h : LogHeader) (at end : ℕ) (entries : List (CodeEntry Span (List ℕ))) → IsLogHeader h → source ≡ log_header h ++ drop at source
    → length entries ≡ h.count → AreRows (Fit h.version source) (spelled source) entries (drop at source) (drop end source)
    → IsLog (log_from h source entries) × (source ≡ log_bytes (log_from h source entries) ++ drop end source)
log_is_spelled source h at end entries fits front number are =
    spelled_log source (drop at source) (drop end source) h fits front
    (stand_from (entry_of source) (Fit h.version source) (IsEntry h.version) entry_bytes (λ e f. f.1) entries h.count (drop at source) (drop end source) number are)

module _ (version : ℕ) (source : List ℕ) (entries : List (CodeEntry Span (List ℕ))) (bytes rest : List ℕ) (are : AreRows (Fit version source) (spelled source) entries bytes rest) where
  pub spans_are_within : AllByRecursion (IsWithin (length source)) entries
  spans_are_within = AllByRecursion-weaker (Fit version source) (IsWithin (length source)) (λ e f. f.0) entries are.fit

  pub are_spanned : AllByRecursion IsSpanned entries
  are_spanned = AllByRecursion-weaker (Fit version source) IsSpanned (λ e f. is_spanned version source e f.0 f.1) entries are.fit

-- nothing follows where the end is reached
pub no_rest : (source spelling : List ℕ) (end : ℕ) → length source ≤ end → source ≡ spelling ++ drop end source → source ≡ spelling
no_rest source spelling end le parts = parts ∙ ap (λ (b : List ℕ). spelling ++ b) (drop_all end source le) ∙ append-nil spelling

pub some_rest : (source : List ℕ) (end : ℕ) → end < length source → drop end source ≢ []
some_rest source end lt none = let zero : length (drop end source) ≡ 0 = ap length none in omega (arith, length-drop end source, zero)

pub entry_is_missing : (source : List ℕ) (h : LogHeader) (at : ℕ) (fault : SpellFault) → IsLogHeader h → source ≡ log_header h ++ drop at source
    → EntryMissing (Fit h.version source) (spelled source) (Begins (IsEntry h.version) entry_bytes) h.count (drop at source) fault → OnRefusal (LogAnswer source) fault
entry_is_missing source h at (faults.BadEntry k) fits front stops =
    (h, drop at source, fits, front, stop_from (entry_of source) (Fit h.version source) (IsEntry h.version) entry_bytes (λ e f. f.1) h.count k (drop at source) stops)
entry_is_missing source h at faults.OutOfMemory fits front stops = tt
entry_is_missing source h at faults.BadHeader fits front stops = absurd stops
entry_is_missing source h at faults.Trailing fits front stops = absurd stops
entry_is_missing source h at (faults.BadRow part k) fits front stops = absurd stops

-- entries in the range of some version, whose spans lie in the source, can be written
pub entries_can_be_written : (version : ℕ) (source : List ℕ) (entries : List (CodeEntry Span (List ℕ))) → AllByRecursion (IsWithin (length source)) entries → AllByRecursion (IsEntry version) (map (entry_of source) entries)
    → All (Fit latest_version source) entries
entries_can_be_written version source entries within ranges =
    let fit : AllByRecursion (Fit version source) entries = both_hold (entry_of source) (IsWithin (length source)) (IsEntry version) entries within ranges in
    All-from_recursion (Fit latest_version source) entries
    (AllByRecursion-weaker (Fit version source) (Fit latest_version source) (λ e f. (f.0, is_of_latest version (entry_of source e) f.1)) entries fit)
