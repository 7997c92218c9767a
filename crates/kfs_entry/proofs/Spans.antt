-- The span of a payload that was read is no longer than a payload may be.
use Rattle.std.proofs.Common.{◌≡◌, ℕ, ◌+◌, ◌-◌, ◌≤◌, List, length, drop, length-drop, arith}
use Rattle.std.proofs.lemmas.List.{length-take-le}
use Rattle.kfs_model.specs.Limits.{payload_limit}
use Rattle.kfs_model.specs.Spelling.{IsEntry}
use Rattle.kfs_types.specs.Views.{entry_of, span_bytes, IsSpanned, IsWithin}
use Rattle.kfs_types.specs.declared.entry.Entry.{Entry as CodeEntry}
use Rattle.kfs_types.specs.declared.entry.Entry.TheVariants as entries
use Rattle.kfs_types.specs.declared.entry.Span.{Span}

-- a span in the source has as many bytes as it is long
span_length : (source : List ℕ) (p : Span) → p.start ≤ p.end → p.end ≤ length source → length (span_bytes source p) ≡ p.end - p.start
span_length source p first last = length-take-le (p.end - p.start) (drop p.start source) (omega (arith, length-drop p.start source))

pub is_spanned : (version : ℕ) (source : List ℕ) (entry : CodeEntry Span (List ℕ)) → IsWithin (length source) entry → IsEntry version (entry_of source entry) → IsSpanned entry
is_spanned version source (entries.Create d m n k mode) within fits = tt
is_spanned version source (entries.Write n offset p) within fits =
    let first = within.0 in
    let long = span_length source p within.0 within.1 in
    let short = fits.2 in
    (first, (let end : p.end ≤ p.start + payload_limit = omega (arith, first, long, short) in end))
is_spanned version source (entries.Truncate n size) within fits = tt
is_spanned version source (entries.Link n d m) within fits = tt
is_spanned version source (entries.Unlink d m k) within fits = tt
is_spanned version source (entries.Rename d m e k) within fits = tt
is_spanned version source (entries.Chmod n mode) within fits = tt
is_spanned version source (entries.Regroup n group) within fits = tt
