-- The bytes of a Write's payload in a source.
use Rattle.std.proofs.Common.{◌≡◌, ℕ, ◌-◌, ◌≤◌, List, length, drop, length-drop, Result, Option, arith, subst, sym, ◌∙◌}
use Rattle.std.specs.declared.alloc.AllocError.{AllocError}
use Rattle.std.proofs.lemmas.List.{length-take-le}
use Rattle.kfs_judge.specs.declared.check.check.Reason.{Reason}
use Rattle.kfs_model.specs.Entry.{Write}
use Rattle.kfs_judge.specs.declared.step.log_judge.LogJudge.{LogJudge}
use Rattle.kfs_judge.specs.Step.Entered.{IsEntered}
use Rattle.kfs_types.specs.Views.{entry_of, span_bytes, IsWithin}
use Rattle.kfs_types.specs.declared.entry.Span.{Span}
use Rattle.kfs_types.specs.declared.entry.Entry.{Entry as CodeEntry}
use Rattle.kfs_types.specs.declared.entry.Entry.TheVariants as entries

span_length : (source : List ℕ) (span : Span) → span.end ≤ length source → length (span_bytes source span) ≡ span.end - span.start
span_length source span within = length-take-le (span.end - span.start) (drop span.start source) (omega (arith, length-drop span.start source))

-- what is so of any bytes of a length is so of a payload that is as long
pub of_payload : {A : Type 0} (old new : LogJudge A) (n offset : ℕ) (span : Span) (len : ℕ) (answer : Result (Option Reason) AllocError) (source : List ℕ) (e : CodeEntry Span (List ℕ))
    → ((p : List ℕ) → length p ≡ len → IsEntered old new (Write n offset p) answer) → len ≡ span.end - span.start → IsWithin (length source) e → e ≡ entries.Write n offset span → IsEntered old new (entry_of source e) answer
of_payload old new n offset span len answer source e told long within is =
    let inside = subst (IsWithin (length source)) is within in
    subst (λ x. IsEntered old new (entry_of source x) answer) (sym is) (told (span_bytes source span) (span_length source span inside.1 ∙ sym long))
