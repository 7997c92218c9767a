-- Recorded reads: what a later record agrees with.
use Rattle.std.specs.Prelude.{◌≡◌, ◌&&◌, ◌≢◌, Bool, true, false, cond, ◌++◌, unwrap_or, List, [], ◌∷◌, Some, None, refl}
use Rattle.std.proofs.Common.{ap, sym, subst, ◌∙◌}
use mathlib.Core.Bool.{true≢false}
use Rattle.std.specs.Cmp.Lexicographic.{bytes_decides}
use Rattle.std.specs.Map.{lookup}
use Rattle.kfs_judge_reads.specs.declared.reads.ReadAnswer.{ReadAnswer}
use Rattle.kfs_judge_reads.specs.Reads.{cell_of, answer_of, Agrees, AgreesAlong, Always, AreOnce, Grows}
use Rattle.kfs_model.specs.Sight.{ClientSight, answer}
use Rattle.std.proofs.lemmas.Bool.{eq-eqb}
use Rattle.std.proofs.lemmas.List.Elements.{All-from_recursion}
use Rattle.std.proofs.lemmas.List.Quantifiers.{all_pairs_push}
use Rattle.std.specs.List.{AllByRecursion}
use Rattle.kfs_image_nodes.specs.declared.cell.Cell.{Cell as CodeCell}
use Rattle.kfs_image_nodes.specs.declared.cell.Cell.TheVariants as cells
use Rattle.kfs_judge_reads.specs.declared.reads.Read.{Read}
use Rattle.kfs_judge_reads.specs.declared.reads.Read.TheVariants as reads
use Rattle.kfs_judge_reads.specs.SameReads.{same_read}
use Rattle.kfs_judge_reads.specs.ReadKeys.{same_read_exact}

-- ---- agreement

-- what is found by a key was recorded at its cell
found_along : (entries : List (Read × ReadAnswer)) (read : Read) (seen : ReadAnswer) → lookup (same_read read) entries ≡ Some seen → (state : ClientSight) → AgreesAlong entries state → answer state (cell_of read) ≡ answer_of seen
found_along [] read seen found state agrees = cc
found_along (e ∷ es) read seen found state agrees = by_test (found_along es read seen) (same_read read e.0) refl found
  where
    by_test : (lookup (same_read read) es ≡ Some seen → (state' : ClientSight) → AgreesAlong es state' → answer state' (cell_of read) ≡ answer_of seen) → (same : Bool) → same_read read e.0 ≡ same → cond same (Some e.1) (lookup (same_read read) es) ≡ Some seen → answer state (cell_of read) ≡ answer_of seen
    by_test rest true same found' = ap (λ r. answer state (cell_of r)) (same_read_exact read e.0 same) ∙ agrees.0 ∙ ap answer_of (some_exact found')
      where
        some_exact : {s t : ReadAnswer} → Some s ≡ Some t → s ≡ t
        some_exact {s} {t} is = ap (λ o. unwrap_or o s) is
    by_test rest false same found' = rest found' state agrees.1

AgreesAlong-append : (entries : List (Read × ReadAnswer)) (read : Read) (seen : ReadAnswer) (state : ClientSight) → AgreesAlong (entries ++ (read, seen) ∷ []) state → AgreesAlong entries state × (answer state (cell_of read) ≡ answer_of seen)
AgreesAlong-append [] read seen state agrees = (tt, agrees.0)
AgreesAlong-append (e ∷ es) read seen state agrees =
    let rest = AgreesAlong-append es read seen state agrees.1 in
    ((agrees.0, rest.0), rest.1)

pub known_by_key : (entries : List (Read × ReadAnswer)) (read : Read) (seen : ReadAnswer) → Some seen ≡ lookup (same_read read) entries → Always entries (λ state. answer state (cell_of read) ≡ answer_of seen)
known_by_key entries read seen found state agrees = found_along entries read seen (sym found) state agrees.each

pub grows_by_one : (old new : List (Read × ReadAnswer)) (read : Read) (seen : ReadAnswer) → new ≡ old ++ (read, seen) ∷ [] → Grows old new
grows_by_one old new read seen is state agrees = record { each = (AgreesAlong-append old read seen state (subst (λ es. AgreesAlong es state) is agrees.each)).0 }

pub known_at_end : (old new : List (Read × ReadAnswer)) (read : Read) (seen : ReadAnswer) → new ≡ old ++ (read, seen) ∷ [] → Always new (λ state. answer state (cell_of read) ≡ answer_of seen)
known_at_end old new read seen is state agrees = (AgreesAlong-append old read seen state (subst (λ es. AgreesAlong es state) is agrees.each)).1

AgreesAlong-push : (entries : List (Read × ReadAnswer)) (read : Read) (seen : ReadAnswer) (state : ClientSight) → AgreesAlong entries state → answer state (cell_of read) ≡ answer_of seen → AgreesAlong (entries ++ (read, seen) ∷ []) state
AgreesAlong-push [] read seen state agrees is = (is, tt)
AgreesAlong-push (e ∷ es) read seen state agrees is = (agrees.0, AgreesAlong-push es read seen state agrees.1 is)

-- what agrees with the earlier reads and with one more
pub agrees_by_one : (old new : List (Read × ReadAnswer)) (read : Read) (seen : ReadAnswer) (state : ClientSight) → new ≡ old ++ (read, seen) ∷ [] → answer state (cell_of read) ≡ answer_of seen → Agrees old state → Agrees new state
agrees_by_one old new read seen state is shows agrees = record { each = subst (λ es. AgreesAlong es state) (sym is) (AgreesAlong-push old read seen state agrees.each shows) }

-- ---- each read once

same_read_itself : (read : Read) → same_read read read ≡ true
same_read_itself (reads.Lease n) = eq-eqb n n refl
same_read_itself (reads.Look cell) = same_look_itself cell
  where
    same_look_itself : (cell : CodeCell) → same_read (reads.Look cell) (reads.Look cell) ≡ true
    same_look_itself (cells.Header n) = eq-eqb n n refl
    same_look_itself (cells.Count n) = eq-eqb n n refl
    same_look_itself (cells.Parent n) = eq-eqb n n refl
    same_look_itself (cells.Name d m) = λ i. eq-eqb d d refl i && (bytes_decides m m).1 refl i

unread : (entries : List (Read × ReadAnswer)) (read : Read) → lookup (same_read read) entries ≡ None → AllByRecursion (λ e. e.0 ≢ read) entries
unread [] read none = tt
unread (e ∷ es) read none = by_test (unread es read) (same_read read e.0) refl none
  where
    by_test : (lookup (same_read read) es ≡ None → AllByRecursion (λ e'. e'.0 ≢ read) es) → (same : Bool) → same_read read e.0 ≡ same → cond same (Some e.1) (lookup (same_read read) es) ≡ None → AllByRecursion (λ e'. e'.0 ≢ read) (e ∷ es)
    by_test rest true same none' = cc
    by_test rest false other none' = ((λ is. absurd (true≢false (sym (same_read_itself read) ∙ ap (same_read read) (sym is) ∙ other))), rest none')

-- a read that wasn't there goes last
pub once_by_one : (old new : List (Read × ReadAnswer)) (read : Read) (seen : ReadAnswer) → new ≡ old ++ (read, seen) ∷ [] → lookup (same_read read) old ≡ None → AreOnce old → AreOnce new
once_by_one old new read seen is none once = subst AreOnce (sym is) (all_pairs_push (λ e f. e.0 ≢ f.0) old (read, seen) once (All-from_recursion (λ e. e.0 ≢ read) old (unread old read none)))
