-- The law of the mark that a format begins with: it is read where it stands, and nothing else is.
use Rattle.std.proofs.Common.{◌≡◌, ℕ, List, ◌++◌, length, drop, Some, refl, subst}
use Rattle.std.specs.List.{starts_with}
use Rattle.std.specs.Prelude.{nat_eq}
use Rattle.std.proofs.lemmas.Bool.Decides.{Decides-eqb}
use Rattle.std.proofs.lemmas.Slice.Eq.{starts_is}
use Rattle.std.proofs.lemmas.List.{drop_at}
use Rattle.kfs_model.specs.Spelling.{IsBytes}
use Rattle.kfs_model.proofs.Reading.{mark_read}
use Rattle.kfs_model.proofs.Fields.{IsBytes-drop, some_if, some_is, Stands, IsField}

abbrev pub nothing : Unit {0} → Type 0
nothing _ = Unit {0}

mark_takes : (mark bytes : List ℕ) (x : Unit {0} × List ℕ) → IsBytes bytes → mark_read mark bytes ≡ Some x → Stands nothing (λ _. mark) bytes x.0 x.1
unfolding mark_read
mark_takes mark bytes x fits e =
    let g = some_if (starts_with nat_eq bytes mark) (Some (tt, drop (length mark) bytes)) x e in
    let stands : Stands nothing (λ _. mark) bytes tt (drop (length mark) bytes) = record {
      parts = (starts_is Decides-eqb bytes mark (starts_with nat_eq bytes mark) refl).0 g.0;
      fits = tt;
      rest_bytes = IsBytes-drop (length mark) bytes fits;
    } in
    subst (λ (y : Unit {0} × List ℕ). Stands nothing (λ _. mark) bytes y.0 y.1) (some_is (tt, drop (length mark) bytes) x g.1) stands

mark_again : (mark : List ℕ) (value : Unit {0}) (rest : List ℕ) → Unit {0} → mark_read mark (mark ++ rest) ≡ Some (value, rest)
unfolding mark_read
mark_again mark value rest fits =
    rw ((starts_is Decides-eqb (mark ++ rest) mark (starts_with nat_eq (mark ++ rest) mark) refl).1 rest refl, drop_at mark rest (length mark) refl) refl

pub mark_field : (mark : List ℕ) → IsField nothing (λ _. mark) (mark_read mark)
mark_field mark = record { takes = mark_takes mark; again = mark_again mark }
