-- The one line is a bad line, where there is a line.
use Rattle.std.proofs.Common.{◌≡◌, List, ℕ, [], ◌∷◌, ◌++◌, inl, inr, refl, arith}
use Rattle.std.specs.Prelude.{codes}
use Rattle.kfs_program.specs.Engine.Transcript.{AreFirstLines, IsText}
use Rattle.kfs_program_text.specs.Cut.{cut}
use Rattle.kfs_program.specs.Engine.Session.{fresh}
use Rattle.kfs_program.proofs.sessions.examples.write_broken_off.Goals as goal

bad : List ℕ
bad = codes "bad line\n"

answered : IsText (codes "x" ∷ []) (codes "bad line\n")
unfolding cut bad
answered = (fresh, (bad, fresh, [], inl (refl, refl), (refl, refl), refl), (omega arith, tt))

pub returns-clause-whole : goal.returns-clause-whole
unfolding cut bad
returns-clause-whole c = record { lines = codes "x" ∷ []; unwritten = []; first = inl ([], [], refl); answered = answered }

pub returns-clause-at_end : goal.returns-clause-at_end
unfolding cut bad
returns-clause-at_end c = record { lines = codes "x" ∷ []; unwritten = []; first = inr (tt, refl); answered = answered }

-- ---- a part of a line

some_left : {b : ℕ} {bytes : List ℕ} → b ∷ bytes ≡ [] → ⊥
some_left e = cc

behind : {one other : List ℕ} {ones others : List (List ℕ)} → one ∷ ones ≡ other ∷ others → ones ≡ others
behind e = cc

none_behind : (lines : List (List ℕ)) (next : List ℕ) (later : List (List ℕ)) → [] ≡ lines ++ next ∷ later → ⊥
none_behind [] next later e = cc
none_behind (line ∷ lines) next later e = cc

no_line : (lines : List (List ℕ)) (unwritten : List ℕ) → AreFirstLines ⊥ (codes "x") lines → IsText lines (codes "bad line\n" ++ unwritten) → ⊥
unfolding cut
no_line [] unwritten first (last, answers, short) = some_left answers.0
no_line (line ∷ lines) unwritten (inl (next, later, parts)) answered = none_behind lines next later (behind parts)
no_line (line ∷ lines) unwritten (inr (never, all)) answered = absurd never

pub returns-clause-part : goal.returns-clause-part
returns-clause-part c is = no_line is.lines is.unwritten is.first is.answered
