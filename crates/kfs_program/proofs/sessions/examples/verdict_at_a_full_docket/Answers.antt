-- Each line is answered by computation.
use Rattle.std.proofs.Common.{ℕ, List, [], inl, inr, refl}
use Rattle.std.specs.Prelude.{codes}
use Rattle.kfs_program_text.specs.Cut.{cut}
use Rattle.kfs_program.specs.Engine.Example.{full_docket}
use Rattle.kfs_program.specs.Verdicts.HeldVerdicts.{no_verdict}
use Rattle.kfs_program.specs.Engine.Session.{After}
use Rattle.kfs_program.proofs.sessions.examples.verdict_at_a_full_docket.Goals as goal

full : List ℕ
full = codes "full\n"

bad : List ℕ
bad = codes "bad line\n"

pub returns : goal.returns
unfolding full bad cut
returns c = (
  full,
  After full_docket no_verdict,
  bad,
  inr (inl ((full, full_docket), inl (refl, refl), refl)),
  (bad, After full_docket no_verdict, [], inr (inl refl), (refl, refl), refl),
  refl,
)
