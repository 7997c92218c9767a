-- Each line is answered by computation.
use Rattle.std.proofs.Common.{ℕ, List, [], inl, inr, refl}
use Rattle.std.specs.Prelude.{codes}
use Rattle.kfs_program_text.specs.Cut.{cut}
use Rattle.kfs_program.specs.Engine.Example.{full_docket}
use Rattle.kfs_program.specs.Verdicts.HeldVerdicts.{no_verdict}
use Rattle.kfs_program.specs.Engine.Session.{After}
use Rattle.kfs_program.proofs.sessions.examples.verdict_without_memory.Goals as goal

memory : List ℕ
memory = codes "memory\n"

bad : List ℕ
bad = codes "bad line\n"

pub returns : goal.returns
unfolding memory bad cut
returns c = (
  memory,
  After full_docket no_verdict,
  bad,
  inr (inr refl),
  (bad, After full_docket no_verdict, [], inr (inl refl), (refl, refl), refl),
  refl,
)
