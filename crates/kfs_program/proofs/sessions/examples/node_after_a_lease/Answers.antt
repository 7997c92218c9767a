-- Each line is answered by computation.
use Rattle.std.proofs.Common.{ℕ, List, [], Ok, inl, inr, refl}
use Rattle.std.specs.Prelude.{codes}
use Rattle.std.specs.Fmt.{digits}
use native.Mathlib.Decide.{ℕ_discrete}
use Rattle.kfs_model.specs.Examples.Example.{computing}
use Rattle.kfs_model.specs.Table.{changed}
use Rattle.kfs_types.specs.declared.entry.Kind.TheVariants.{Directory}
use Rattle.kfs_desk.specs.declared.history.answers.Done.TheVariants.{Leased}
use Rattle.kfs_program_text.specs.Cut.{cut}
use Rattle.kfs_program_text.specs.Decimals.{decimals32}
use Rattle.kfs_program.specs.Engine.Example.{root_leased, root_row}
use Rattle.kfs_program.specs.Verdicts.HeldVerdicts.{no_verdict}
use Rattle.kfs_program.specs.Engine.Session.{After}
use Rattle.kfs_program.proofs.sessions.examples.node_after_a_lease.Goals as goal

shown_line : List ℕ
shown_line = codes "node 1 dir 0777 0 0 1 0\n"

pub returns : goal.returns
unfolding shown_line computing changed ℕ_discrete digits cut decimals32
returns c = (
  codes "0 leased 1\n",
  After root_leased no_verdict,
  shown_line,
  inr (inl (
    (codes "0 leased 1\n", root_leased),
    inr (record {
      answer = record { position = 0; answer = Ok (Leased 1) };
      next = root_leased;
      below = λ full. cc;
      acted = record { row = root_row; step = record { outcome = Ok 1; said = refl; asked = refl; read = tt; answered = refl; rejudged = refl; fits = refl; least = refl }; position = refl; docket = refl; opening = refl; limit = refl };
      is = refl;
    }),
    refl,
  )),
  (
    shown_line,
    After root_leased no_verdict,
    [],
    inr (inl (
      (shown_line, root_leased),
      inr (record { header = record { kind = Directory; mode = 511; uid = 0; gid = 0; links = 1; size = 0 }; shown = refl; is = refl }),
      refl,
    )),
    (refl, refl),
    refl,
  ),
  refl,
)
