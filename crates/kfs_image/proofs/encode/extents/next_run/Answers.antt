use Rattle.std.proofs.Common.{◌≡◌, ℕ, [], sym, subst, ap, ◌∙◌, length, arith}
use Rattle.std.specs.Prelude.{IfNone}
use Rattle.kfs_model.specs.Placement.{Place}
use Rattle.kfs_image.specs.Encode.Runs.{extents_from}
use Rattle.kfs_image.proofs.EncodeLemmas.RunExtents.{Begins, first_run, no_run, longer_run, is_small}
use Rattle.kfs_image.proofs.encode.extents.next_run.Goals as goal

pub returns-in_err-first-clause-none : goal.returns-in_err-first-clause-none
returns-in_err-first-clause-none g c =
    subst (λ r. IfNone r (extents_from c.args.image.now c.args.start.now ≡ [])) (sym c.from_residual.ensures)
    (no_run c.args.image.now c.args.start.now c.in_err-first.ensures.none)

pub longer-init : goal.longer-init
longer-init g c =
    let image = c.args.image.now in
    let start = c.args.start.now in
    let entry : (ℕ × ℕ) × Place = c.in_ok-first.first in
    subst (Begins image start) (sym c.of-run.ensures) (record {
      begins = first_run image start entry c.in_ok-first.ensures.found;
      small = omega (arith, is_small image c.requires start entry c.in_ok-first.ensures.found);
    })

pub longer-smaller : goal.longer-smaller
longer-smaller g c = omega (arith, ap length (c.goes_on.ensures.on c.longer-test.true))

pub longer-preserved : goal.longer-preserved
longer-preserved g c = record {
  begins = c.longer.invariant.begins ∙ longer_run c.args.image.now c.longer.run (c.goes_on.ensures.on c.longer-test.true);
  small = c.goes_on.ensures.small c.longer-test.true;
}

pub returns-clause-first : goal.returns-clause-first
returns-clause-first g c = c.longer.invariant.begins ∙ c.goes_on.ensures.end c.longer-test.false
