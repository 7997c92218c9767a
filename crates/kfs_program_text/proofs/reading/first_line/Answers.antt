use Rattle.std.proofs.Common.{◌≡◌, ◌+◌, ◌∷◌, [], MatchOption, drop, take}
use Rattle.kfs_program_text.specs.Cut.{cut, line_end}
use Rattle.kfs_program_text.proofs.Cuts.{cut-found, slice-back}
use Rattle.kfs_program_text.proofs.reading.first_line.Goals as goal
use Rattle.kfs_program_text.proofs.reading.first_line.Goals.{After-first_place}

cut-at_place : (c : After-first_place)
    → MatchOption c.first_place.result (cut line_end c.args.bytes.now ≡ c.args.bytes.now ∷ []) (λ place. cut line_end c.args.bytes.now ≡ take place c.args.bytes.now ∷ cut line_end (drop (place + 1) c.args.bytes.now))
cut-at_place c = cut-found line_end c.args.bytes.now c.first_place.result c.first_place.ensures

pub returns-clause-cut : goal.returns-clause-cut
returns-clause-cut c = rw (slice-back (c.in_ok-place.place + 1) c.args.bytes.now) (rw c.in_ok-place.was at (cut-at_place (goal.at.returns-clause-cut c).After-first_place))

pub returns-in_err-place-clause-cut : goal.returns-in_err-place-clause-cut
returns-in_err-place-clause-cut c = rw c.from_residual.ensures (rw c.in_err-place.was at (cut-at_place (goal.at.returns-in_err-place-clause-cut c).After-first_place))
