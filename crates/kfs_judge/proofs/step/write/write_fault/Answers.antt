-- The checks of the file, then that of where the bytes end.
use Rattle.std.specs.Prelude.{ℕ, List, [], ◌∷◌, Some, None}
use Rattle.kfs_model.specs.Check.{EntryContext, Check, checks_of, payload_fits}
use Rattle.kfs_judge.proofs.CheckLemmas.Groups.{front_fails, then_back, found_is}
use Rattle.kfs_judge_reads.proofs.Recording.{cut_short, goes_then}
use Rattle.kfs_judge.proofs.step.write.write_fault.Goals as goal

abbrev by_file : ℕ → EntryContext → List Check
by_file n p = Check.Exists n ∷ Check.IsAFile n ∷ Check.MayWrite n ∷ Check.IsLeased n ∷ []

abbrev by_end : ℕ → List ℕ → EntryContext → List Check
by_end offset payload p = payload_fits offset payload

pub returns-in-Some : goal.returns-in-Some
unfolding checks_of
returns-in-Some g c payload long =
    let judge = c.args.judge.now in
    let front = by_file c.args.number in
    front_fails judge front (by_end c.args.offset payload) c.in-Some.reason (found_is judge front _ (Some c.in-Some.reason) c.in-Some.is c.in_ok-reason.ensures)

pub returns-in_err-rest : goal.returns-in_err-rest
returns-in_err-rest g c payload long = cut_short (goes_then c.in_ok-reason.ensures.goes (c.in_err-rest.ensures payload long).goes) _ _ _ c.from_residual-in_err-rest.ensures.0

pub returns : goal.returns
unfolding checks_of
returns g c payload long =
    let judge = c.args.judge.now in
    let front = by_file c.args.number in
    then_back judge front (by_end c.args.offset payload) c.in_ok-rest.rest (found_is judge front _ None c.in_default.is c.in_ok-reason.ensures) (c.in_ok-rest.ensures payload long)
