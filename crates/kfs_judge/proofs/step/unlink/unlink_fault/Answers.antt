-- The checks of the directory, then where the name leads, then the node that it leads to.
use Rattle.std.specs.Prelude.{ℕ, List, [], ◌∷◌, Option, Some, None}
use Rattle.kfs_model.specs.Check.{EntryContext, Check, checks_of, may_go, on_number}
use Rattle.kfs_model.specs.Header.{Kind}
use Rattle.kfs_types.specs.Views.{kind_of}
use Rattle.kfs_judge.specs.declared.check.check.Reason.TheVariants.{NoSuchName}
use Rattle.kfs_judge.proofs.CheckLemmas.Groups.{front_fails, then_back, found_is, no_name, behind_name}
use Rattle.kfs_judge_reads.proofs.Recording.{cut_short, goes_then}
use Rattle.kfs_judge.proofs.step.unlink.unlink_fault.Goals as goal

abbrev by_directory : ℕ → EntryContext → List Check
by_directory d p = Check.Exists d ∷ Check.IsADirectory d ∷ Check.MaySearch d ∷ Check.MayWrite d ∷ Check.IsLeased d ∷ []

abbrev going : Kind → (d : ℕ) → Option ℕ → EntryContext → List Check
going kind d there p = on_number there (may_go kind d)

abbrev by_name : ℕ → List ℕ → Kind → EntryContext → List Check
by_name d m kind p = Check.NameIsThere d m ∷ going kind d (p.now.name d m) p

pub returns-in-Some : goal.returns-in-Some
unfolding checks_of
returns-in-Some g c =
    let judge = c.args.judge.now in
    let front = by_directory c.args.dir in
    let back = by_name c.args.dir c.args.name.now (kind_of c.args.kind) in
    front_fails judge front back c.in-Some.reason (found_is judge front _ (Some c.in-Some.reason) c.in-Some.is c.in_ok-reason.ensures)

pub returns-in_err-number : goal.returns-in_err-number
returns-in_err-number g c = cut_short (goes_then c.in_ok-reason.ensures.goes c.in_err-number.ensures.goes) _ _ _ c.from_residual-in_err-number.ensures.0

pub returns-in_default-2 : goal.returns-in_default-2
unfolding checks_of
returns-in_default-2 g c =
    let judge = c.args.judge.now in
    let d = c.args.dir in
    let m = c.args.name.now in
    let kind = kind_of c.args.kind in
    let front = by_directory d in
    then_back judge front (by_name d m kind) (Some NoSuchName) (found_is judge front _ None c.in_default.is c.in_ok-reason.ensures)
    (no_name judge d m (going kind d) _ c.in_default-2.is c.in_ok-number.ensures)

pub returns-in_err-rest : goal.returns-in_err-rest
returns-in_err-rest g c = cut_short (goes_then c.in_ok-reason.ensures.goes (goes_then c.in_ok-number.ensures.goes c.in_err-rest.ensures.goes)) _ _ _ c.from_residual-in_err-rest.ensures.0

pub returns : goal.returns
unfolding checks_of
returns g c =
    let judge = c.args.judge.now in
    let d = c.args.dir in
    let m = c.args.name.now in
    let kind = kind_of c.args.kind in
    let front = by_directory d in
    then_back judge front (by_name d m kind) c.in_ok-rest.rest (found_is judge front _ None c.in_default.is c.in_ok-reason.ensures)
    (behind_name judge d m (going kind d) c.in-Some-2.number _ c.in_ok-rest.rest c.in-Some-2.is c.in_ok-number.ensures c.in_ok-rest.ensures)
