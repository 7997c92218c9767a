-- The checks of both directories, then where the two names lead, then the move.
use Rattle.std.specs.Prelude.{ℕ, List, [], ◌∷◌, Option, Some, None}
use Rattle.std.proofs.Common.{ap, sym}
use Rattle.kfs_model.specs.Check.{EntryContext, Check, checks_of, rename_checks}
use Rattle.kfs_model.specs.Sight.{NameIn}
use Rattle.kfs_judge.specs.Check.Checks.{entry_context_in}
use Rattle.kfs_judge.specs.declared.check.check.Reason.TheVariants.{NoSuchName}
use Rattle.kfs_judge.proofs.CheckLemmas.Groups.{front_fails, then_back, found_is, said_otherwise, behind_cell, no_name, behind_name}
use Rattle.kfs_judge_reads.proofs.Recording.{cut_short, goes_then}
use Rattle.kfs_judge.proofs.step.rename.rename_fault.Goals as goal

abbrev by_directories : (d e : ℕ) → EntryContext → List Check
by_directories d e p = Check.Exists d ∷ Check.IsADirectory d ∷ Check.Exists e ∷ Check.IsADirectory e ∷ Check.MaySearch d ∷ Check.MaySearch e ∷ []

-- behind the second name, whatever both lead to
abbrev moving : (d e : ℕ) (k : List ℕ) → Option ℕ → EntryContext → List Check
moving d e k from p = rename_checks p d e from (p.now.name e k)

abbrev by_second : (d e : ℕ) (k : List ℕ) → Option ℕ → EntryContext → List Check
by_second d e k from p = Check.Sees (NameIn e k) ∷ moving d e k from p

abbrev by_first : (d : ℕ) (m : List ℕ) (e : ℕ) (k : List ℕ) → EntryContext → List Check
by_first d m e k p = Check.NameIsThere d m ∷ by_second d e k (p.now.name d m) p

pub returns-in-Some : goal.returns-in-Some
unfolding checks_of
returns-in-Some g c =
    let judge = c.args.judge.now in
    let d = c.args.dir in
    let e = c.args.new_dir in
    let front = by_directories d e in
    front_fails judge front (by_first d c.args.name.now e c.args.new_name.now) c.in-Some.reason (found_is judge front _ (Some c.in-Some.reason) c.in-Some.is c.in_ok-reason.ensures)

pub returns-in_err-moved : goal.returns-in_err-moved
returns-in_err-moved g c = cut_short (goes_then c.in_ok-reason.ensures.goes c.in_err-moved.ensures.goes) _ _ _ c.from_residual-in_err-moved.ensures.0

pub returns-in_default-2 : goal.returns-in_default-2
unfolding checks_of
returns-in_default-2 g c =
    let judge = c.args.judge.now in
    let d = c.args.dir in
    let m = c.args.name.now in
    let e = c.args.new_dir in
    let k = c.args.new_name.now in
    let front = by_directories d e in
    then_back judge front (by_first d m e k) (Some NoSuchName) (found_is judge front _ None c.in_default.is c.in_ok-reason.ensures)
    (no_name judge d m (by_second d e k) _ c.in_default-2.is c.in_ok-moved.ensures)

pub returns-in_err-there : goal.returns-in_err-there
returns-in_err-there g c = cut_short (goes_then c.in_ok-reason.ensures.goes (goes_then c.in_ok-moved.ensures.goes c.in_err-there.ensures.goes)) _ _ _ c.from_residual-in_err-there.ensures.0

pub returns-in_err-rest : goal.returns-in_err-rest
returns-in_err-rest g c = cut_short (goes_then c.in_ok-reason.ensures.goes (goes_then c.in_ok-moved.ensures.goes (goes_then c.in_ok-there.ensures.goes c.in_err-rest.ensures.goes))) _ _ _ c.from_residual-in_err-rest.ensures.0

pub returns : goal.returns
unfolding checks_of
returns g c =
    let judge = c.args.judge.now in
    let d = c.args.dir in
    let m = c.args.name.now in
    let e = c.args.new_dir in
    let k = c.args.new_name.now in
    let s = c.in-Some-2.moved in
    let there = c.in_ok-there.there in
    let rest = c.in_ok-rest.rest in
    let front = by_directories d e in
    let moved = said_otherwise judge (λ p. rename_checks p d e (Some s) there) (moving d e k (Some s)) rest (λ state agrees. ap (rename_checks (entry_context_in judge state) d e (Some s)) (sym (c.in_ok-there.ensures.known state (c.in_ok-rest.ensures.goes.grows state agrees)))) c.in_ok-rest.ensures in
    let seconds = behind_cell judge (NameIn e k) _ there (moving d e k (Some s)) rest c.in_ok-there.ensures moved in
    then_back judge front (by_first d m e k) rest (found_is judge front _ None c.in_default.is c.in_ok-reason.ensures)
    (behind_name judge d m (by_second d e k) s _ rest c.in-Some-2.is c.in_ok-moved.ensures seconds)
