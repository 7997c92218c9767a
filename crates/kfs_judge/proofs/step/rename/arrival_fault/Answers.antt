-- The place that the node comes to, then what it replaces.
use Rattle.std.specs.Prelude.{◌≡◌, ℕ, List, ◌++◌, Option, Some, None, refl}
use Rattle.kfs_model.specs.Check.{EntryContext, Check, arrival_checks, may_go, on_number}
use Rattle.kfs_model.specs.Header.{Kind, File, Directory}
use Rattle.kfs_types.specs.Views.{kind_of}
use Rattle.kfs_judge.proofs.CheckLemmas.Groups.{front_fails, then_back, found_is, said_otherwise}
use Rattle.kfs_judge_reads.proofs.Recording.{cut_short, goes_then}
use Rattle.kfs_judge.proofs.step.rename.arrival_fault.Goals as goal

abbrev by_place : Kind → (s e : ℕ) → EntryContext → List Check
by_place kind s e p = arrival_checks kind s e None

abbrev replaced : Kind → (e : ℕ) → Option ℕ → EntryContext → List Check
replaced kind e there p = on_number there (may_go kind e)

both_are_arrival : (kind : Kind) (s e : ℕ) (there : Option ℕ) → arrival_checks kind s e None ++ on_number there (may_go kind e) ≡ arrival_checks kind s e there
both_are_arrival File s e there = refl
both_are_arrival Directory s e there = refl

pub returns-in-Some : goal.returns-in-Some
returns-in-Some g c =
    let judge = c.args.judge.now in
    let kind = kind_of c.args.kind in
    let s = c.args.moved in
    let e = c.args.new_dir in
    let there = c.args.there in
    said_otherwise judge (λ p. by_place kind s e p ++ replaced kind e there p) (λ p. arrival_checks kind s e there) (Some c.in-Some.reason) (λ state agrees. both_are_arrival kind s e there)
    (front_fails judge (by_place kind s e) (replaced kind e there) c.in-Some.reason (found_is judge (by_place kind s e) _ (Some c.in-Some.reason) c.in-Some.is c.in_ok-reason.ensures))

pub returns-in_err-rest : goal.returns-in_err-rest
returns-in_err-rest g c = cut_short (goes_then c.in_ok-reason.ensures.goes c.in_err-rest.ensures.goes) _ _ _ c.from_residual-in_err-rest.ensures.0

pub returns : goal.returns
returns g c =
    let judge = c.args.judge.now in
    let kind = kind_of c.args.kind in
    let s = c.args.moved in
    let e = c.args.new_dir in
    let there = c.args.there in
    said_otherwise judge (λ p. by_place kind s e p ++ replaced kind e there p) (λ p. arrival_checks kind s e there) c.in_ok-rest.rest (λ state agrees. both_are_arrival kind s e there)
    (then_back judge (by_place kind s e) (replaced kind e there) c.in_ok-rest.rest (found_is judge (by_place kind s e) _ None c.in_default.is c.in_ok-reason.ensures) c.in_ok-rest.ensures)
