-- The directories and the node moved, then its kind, then what it comes to. Where both names lead to one node, no check.
use Rattle.std.specs.Prelude.{◌≡◌, ℕ, List, [], ◌∷◌, Option, Some, None, if◌then◌else◌, refl}
use Rattle.std.proofs.Common.{ap, sym, ◌∙◌}
use Rattle.std.proofs.lemmas.Bool.{eq-eqb, ne_eqb}
use Rattle.kfs_model.specs.Check.{EntryContext, Check, arrival_checks, move_checks, rename_checks}
use Rattle.kfs_model.specs.Sight.{HeaderOf, kind_shown}
use Rattle.kfs_types.specs.Views.{kind_of}
use Rattle.kfs_judge.specs.Check.Checks.{entry_context_in}
use Rattle.kfs_judge.proofs.CheckLemmas.Failing.{failing-none}
use Rattle.kfs_judge.proofs.CheckLemmas.Groups.{front_fails, then_back, found_is, said_otherwise, behind_cell}
use Rattle.kfs_judge_reads.proofs.Recording.{cut_short, goes_nowhere, goes_then, within_same}
use Rattle.kfs_judge.proofs.step.rename.move_fault.Goals as goal

abbrev by_directories : (d e s : ℕ) → EntryContext → List Check
by_directories d e s p = Check.MayWrite d ∷ Check.MayWrite e ∷ Check.MayRemove d s ∷ Check.IsLeased d ∷ Check.IsLeased e ∷ Check.IsLeased s ∷ []

abbrev arriving : (s e : ℕ) → Option ℕ → EntryContext → List Check
arriving s e there p = arrival_checks (kind_shown (p.now.head s)) s e there

abbrev by_kind : (s e : ℕ) → Option ℕ → EntryContext → List Check
by_kind s e there p = Check.Sees (HeaderOf s) ∷ arriving s e there p

checks_nothing : (p : EntryContext) (d e s : ℕ) (there : Option ℕ) → there ≡ Some s → rename_checks p d e (Some s) there ≡ []
checks_nothing p d e s there is = ap (rename_checks p d e (Some s)) is ∙ ap (λ same. if same then [] else move_checks p d e s (Some s)) (eq-eqb s s refl)

checks_move : (p : EntryContext) (d e s : ℕ) (there : Option ℕ) → (there ≡ Some s → ⊥) → move_checks p d e s there ≡ rename_checks p d e (Some s) there
checks_move p d e s None other = refl
checks_move p d e s (Some t) other = ap (λ same. if same then [] else move_checks p d e s (Some t)) (sym (ne_eqb t s (λ is. other (ap Some is))))

pub returns-then-leads_to : goal.returns-then-leads_to
returns-then-leads_to g c =
    let judge = c.args.judge.now in
    let d = c.args.dir in
    let e = c.args.new_dir in
    let s = c.args.moved in
    let there = c.args.there in
    said_otherwise judge (λ p. []) (λ p. rename_checks p d e (Some s) there) None (λ state agrees. sym (checks_nothing (entry_context_in judge state) d e s there (c.leads_to.ensures.yes c.if-leads_to.true)))
    (record { goes = goes_nowhere c.args.recorder.now; known = λ state agrees. failing-none (entry_context_in judge state); among = λ state agrees. within_same _ _ })

pub returns-in-Some : goal.returns-in-Some
returns-in-Some g c =
    let judge = c.args.judge.now in
    let d = c.args.dir in
    let e = c.args.new_dir in
    let s = c.args.moved in
    let there = c.args.there in
    let front = by_directories d e s in
    said_otherwise judge (λ p. move_checks p d e s there) (λ p. rename_checks p d e (Some s) there) (Some c.in-Some.reason) (λ state agrees. checks_move (entry_context_in judge state) d e s there (c.leads_to.ensures.no c.if-leads_to.false))
    (front_fails judge front (by_kind s e there) c.in-Some.reason (found_is judge front _ (Some c.in-Some.reason) c.in-Some.is c.in_ok-reason.ensures))

pub returns-in_err-kind : goal.returns-in_err-kind
returns-in_err-kind g c = cut_short (goes_then c.in_ok-reason.ensures.goes c.in_err-kind.ensures.goes) _ _ _ c.from_residual-in_err-kind.ensures.0

pub returns-in_err-rest : goal.returns-in_err-rest
returns-in_err-rest g c = cut_short (goes_then c.in_ok-reason.ensures.goes (goes_then c.in_ok-kind.ensures.goes c.in_err-rest.ensures.goes)) _ _ _ c.from_residual-in_err-rest.ensures.0

pub returns : goal.returns
returns g c =
    let judge = c.args.judge.now in
    let d = c.args.dir in
    let e = c.args.new_dir in
    let s = c.args.moved in
    let there = c.args.there in
    let rest = c.in_ok-rest.rest in
    let front = by_directories d e s in
    let arrived = said_otherwise judge (λ p. arrival_checks (kind_of c.in_ok-kind.kind) s e there) (arriving s e there) rest (λ state agrees. ap (λ kind. arrival_checks kind s e there) (sym (c.in_ok-kind.ensures.known state (c.in_ok-rest.ensures.goes.grows state agrees)))) c.in_ok-rest.ensures in
    said_otherwise judge (λ p. move_checks p d e s there) (λ p. rename_checks p d e (Some s) there) rest (λ state agrees. checks_move (entry_context_in judge state) d e s there (c.leads_to.ensures.no c.if-leads_to.false))
    (then_back judge front (by_kind s e there) rest (found_is judge front _ None c.in_default.is c.in_ok-reason.ensures)
    (behind_cell judge (HeaderOf s) _ c.in_ok-kind.kind (arriving s e there) rest c.in_ok-kind.ensures arrived))
