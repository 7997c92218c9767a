-- One move more, without a fault behind the earlier ones.
use Rattle.std.proofs.Common.{◌≡◌, ◌≤◌, true, false, not, List, Some, length, take, sym, ap, subst, ◌∙◌, arith}
use Rattle.std.proofs.lemmas.Bool.{not-true, not-false}
use Rattle.std.proofs.lemmas.List.{length-take-le}
use Rattle.std.proofs.lemmas.Result.{err_from_is_err_and}
use Rattle.std.specs.BTreeSet.{Updates, contains}
use Rattle.kfs_model.specs.Migration as model
use Rattle.kfs_model.specs.Migration.{Move, fault_of_move, source}
use Rattle.kfs_types.specs.declared.moves.moves.MoveFault.TheVariants as faults
use Rattle.kfs_types.specs.Moves.Faults.{Refuses}
use Rattle.kfs_migrate.specs.Faults.{IsPossible}
use Rattle.kfs_migrate.proofs.MoveSets.{AreKeysOf, by_pair, target_key, added_if_new, key_more}
use Rattle.kfs_migrate.proofs.MoveTests.{grown, no_fault, passes, refused_here, same_source, same_target}
use Rattle.kfs_migrate.proofs.check.check_moves.Goals as goal

pub returns-in_err-check_alone-clause-err : goal.returns-in_err-check_alone-clause-err
returns-in_err-check_alone-clause-err g c =
    let image = c.args.image.now in
    let moves = c.args.moves.now in
    let i = c.loop-index.index in
    let p = err_from_is_err_and c.from_residual-in_err-check_alone.result c.from_residual-in_err-check_alone.ensures.1 in
    rw (p.1, p.2)
    (refused_here image.sizes image.placement moves i c.index-moves-index.result c.loop-index-test.true c.index-moves-index.is c.loop-index.invariant.first c.if-moves-gt-MOVE_LIMIT.false c.in_err-check_alone.field-0.0
    (subst (λ (x : Move). Refuses (fault_of_move image.sizes image.placement (take i moves) x) c.in_err-check_alone.field-0.0) c.m.view_is (c.in_err-check_alone.ensures.err (take i moves) (length-take-le i moves (omega arith)))))

pub returns-then-not-branch-clause-err : goal.returns-then-not-branch-clause-err
returns-then-not-branch-clause-err g c =
    let image = c.args.image.now in
    let moves = c.args.moves.now in
    let i = c.loop-index.index in
    let m = c.index-moves-index.result in
    let possible = subst (IsPossible image.sizes image.placement) c.m.view_is c.in_ok-check_alone.ensures.ok in
    let said = c.in_ok-insert.ensures.added ∙ ap (λ (x : Move). not (contains by_pair c.loop-index.sources (source x))) c.m.view_is in
    let again = not-false _ (sym (added_if_new source (take i moves) m c.loop-index.sources c.loop-index.invariant.sources said) ∙ c.if-not-branch.true) in
    refused_here image.sizes image.placement moves i m c.loop-index-test.true c.index-moves-index.is c.loop-index.invariant.first c.if-moves-gt-MOVE_LIMIT.false (faults.Overlap i)
    (same_source image.sizes image.placement (take i moves) m possible again ∙ ap (λ n. Some (model.Overlap n)) (length-take-le i moves (omega arith)))

pub returns-then-not-branch-2-clause-err : goal.returns-then-not-branch-2-clause-err
returns-then-not-branch-2-clause-err g c =
    let image = c.args.image.now in
    let moves = c.args.moves.now in
    let i = c.loop-index.index in
    let m = c.index-moves-index.result in
    let possible = subst (IsPossible image.sizes image.placement) c.m.view_is c.in_ok-check_alone.ensures.ok in
    let said = c.in_ok-insert-2.ensures.added ∙ ap (λ (x : Move). not (contains by_pair c.loop-index.targets (target_key x))) c.m.view_is in
    let taken = not-false _ (sym (added_if_new target_key (take i moves) m c.loop-index.targets c.loop-index.invariant.targets said) ∙ c.if-not-branch-2.true) in
    refused_here image.sizes image.placement moves i m c.loop-index-test.true c.index-moves-index.is c.loop-index.invariant.first c.if-moves-gt-MOVE_LIMIT.false (faults.Overlap i)
    (same_target image.sizes image.placement (take i moves) m possible taken ∙ ap (λ n. Some (model.Overlap n)) (length-take-le i moves (omega arith)))

pub loop-index-preserved : goal.loop-index-preserved
loop-index-preserved g c =
    let image = c.args.image.now in
    let moves = c.args.moves.now in
    let i = c.loop-index.index in
    let m = c.index-moves-index.result in
    let earlier = take i moves in
    let held = c.loop-index.invariant in
    let more = sym (grown moves i m c.loop-index-test.true c.index-moves-index.is) in
    let possible = subst (IsPossible image.sizes image.placement) c.m.view_is c.in_ok-check_alone.ensures.ok in
    let said = c.in_ok-insert.ensures.added ∙ ap (λ (x : Move). not (contains by_pair c.loop-index.sources (source x))) c.m.view_is in
    let also = c.in_ok-insert-2.ensures.added ∙ ap (λ (x : Move). not (contains by_pair c.loop-index.targets (target_key x))) c.m.view_is in
    let new = not-true _ (sym (added_if_new source earlier m c.loop-index.sources held.sources said) ∙ c.if-not-branch.false) in
    let free = not-true _ (sym (added_if_new target_key earlier m c.loop-index.targets held.targets also) ∙ c.if-not-branch-2.false) in
    let sources = subst (λ (x : Move). Updates by_pair c.loop-index.sources c.insert.new.self (source x) true) c.m.view_is c.in_ok-insert.ensures.updates in
    let targets = subst (λ (x : Move). Updates by_pair c.loop-index.targets c.insert-in-loop-index.new.self (target_key x) true) c.m.view_is c.in_ok-insert-2.ensures.updates in
    record {
      first = passes image.sizes image.placement moves i m c.loop-index-test.true c.index-moves-index.is held.first (no_fault image.sizes image.placement earlier m possible new free);
      sources = subst (λ (ms : List Move). AreKeysOf source ms c.insert.new.self) more (key_more source earlier m c.loop-index.sources c.insert.new.self held.sources sources);
      targets = subst (λ (ms : List Move). AreKeysOf target_key ms c.insert-in-loop-index.new.self) more (key_more target_key earlier m c.loop-index.targets c.insert-in-loop-index.new.self held.targets targets);
    }
