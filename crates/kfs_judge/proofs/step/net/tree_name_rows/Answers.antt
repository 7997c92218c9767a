-- An entry makes a row exactly where something else stood at its key.
use Rattle.std.proofs.Common.{◌≡◌, Some, ◌∙◌, map, nat_eq, subst}
use Rattle.std.proofs.lemmas.Map.Iter.{rest_more, rest_all}
use Rattle.std.proofs.lemmas.Map.Views.{All-turn}
use Rattle.kfs_model.specs.Sight.{NameIn}
use Rattle.std.specs.Map.Iter.{deref_pair}
use Rattle.std.specs.BTreeMap.{get}
use Rattle.std.specs.List.Sorted.{IsStrictlySortedBy}
use Rattle.kfs_model.specs.Tree.{name_order}
use Rattle.kfs_model.specs.Plan.{number_now}
use Rattle.kfs_model.proofs.Exact.{numbers-exact}
use Rattle.kfs_judge.specs.Step.Rows.{IsRow, keyed_name_row}
use Rattle.kfs_judge_reads.proofs.Recording.{goes_then, within_then, within_wider, one_is_part}
use Rattle.kfs_judge.proofs.StepLemmas.Entered.{is_cut_off}
use Rattle.kfs_judge.proofs.StepLemmas.ChangedRows.{rows_same, rows_more, rows_all, names-differ}
use Rattle.kfs_judge_reads.specs.Draft.Few.{at_key}
use Rattle.kfs_judge_reads.proofs.DraftLemmas.Fews.{tree_is}
use Rattle.kfs_judge.proofs.step.net.tree_name_rows.Goals as goal

pub returns-in_err-row : goal.returns-in_err-row
returns-in_err-row g c = is_cut_off c.args.draft.now _ (goes_then c.loop-key.invariant.goes c.in_err-row.ensures.goes) _ c.from_residual-in_err-row.ensures.0

pub returns-in_err-push : goal.returns-in_err-push
returns-in_err-push g c = is_cut_off c.args.draft.now _ (goes_then c.loop-key.invariant.goes c.in_ok-row.ensures.goes) _ c.from_residual-in_err-push.ensures.0

pub loop-key-preserved-in-Continue-branch-4 : goal.loop-key-preserved-in-Continue-branch-4
loop-key-preserved-in-Continue-branch-4 g c = record {
  ready = tt;
  finite = tt;
  goes = goes_then c.loop-key.invariant.goes c.in_ok-row.ensures.goes;
  among = λ among written. within_then (c.loop-key.invariant.among among written) (within_wider (one_is_part (NameIn c.in-Some.key.now.0 c.in-Some.key.now.1) among (written.names c.in-Some.key.now c.in-Some.now.now
      (subst (λ es. at_key name_order.compare es c.in-Some.key.now ≡ Some c.in-Some.now.now) (tree_is c.args.draft.now.names c.targets.result.now c.tree.result.now c.requires c.targets.ensures c.tree.ensures) (All-turn deref_pair (λ e. get name_order.compare c.tree.result.now e.0 ≡ Some e.1) _ _ _ _ _ _ (c.in-Some.key, c.in-Some.now) c.iter-key-items.ensures.found (c.into_iter-key-iterator.ensures.into_iter_gives ∙ c.iter-key-items.ensures.rest) c.loop-key.yielded_by c.in-Some.is c.next.ensures.steps)))) c.in_ok-row.ensures.among);
  rows = λ state agrees. rows_more nat_eq numbers-exact number_now (λ key. state.sight.name key.0 key.1) keyed_name_row _ _ c.in-Some-2.row (c.in-Some.key.now, c.in-Some.now.now) c.loop-key.key-iterator c.next.new.self _
      c.in_ok-push.ensures.items (rest_more deref_pair _ _ _ (c.in-Some.key, c.in-Some.now) c.in-Some.is c.next.ensures.steps) (subst (λ r. IsRow number_now keyed_name_row c.in-Some.key.now (state.sight.name c.in-Some.key.now.0 c.in-Some.key.now.1) c.in-Some.now.now r) c.in-Some-2.is (c.in_ok-row.ensures.known state agrees)) (c.loop-key.invariant.rows state (c.in_ok-row.ensures.goes.grows state agrees));
}

pub loop-key-preserved : goal.loop-key-preserved
loop-key-preserved g c = record {
  ready = tt;
  finite = tt;
  goes = goes_then c.loop-key.invariant.goes c.in_ok-row.ensures.goes;
  among = λ among written. within_then (c.loop-key.invariant.among among written) (within_wider (one_is_part (NameIn c.in-Some.key.now.0 c.in-Some.key.now.1) among (written.names c.in-Some.key.now c.in-Some.now.now
      (subst (λ es. at_key name_order.compare es c.in-Some.key.now ≡ Some c.in-Some.now.now) (tree_is c.args.draft.now.names c.targets.result.now c.tree.result.now c.requires c.targets.ensures c.tree.ensures) (All-turn deref_pair (λ e. get name_order.compare c.tree.result.now e.0 ≡ Some e.1) _ _ _ _ _ _ (c.in-Some.key, c.in-Some.now) c.iter-key-items.ensures.found (c.into_iter-key-iterator.ensures.into_iter_gives ∙ c.iter-key-items.ensures.rest) c.loop-key.yielded_by c.in-Some.is c.next.ensures.steps)))) c.in_ok-row.ensures.among);
  rows = λ state agrees. rows_same nat_eq numbers-exact number_now (λ key. state.sight.name key.0 key.1) keyed_name_row _ (c.in-Some.key.now, c.in-Some.now.now) c.loop-key.key-iterator c.next.new.self _
      (rest_more deref_pair _ _ _ (c.in-Some.key, c.in-Some.now) c.in-Some.is c.next.ensures.steps) (subst (λ r. IsRow number_now keyed_name_row c.in-Some.key.now (state.sight.name c.in-Some.key.now.0 c.in-Some.key.now.1) c.in-Some.now.now r) c.in_default.is (c.in_ok-row.ensures.known state agrees)) (c.loop-key.invariant.rows state (c.in_ok-row.ensures.goes.grows state agrees));
}

pub returns : goal.returns
returns g c = record {
  goes = c.loop-key.invariant.goes;
  known = λ state agrees. names-differ c.args.draft.now state.sight (subst (λ es. IsStrictlySortedBy name_order.compare (map (λ e. e.0) es)) (tree_is c.args.draft.now.names c.targets.result.now c.tree.result.now c.requires c.targets.ensures c.tree.ensures) c.iter-key-items.ensures.ordered) c.loop-key.rows.items (rows_all nat_eq numbers-exact number_now (λ key. state.sight.name key.0 key.1) keyed_name_row _ c.loop-key.key-iterator _ (rest_all deref_pair _ _ _ c.in-None.is c.next.ensures.steps) (c.loop-key.invariant.rows state agrees));
  among = c.loop-key.invariant.among;
}
