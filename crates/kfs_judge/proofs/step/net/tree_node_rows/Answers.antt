-- An entry makes a row exactly where something else stood at its key.
use Rattle.std.proofs.Common.{◌≡◌, Some, ◌∙◌, ap, map, subst}
use Rattle.std.proofs.lemmas.Map.Iter.{rest_more, rest_all}
use Rattle.std.proofs.lemmas.Map.Views.{All-turn}
use Rattle.kfs_model.specs.Sight.{HeaderOf}
use Rattle.std.specs.Map.Iter.{deref_pair}
use Rattle.std.specs.BTreeMap.{get}
use Rattle.std.specs.List.Sorted.{IsStrictlySortedBy}
use Rattle.kfs_model.specs.Table.{numbers}
use Rattle.kfs_model.specs.Plan.{header_now}
use Rattle.kfs_model.specs.FirstWrong.{same_header}
use Rattle.std.specs.Option.{option_map}
use Rattle.kfs_types.specs.Views.{header_of}
use Rattle.kfs_model.proofs.Exact.{headers-exact}
use Rattle.kfs_judge.specs.Step.Rows.{IsRow, keyed_node_row}
use Rattle.kfs_judge_reads.proofs.Recording.{goes_then, within_then, within_wider, one_is_part}
use Rattle.kfs_judge.proofs.StepLemmas.Entered.{is_cut_off}
use Rattle.kfs_judge.proofs.StepLemmas.ChangedRows.{shown_heads, rows_same, rows_more, rows_all, heads-differ}
use Rattle.kfs_judge_reads.specs.Draft.Few.{at_key}
use Rattle.kfs_judge_reads.proofs.DraftLemmas.Fews.{tree_is}
use Rattle.kfs_judge.proofs.step.net.tree_node_rows.Goals as goal

pub returns-in_err-row : goal.returns-in_err-row
returns-in_err-row g c = is_cut_off c.args.draft.now _ (goes_then c.loop-number.invariant.goes c.in_err-row.ensures.goes) _ c.from_residual.ensures.0

pub returns-in_err-push : goal.returns-in_err-push
returns-in_err-push g c = is_cut_off c.args.draft.now _ (goes_then c.loop-number.invariant.goes c.in_ok-row.ensures.goes) _ c.from_residual-in_err-push.ensures.0

pub loop-number-preserved-in-Continue-branch-3 : goal.loop-number-preserved-in-Continue-branch-3
loop-number-preserved-in-Continue-branch-3 g c = record {
  ready = tt;
  finite = tt;
  goes = goes_then c.loop-number.invariant.goes c.in_ok-row.ensures.goes;
  among = λ among written. within_then (c.loop-number.invariant.among among written) (within_wider (one_is_part (HeaderOf c.in-Some.number.now) among (written.heads c.in-Some.number.now c.in-Some.now.now
      (subst (λ es. at_key numbers.compare es c.in-Some.number.now ≡ Some c.in-Some.now.now) (tree_is c.args.draft.now.heads c.headers.result.now c.tree.result.now c.requires c.headers.ensures c.tree.ensures) (All-turn deref_pair (λ e. get numbers.compare c.tree.result.now e.0 ≡ Some e.1) _ _ _ _ _ _ (c.in-Some.number, c.in-Some.now) c.iter-number-items.ensures.found (c.into_iter-number-iterator.ensures.into_iter_gives ∙ c.iter-number-items.ensures.rest) c.loop-number.yielded_by c.in-Some.is c.next.ensures.steps)))) c.in_ok-row.ensures.among);
  rows = λ state agrees. rows_more same_header headers-exact header_now state.sight.head keyed_node_row _ _ c.in-Some-2.row (c.in-Some.number.now, option_map header_of c.in-Some.now.now) (shown_heads c.loop-number.number-iterator) (shown_heads c.next.new.self) _
      c.in_ok-push.ensures.items (ap shown_heads (rest_more deref_pair _ _ _ (c.in-Some.number, c.in-Some.now) c.in-Some.is c.next.ensures.steps)) (subst (λ r. IsRow header_now keyed_node_row c.in-Some.number.now (state.sight.head c.in-Some.number.now) (option_map header_of c.in-Some.now.now) r) c.in-Some-2.is (c.in_ok-row.ensures.known state agrees)) (c.loop-number.invariant.rows state (c.in_ok-row.ensures.goes.grows state agrees));
}

pub loop-number-preserved : goal.loop-number-preserved
loop-number-preserved g c = record {
  ready = tt;
  finite = tt;
  goes = goes_then c.loop-number.invariant.goes c.in_ok-row.ensures.goes;
  among = λ among written. within_then (c.loop-number.invariant.among among written) (within_wider (one_is_part (HeaderOf c.in-Some.number.now) among (written.heads c.in-Some.number.now c.in-Some.now.now
      (subst (λ es. at_key numbers.compare es c.in-Some.number.now ≡ Some c.in-Some.now.now) (tree_is c.args.draft.now.heads c.headers.result.now c.tree.result.now c.requires c.headers.ensures c.tree.ensures) (All-turn deref_pair (λ e. get numbers.compare c.tree.result.now e.0 ≡ Some e.1) _ _ _ _ _ _ (c.in-Some.number, c.in-Some.now) c.iter-number-items.ensures.found (c.into_iter-number-iterator.ensures.into_iter_gives ∙ c.iter-number-items.ensures.rest) c.loop-number.yielded_by c.in-Some.is c.next.ensures.steps)))) c.in_ok-row.ensures.among);
  rows = λ state agrees. rows_same same_header headers-exact header_now state.sight.head keyed_node_row _ (c.in-Some.number.now, option_map header_of c.in-Some.now.now) (shown_heads c.loop-number.number-iterator) (shown_heads c.next.new.self) _
      (ap shown_heads (rest_more deref_pair _ _ _ (c.in-Some.number, c.in-Some.now) c.in-Some.is c.next.ensures.steps)) (subst (λ r. IsRow header_now keyed_node_row c.in-Some.number.now (state.sight.head c.in-Some.number.now) (option_map header_of c.in-Some.now.now) r) c.in_default.is (c.in_ok-row.ensures.known state agrees)) (c.loop-number.invariant.rows state (c.in_ok-row.ensures.goes.grows state agrees));
}

pub returns : goal.returns
returns g c = record {
  goes = c.loop-number.invariant.goes;
  known = λ state agrees. heads-differ c.args.draft.now state.sight (subst (λ es. IsStrictlySortedBy numbers.compare (map (λ e. e.0) es)) (tree_is c.args.draft.now.heads c.headers.result.now c.tree.result.now c.requires c.headers.ensures c.tree.ensures) c.iter-number-items.ensures.ordered) c.loop-number.rows.items (rows_all same_header headers-exact header_now state.sight.head keyed_node_row _ (shown_heads c.loop-number.number-iterator) _ (ap shown_heads (rest_all deref_pair _ _ _ c.in-None.is c.next.ensures.steps)) (c.loop-number.invariant.rows state agrees));
  among = c.loop-number.invariant.among;
}
