-- Each header makes a size, and a look leaves what the earlier ones told.
use Rattle.std.proofs.Common.{◌≡◌, ◌∙◌, map, Some, subst, sym}
use Rattle.std.proofs.lemmas.Map.Iter.{rest_more, rest_all}
use Rattle.std.proofs.lemmas.Map.Views.{All-turn}
use Rattle.std.specs.BTreeMap.{get}
use Rattle.std.specs.List.Sorted.{IsStrictlySortedBy}
use Rattle.std.specs.List.{AllByRecursion}
use Rattle.std.specs.Map.Iter.{deref_pair}
use Rattle.kfs_model.specs.Sight.{HeaderOf}
use Rattle.kfs_model.specs.Table.{numbers}
use Rattle.kfs_entry.proofs.CodecLemmas.RowPush.{AllByRecursion-push}
use Rattle.kfs_judge_reads.proofs.Recording.{goes_then, within_then, within_wider, one_is_part}
use Rattle.kfs_judge_reads.specs.Draft.Overlay.{over}
use Rattle.kfs_judge.proofs.StepLemmas.Entered.{is_cut_off}
use Rattle.kfs_judge.proofs.StepLemmas.FileSizes.{IsOwnSize, own_size, numbers_all, numbers_more, shows_header, sizes_are_over, sorted-ascend}
use Rattle.kfs_pieces.specs.Sizes.{IsSize}
use Rattle.kfs_judge_reads.specs.Draft.Few.{at_key}
use Rattle.kfs_judge_reads.proofs.DraftLemmas.Fews.{tree_is}
use Rattle.kfs_judge.proofs.step.net.tree_file_sizes.Goals as goal

pub returns-in_err-before-clause-looks : goal.returns-in_err-before-clause-looks
returns-in_err-before-clause-looks g c = is_cut_off c.args.draft.now _ (goes_then c.loop-number.invariant.goes c.in_err-before.ensures.goes) _ c.from_residual.ensures.0

pub returns-in_err-push-clause-looks : goal.returns-in_err-push-clause-looks
returns-in_err-push-clause-looks g c = is_cut_off c.args.draft.now _ (goes_then c.loop-number.invariant.goes c.in_ok-before.ensures.goes) _ c.from_residual-in_err-push.ensures.0

pub loop-number-preserved : goal.loop-number-preserved
loop-number-preserved g c =
    let draft = c.args.draft.now in
    let n = c.in-Some.number.now in
    let now = c.in-Some.now.now in
    let size = c.file_size.result in
    let found = subst (λ es. at_key numbers.compare es n ≡ Some now) (tree_is c.args.draft.now.heads c.headers.result.now c.tree.result.now c.requires c.headers.ensures c.tree.ensures) (All-turn deref_pair (λ e. get numbers.compare c.tree.result.now e.0 ≡ Some e.1) _ _ _ _ _ _ (c.in-Some.number, c.in-Some.now) c.iter-number-items.ensures.found (c.into_iter-number-iterator.ensures.into_iter_gives ∙ c.iter-number-items.ensures.rest) c.loop-number.yielded_by c.in-Some.is c.next.ensures.steps) in
    record {
      ready = tt;
      finite = tt;
      goes = goes_then c.loop-number.invariant.goes c.in_ok-before.ensures.goes;
      among = λ among written. within_then (c.loop-number.invariant.among among written) (within_wider (one_is_part (HeaderOf n) among (written.heads n now found)) c.in_ok-before.ensures.among);
      numbers = numbers_more c.loop-number.sizes.items c.push.new.self.items size (n, now) c.loop-number.number-iterator c.next.new.self _
          c.in_ok-push.ensures.items (rest_more deref_pair _ _ _ (c.in-Some.number, c.in-Some.now) c.in-Some.is c.next.ensures.steps) c.file_size.ensures.number c.loop-number.invariant.numbers;
      own = λ state agrees.
          let was = c.file_size.ensures.before state.sight (c.in_ok-before.ensures.known state agrees) in
          let is = c.file_size.ensures.after (over draft state.sight) (shows_header draft state.sight n now found) in
          subst (AllByRecursion (IsOwnSize draft state.sight)) (sym c.in_ok-push.ensures.items)
          (AllByRecursion-push (IsOwnSize draft state.sight) c.loop-number.sizes.items size (c.loop-number.invariant.own state (c.in_ok-before.ensures.goes.grows state agrees)) (own_size draft state.sight size n c.file_size.ensures.number was is));
      short = subst (AllByRecursion IsSize) (sym c.in_ok-push.ensures.items) (AllByRecursion-push IsSize c.loop-number.sizes.items size c.loop-number.invariant.short c.file_size.ensures.short);
    }

pub returns-clause-looks : goal.returns-clause-looks
returns-clause-looks g c = record {
  goes = c.loop-number.invariant.goes;
  known = λ state agrees.
      sizes_are_over c.args.draft.now state.sight c.loop-number.sizes.items (numbers_all c.loop-number.sizes.items c.loop-number.number-iterator _ (rest_all deref_pair _ _ _ c.in-None.is c.next.ensures.steps) c.loop-number.invariant.numbers) (c.loop-number.invariant.own state agrees);
  among = c.loop-number.invariant.among;
}

pub returns-clause-ascending : goal.returns-clause-ascending
returns-clause-ascending g c =
    sorted-ascend c.loop-number.sizes.items _ (numbers_all c.loop-number.sizes.items c.loop-number.number-iterator _ (rest_all deref_pair _ _ _ c.in-None.is c.next.ensures.steps) c.loop-number.invariant.numbers) (subst (λ es. IsStrictlySortedBy numbers.compare (map (λ e. e.0) es)) (tree_is c.args.draft.now.heads c.headers.result.now c.tree.result.now c.requires c.headers.ensures c.tree.ensures) c.iter-number-items.ensures.ordered)
