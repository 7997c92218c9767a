-- The only header makes the only sizes.
use Rattle.std.proofs.Common.{◌≡◌, ◌∙◌, ◌∷◌, [], None, ap, map, subst, sym}
use Rattle.std.specs.List.{AllByRecursion}
use Rattle.kfs_model.specs.Sight.{HeaderOf}
use Rattle.kfs_model.specs.Table.{numbers}
use Rattle.kfs_judge_reads.specs.Draft.Few.{entries_of}
use Rattle.kfs_judge_reads.specs.Draft.Overlay.{over}
use Rattle.kfs_judge_reads.proofs.Recording.{within_wider, one_is_part}
use Rattle.kfs_judge_reads.proofs.DraftLemmas.Fews.{found_alone, sorted_alone}
use Rattle.kfs_judge.proofs.StepLemmas.Entered.{is_cut_off}
use Rattle.kfs_judge.proofs.StepLemmas.FileSizes.{IsOwnSize, keys_left, own_size, shows_header, sizes_are_over, sorted-ascend}
use Rattle.kfs_pieces.specs.declared.log.FileSize.{FileSize}
use Rattle.kfs_pieces.specs.Sizes.{IsSize}
use Rattle.kfs_judge.proofs.step.net.file_sizes.Goals as goal

pub returns-in_err-before-clause-looks : goal.returns-in_err-before-clause-looks
returns-in_err-before-clause-looks g c = is_cut_off c.args.draft.now _ c.in_err-before.ensures.goes _ c.from_residual.ensures.0

pub returns-in_err-sizes-clause-looks : goal.returns-in_err-sizes-clause-looks
returns-in_err-sizes-clause-looks g c = is_cut_off c.args.draft.now _ c.in_ok-before.ensures.goes _ c.from_residual-in_err-sizes.ensures.0

pub returns-in-Some-clause-looks : goal.returns-in-Some-clause-looks
returns-in-Some-clause-looks g c =
    let draft = c.args.draft.now in
    let n = c.in-Some.number.now in
    let now = c.in-Some.now.now in
    let size = c.file_size.result in
    let alone : entries_of draft.heads ≡ (n, now) ∷ [] = ap entries_of (sym c.headers.ensures) ∙ c.in-Some.ensures.some in
    let found = found_alone numbers.compare numbers.total (entries_of draft.heads) n now alone in
    record {
      goes = c.in_ok-before.ensures.goes;
      known = λ state agrees.
          let was = c.file_size.ensures.before state.sight (c.in_ok-before.ensures.known state agrees) in
          let is = c.file_size.ensures.after (over draft state.sight) (shows_header draft state.sight n now found) in
          sizes_are_over draft state.sight c.in_ok-sizes.sizes.items
          (ap (map (λ (s : FileSize). s.number)) c.in_ok-sizes.ensures ∙ ap (λ k. k ∷ []) c.file_size.ensures.number ∙ ap keys_left (sym alone))
          (subst (AllByRecursion (IsOwnSize draft state.sight)) (sym c.in_ok-sizes.ensures) (own_size draft state.sight size n c.file_size.ensures.number was is, tt));
      among = λ among written. within_wider (one_is_part (HeaderOf n) among (written.heads n now found)) c.in_ok-before.ensures.among;
    }

pub returns-in-Some-clause-ascending : goal.returns-in-Some-clause-ascending
returns-in-Some-clause-ascending g c =
    let n = c.in-Some.number.now in
    let now = c.in-Some.now.now in
    let alone : entries_of c.args.draft.now.heads ≡ (n, now) ∷ [] = ap entries_of (sym c.headers.ensures) ∙ c.in-Some.ensures.some in
    sorted-ascend c.in_ok-sizes.sizes.items (keys_left (entries_of c.args.draft.now.heads))
    (ap (map (λ (s : FileSize). s.number)) c.in_ok-sizes.ensures ∙ ap (λ k. k ∷ []) c.file_size.ensures.number ∙ ap keys_left (sym alone))
    (sorted_alone numbers.compare (entries_of c.args.draft.now.heads) (n, now) alone)

pub returns-in-Some-clause-short : goal.returns-in-Some-clause-short
returns-in-Some-clause-short g c = subst (AllByRecursion IsSize) (sym c.in_ok-sizes.ensures) (c.file_size.ensures.short, tt)

pub tree_file_sizes-requires : goal.tree_file_sizes-requires
tree_file_sizes-requires g c = subst (λ few. few.only ≡ None) c.headers.ensures c.in_default.ensures.none
