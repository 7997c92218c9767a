-- The only header makes the only row.
use Rattle.std.proofs.Common.{◌≡◌, ◌∙◌, ◌∷◌, [], None, ap, subst, sym}
use Rattle.std.specs.Option.{option_map}
use Rattle.kfs_model.specs.FirstWrong.{same_header}
use Rattle.kfs_model.specs.Sight.{HeaderOf}
use Rattle.kfs_model.specs.Table.{numbers}
use Rattle.kfs_model.specs.Plan.{header_now}
use Rattle.kfs_model.proofs.Exact.{headers-exact}
use Rattle.kfs_types.specs.Views.{header_of}
use Rattle.kfs_judge_reads.specs.Draft.Few.{entries_of}
use Rattle.kfs_judge.specs.Step.Rows.{keyed_node_row}
use Rattle.kfs_judge_reads.proofs.Recording.{within_wider, one_is_part}
use Rattle.kfs_judge_reads.proofs.DraftLemmas.Fews.{found_alone, sorted_alone}
use Rattle.kfs_judge.proofs.StepLemmas.Entered.{is_cut_off}
use Rattle.kfs_judge.proofs.StepLemmas.ChangedRows.{changed_rows, shown_heads, rows_of_one, heads-differ}
use Rattle.kfs_judge.proofs.step.net.node_rows.Goals as goal

pub returns-in_err-row : goal.returns-in_err-row
returns-in_err-row g c = is_cut_off c.args.draft.now _ c.in_err-row.ensures.goes _ c.from_residual.ensures.0

pub returns-in_err-rows : goal.returns-in_err-rows
returns-in_err-rows g c = is_cut_off c.args.draft.now _ c.in_ok-row.ensures.goes _ c.from_residual-in_err-rows.ensures.0

pub returns-in-Some : goal.returns-in-Some
returns-in-Some g c =
    let draft = c.args.draft.now in
    let n = c.in-Some.number.now in
    let now = c.in-Some.now.now in
    let alone : entries_of draft.heads ≡ (n, now) ∷ [] = ap entries_of (sym c.headers.ensures) ∙ c.in-Some.ensures.some in
    record {
      goes = c.in_ok-row.ensures.goes;
      known = λ state agrees.
          heads-differ draft state.sight (sorted_alone numbers.compare (entries_of draft.heads) (n, now) alone) c.in_ok-rows.rows.items
          (rows_of_one same_header headers-exact header_now state.sight.head keyed_node_row c.in_ok-row.row c.in_ok-rows.rows.items (n, option_map header_of now) c.in_ok-rows.ensures (c.in_ok-row.ensures.known state agrees)
          ∙ ap (λ es. changed_rows same_header header_now state.sight.head (shown_heads es)) (sym alone));
      among = λ among written. within_wider (one_is_part (HeaderOf n) among (written.heads n now (found_alone numbers.compare numbers.total (entries_of draft.heads) n now alone))) c.in_ok-row.ensures.among;
    }

pub tree_node_rows-requires : goal.tree_node_rows-requires
tree_node_rows-requires g c = subst (λ few. few.only ≡ None) c.headers.ensures c.in_default.ensures.none
