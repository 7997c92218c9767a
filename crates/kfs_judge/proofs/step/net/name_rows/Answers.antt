-- The only name makes the only row.
use Rattle.std.proofs.Common.{◌≡◌, ◌∙◌, ◌∷◌, [], ℕ, List, Option, None, ap, nat_eq, subst, sym}
use Rattle.kfs_model.specs.Sight.{NameIn}
use Rattle.kfs_model.specs.Tree.{name_order}
use Rattle.kfs_model.specs.Plan.{number_now}
use Rattle.kfs_model.proofs.Exact.{numbers-exact}
use Rattle.kfs_judge_reads.specs.Draft.Few.{entries_of}
use Rattle.kfs_judge.specs.Step.Rows.{keyed_name_row}
use Rattle.kfs_judge_reads.proofs.Recording.{within_wider, one_is_part}
use Rattle.kfs_judge_reads.proofs.DraftLemmas.Fews.{found_alone, sorted_alone}
use Rattle.kfs_judge.proofs.StepLemmas.Entered.{is_cut_off}
use Rattle.kfs_judge.proofs.StepLemmas.ChangedRows.{changed_rows, rows_of_one, names-differ}
use Rattle.kfs_judge.proofs.step.net.name_rows.Goals as goal

pub returns-in_err-row : goal.returns-in_err-row
returns-in_err-row g c = is_cut_off c.args.draft.now _ c.in_err-row.ensures.goes _ c.from_residual.ensures.0

pub returns-in_err-rows : goal.returns-in_err-rows
returns-in_err-rows g c = is_cut_off c.args.draft.now _ c.in_ok-row.ensures.goes _ c.from_residual-in_err-rows.ensures.0

pub returns-in-Some : goal.returns-in-Some
returns-in-Some g c =
    let draft = c.args.draft.now in
    let key = c.in-Some.key.now in
    let now = c.in-Some.now.now in
    let alone : entries_of draft.names ≡ (key, now) ∷ [] = ap entries_of (sym c.targets.ensures) ∙ c.in-Some.ensures.some in
    record {
      goes = c.in_ok-row.ensures.goes;
      known = λ state agrees.
          let was : (ℕ × List ℕ) → Option ℕ = λ key. state.sight.name key.0 key.1 in
          names-differ draft state.sight (sorted_alone name_order.compare (entries_of draft.names) (key, now) alone) c.in_ok-rows.rows.items
          (rows_of_one nat_eq numbers-exact number_now was keyed_name_row c.in_ok-row.row c.in_ok-rows.rows.items (key, now) c.in_ok-rows.ensures (c.in_ok-row.ensures.known state agrees)
          ∙ ap (changed_rows nat_eq number_now was) (sym alone));
      among = λ among written. within_wider (one_is_part (NameIn key.0 key.1) among (written.names key now (found_alone name_order.compare name_order.total (entries_of draft.names) key now alone))) c.in_ok-row.ensures.among;
    }

pub tree_name_rows-requires : goal.tree_name_rows-requires
tree_name_rows-requires g c = subst (λ few. few.only ≡ None) c.targets.ensures c.in_default.ensures.none
