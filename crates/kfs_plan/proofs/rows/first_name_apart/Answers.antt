-- The first pair of rows that differs, or else where the shorter list ends.
use Rattle.std.proofs.Common.{◌≡◌, ℕ, List, Option, length, map, not, position, zip, nat_eq, refl, sym, ap, subst, ◌∙◌}
use Rattle.kfs_model.specs.FirstWrong.{first_difference, same_pair, same_place}
use Rattle.kfs_types.specs.declared.plan.NameRow.{NameRow}
use Rattle.kfs_image_nodes.specs.Lent.{rows_in}
use Rattle.kfs_judge.specs.Step.Rows.{keyed_name_row}
use Rattle.kfs_plan.specs.PlanCheck.{at_end, is_same_row}
use Rattle.kfs_plan.proofs.RowsCompared.{first_difference-map, first_difference-position}
use Rattle.kfs_plan.proofs.rows.first_name_apart.Goals as goal

abbrev apart_in : (rows right : List (NameRow (List ℕ))) → Option ℕ
apart_in rows right = first_difference (same_pair same_place nat_eq) (map keyed_name_row rows) (map keyed_name_row right)

apart : (rows right : List (NameRow (List ℕ))) (differs : Option ℕ) → differs ≡ position (λ pair. not (is_same_row pair.0 pair.1)) (zip rows right)
    → at_end differs (length rows) (length right) ≡ apart_in rows right
apart rows right differs is =
    ap (λ o. at_end o (length rows) (length right)) is
    ∙ sym (first_difference-position is_same_row rows right)
    ∙ first_difference-map is_same_row (same_pair same_place nat_eq) keyed_name_row (λ r q. refl) rows right

pub returns-in-Owned : goal.returns-in-Owned
returns-in-Owned g c =
    subst (λ right. c.at_end.result ≡ apart_in c.args.rows.now (rows_in right)) (sym c.in-Owned.is)
    (c.at_end.ensures ∙ apart c.args.rows.now _ _ c.first_unlike_owned-differs.ensures)

pub returns-in-Borrowed : goal.returns-in-Borrowed
returns-in-Borrowed g c =
    subst (λ right. c.at_end-in-Borrowed.result ≡ apart_in c.args.rows.now (rows_in right)) (sym c.in-Borrowed.is)
    (c.at_end-in-Borrowed.ensures ∙ apart c.args.rows.now _ _ c.first_unlike_borrowed-differs.ensures)

pub returns-in-Kept : goal.returns-in-Kept
returns-in-Kept g c =
    subst (λ right. c.at_end-in-Kept.result ≡ apart_in c.args.rows.now (rows_in right)) (sym c.in-Kept.is)
    (c.at_end-in-Kept.ensures ∙ apart c.args.rows.now _ _ c.first_unlike_kept-differs.ensures)
