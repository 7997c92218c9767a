-- What node rows leave of a number, one row after another.
use Rattle.std.proofs.Common.{◌≡◌, ◌≢◌, ℕ, ◌+◌, ◌<◌, ◌≤◌, cond, List, [], ◌∷◌, ◌++◌, length, get_or, take, Option, refl, sym, ap, ◌∙◌}
use Rattle.std.specs.Ordering.{nat_cmp, eq_by_cmp}
use Rattle.std.specs.Cmp.{unsigned_tied}
use Rattle.std.proofs.lemmas.Bool.{eq-eqb, ne_eqb}
use Rattle.std.proofs.lemmas.List.{take_all, take_more}
use Rattle.kfs_types.specs.declared.entry.Header.{Header as CodeHeader}
use Rattle.kfs_types.specs.declared.plan.NodeRow.{NodeRow}
use Rattle.kfs_image_nodes.specs.NodeEdits.{left_by}

left_by_last : (rows : List NodeRow) (row : NodeRow) (q : ℕ) (there : Option CodeHeader) → left_by (rows ++ row ∷ []) q there ≡ cond (eq_by_cmp nat_cmp q row.number) row.now (left_by rows q there)
left_by_last [] row q there = refl
left_by_last (first ∷ rows) row q there = left_by_last rows row q (cond (eq_by_cmp nat_cmp q first.number) first.now there)

module _ (rows : List NodeRow) (i : ℕ) (d : NodeRow) (number : ℕ) (before : Option CodeHeader) (below : i < length rows) where
  abbrev row : NodeRow
  row = get_or rows i d

  more : left_by (take (i + 1) rows) number before ≡ cond (eq_by_cmp nat_cmp number row.number) row.now (left_by (take i rows) number before)
  more = ap (λ rs. left_by rs number before) (take_more rows i d below) ∙ left_by_last (take i rows) row number before

  -- the row is of the number
  pub left_here : row.number ≡ number → row.now ≡ left_by (take (i + 1) rows) number before
  left_here same = sym (more ∙ ap (λ b. cond b row.now (left_by (take i rows) number before)) (unsigned_tied number row.number ∙ eq-eqb number row.number (sym same)))

  -- and of another one
  pub left_beside : row.number ≢ number → (found : Option CodeHeader) → found ≡ left_by (take i rows) number before → found ≡ left_by (take (i + 1) rows) number before
  left_beside other found so_far = so_far ∙ sym (more ∙ ap (λ b. cond b row.now (left_by (take i rows) number before)) (unsigned_tied number row.number ∙ ne_eqb number row.number (λ same. other (sym same))))

pub left_end : (rows : List NodeRow) (i number : ℕ) (before found : Option CodeHeader) → length rows ≤ i → found ≡ left_by (take i rows) number before → found ≡ left_by rows number before
left_end rows i number before found past so_far = so_far ∙ ap (λ rs. left_by rs number before) (take_all i rows past)
