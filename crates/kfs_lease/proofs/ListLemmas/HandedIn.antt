-- One row more, behind rows without a fault.
use Rattle.std.proofs.Common.{◌≡◌, ℕ, ◌+◌, ◌<◌, ◌++◌, ◌∷◌, [], true, List, Option, Some, None, length, get_or, take, drop, option_map, is_some, refl, sym, ap, ◌∙◌, add-one, take-append-drop, arith}
use Rattle.std.specs.List.{list_all}
use Rattle.std.proofs.Math.Seq.{take-suc}
use Rattle.std.proofs.lemmas.List.{drop_more, length-take-le}
use Rattle.kfs_model.specs.Access.{Client}
use Rattle.kfs_model.specs.Header.{Header}
use Rattle.kfs_model.specs.Table.{get}
use Rattle.kfs_model.proofs.FirstAnswer.{first_is, none_more}
use Rattle.kfs_lease.specs.LeaseLists.{Ascend, IsLast, LeaseRowFault, fault_behind, fault_of_row, fault_of_rows, is_before, listed_table}
use Rattle.kfs_lease.specs.LeaseLists as model
use Rattle.kfs_lease.proofs.ListLemmas.Faultless.{has_passed}
use Rattle.kfs_lease.proofs.ListLemmas.LastRow.{last_decides, new_key}
use Rattle.kfs_lease.specs.Rows.Rows.{RowTable, lease_of, shown}
use Rattle.kfs_lease.specs.declared.rows.rows.Lease.{Lease}
use Rattle.kfs_lease.proofs.RowsLemmas.RowTables.{get-shown}
use Rattle.kfs_lease.specs.ShownLists.{row_shown, rows_shown}
use Rattle.kfs_lease.specs.declared.leases.listed.LeaseRow.{LeaseRow}

pub shown-append : (xs ys : List LeaseRow) → rows_shown (xs ++ ys) ≡ rows_shown xs ++ rows_shown ys
shown-append [] ys = refl
shown-append (x ∷ xs) ys = ap (λ rows. row_shown x ∷ rows) (shown-append xs ys)

pub length-shown : (xs : List LeaseRow) → length (rows_shown xs) ≡ length xs
length-shown [] = refl
length-shown (x ∷ xs) = let later = length-shown xs in omega arith

module _ (rows : List LeaseRow) (i : ℕ) (d : LeaseRow) (below : i < length rows) where
  abbrev pub earlier : List model.LeaseRow
  earlier = rows_shown (take i rows)

  abbrev pub row : model.LeaseRow
  row = row_shown (get_or rows i d)

  pub shown_more : rows_shown (take (i + 1) rows) ≡ earlier ++ row ∷ []
  shown_more = ap (λ n. rows_shown (take n rows)) (add-one i) ∙ ap rows_shown (take-suc rows i d below) ∙ shown-append (take i rows) (get_or rows i d ∷ [])

  pub whole : rows_shown rows ≡ earlier ++ row ∷ rows_shown (drop (i + 1) rows)
  whole =
      ap rows_shown (sym (take-append-drop i rows))
      ∙ shown-append (take i rows) (drop i rows)
      ∙ ap (λ rest. earlier ++ rows_shown rest) (drop_more rows i d below)

  pub ascends_there : Ascend (rows_shown rows) → list_all (λ other. is_before other row) earlier ≡ true
  ascends_there ascend = ascend earlier row (rows_shown (drop (i + 1) rows)) whole

  module _ (clients : List Client) (heads : ℕ → Option Header) (moment : ℕ) (last : Option model.LeaseRow) (none : fault_of_rows clients heads moment earlier ≡ None) (is_last : IsLast earlier last) where
    alike : fault_of_row clients heads moment earlier row ≡ fault_behind clients heads moment i last row
    alike =
        last_decides clients heads moment earlier last row none is_last
        ∙ ap (λ n. fault_behind clients heads moment n last row) (length-shown (take i rows) ∙ length-take-le i rows (omega (arith, below)))

    pub fault_first : (fault : Option LeaseRowFault) → fault_behind clients heads moment i last row ≡ fault → is_some fault ≡ true → fault_of_rows clients heads moment (rows_shown rows) ≡ fault
    fault_first fault found some =
        ap (fault_of_rows clients heads moment) whole
        ∙ first_is (fault_of_row clients heads moment) earlier row (rows_shown (drop (i + 1) rows)) none (ap is_some (alike ∙ found) ∙ some)
        ∙ alike
        ∙ found

    module _ (found : fault_behind clients heads moment i last row ≡ None) where
      pub none_yet : fault_of_rows clients heads moment (rows_shown (take (i + 1) rows)) ≡ None
      none_yet = ap (fault_of_rows clients heads moment) shown_more ∙ none_more (fault_of_row clients heads moment) earlier row none (alike ∙ found)

      pub behind_all : list_all (λ other. is_before other row) earlier ≡ true
      behind_all = (has_passed clients heads moment earlier row (alike ∙ found)).ascends

      pub absent : (t : RowTable) → shown t ≡ listed_table earlier → get t (row.number, row.client) ≡ None
      absent t is = by (get t (row.number, row.client)) (sym (get-shown t (row.client, row.number)) ∙ ap (λ u. get u (row.client, row.number)) is ∙ new_key earlier row behind_all)
        where
          by : (found' : Option Lease) → option_map lease_of found' ≡ None → found' ≡ None
          by None is' = refl
          by (Some lease) is' = cc
