-- Names counted by the number that they lead to.
use Rattle.std.proofs.Common.{◌≡◌, ℕ, ◌+◌, ◌<◌, ◌≤◌, ◌==◌, Bool, true, false, cond, List, [], ◌∷◌, length, map, drop, replicate, get_or, count_by, Option, Some, None, unwrap_or, Result, Ok, Err, refl, sym, ap, ◌∙◌, arith}
use Rattle.std.specs.Prelude.{IfOk, Vec}
use Rattle.std.specs.Ordering.{nat_cmp}
use Rattle.std.specs.BTreeMap.{BTreeMap, IsEmpty, is_at}
use Rattle.std.specs.Map.{lookup}
use Rattle.std.specs.List.{AllByRecursion}
use Rattle.std.proofs.lemmas.List.{drop_more, drop_all, get_or-replicate, length-replicate}
use Rattle.std.proofs.lemmas.Option.{slice_get-get_or}
use Rattle.kfs_model.specs.Header.{Header}
use Rattle.kfs_model.specs.PlanRow.{NameRow}
use Rattle.kfs_model.specs.Table.{Table, numbers}
use Rattle.kfs_model.specs.Tree.{name_order, name_count}
use Rattle.kfs_model.proofs.CleanIsAllowed.{left}
use Rattle.kfs_model.proofs.Counts.{tally, is_tally}
use Rattle.kfs_model.specs.Plan.{keyed_name}
use Rattle.kfs_model.specs.Device.RawImage.{RawNode, RawImage, heads_of, names_of}
use Rattle.kfs_model.specs.Device.Rules.{Test, with_previous, directory_test, rule_4}
use Rattle.kfs_model.specs.Device.Finding.{least_of, least_failed}
use Rattle.kfs_model.proofs.DeviceLemmas.RowTables.{AreAbove, sorted_entries, sorted_rows}
use Rattle.kfs_model.proofs.DeviceLemmas.RulesHold.{AllHold}
use Rattle.kfs_shape.specs.declared.links.Link.{Link}
use Rattle.kfs_shape.specs.Counts.{count_at}
use Rattle.kfs_shape.specs.Links.{link_of, AreLinks}
use Rattle.kfs_shape.specs.NameCounts.{leads_to, count_in, CountsLeads, CountsNames}

-- ---- one row after another

module _ {X : Type 0} (test : X → Bool) where
  pub counted_rest : (rows : List X) (index : ℕ) (row : X) → index < length rows → row ≡ get_or rows index row → tally test (drop index rows) ≡ cond (test row) 1 0 + tally test (drop (index + 1) rows)
  unfolding tally
  counted_rest rows index row within is =
      ap (tally test) (drop_more rows index row within)
      ∙ ap (λ r. cond (test r) 1 0 + tally test (drop (index + 1) rows)) (sym is)

  pub counted_end : (rows : List X) (index : ℕ) → length rows ≤ index → tally test (drop index rows) ≡ 0
  unfolding tally
  counted_end rows index past = ap (tally test) (drop_all index rows past)

pub none_counted : (counts : BTreeMap ℕ ℕ) → IsEmpty counts → (number : ℕ) → count_at counts number ≡ 0
none_counted counts empty number = ap (λ es. unwrap_or (lookup (is_at (nat_cmp number)) es) 0) empty

pub at_most : (b : Bool) → cond b 1 0 ≤ 1
at_most true = omega arith
at_most false = omega arith

-- ---- the names of rows that ascend

pub all_hold : (tests : List Test) → least_failed tests ≡ None → AllHold tests
all_hold [] none = tt
all_hold (t ∷ ts) none = at t.holds refl (all_hold ts) none
  where
    at : (b : Bool) → t.holds ≡ b → (least_failed ts ≡ None → AllHold ts) → cond b (least_failed ts) (Some (least_of t.number (least_failed ts))) ≡ None → AllHold (t ∷ ts)
    at true is rest none = (is, rest none)
    at false is rest none = cc

names_above : (heads : Table numbers Header) (es : List (Option NameRow × NameRow)) → AllHold (map (directory_test heads) es) → AreAbove name_order keyed_name es
names_above heads [] hold = tt
names_above heads (e ∷ es) hold = (left _ _ hold.0, names_above heads es hold.1)

pub tally_map : {X Y : Type 0} (test : Y → Bool) (f : X → Y) (xs : List X) → tally test (map f xs) ≡ tally (λ x. test (f x)) xs
unfolding tally
tally_map test f [] = refl
tally_map test f (x ∷ xs) = ap (λ n. cond (test (f x)) 1 0 + n) (tally_map test f xs)

-- ascending name rows are the names
pub names_listed : (raw : RawImage) → least_failed (rule_4 raw) ≡ None → (names_of raw).entries ≡ map keyed_name raw.names
names_listed raw ascend =
    let above = names_above (heads_of raw) (with_previous None raw.names) (all_hold (rule_4 raw) ascend) in
    sorted_entries name_order (map keyed_name raw.names) (sorted_rows name_order keyed_name raw.names above)

-- what stands past the end of a list of links
abbrev pub no_link : Link
no_link = record { dir = 0; number = 0 }

-- a node has as many names as links lead to it
pub links_counted : (raw : RawImage) (links : List Link) → AreLinks links raw → least_failed (rule_4 raw) ≡ None → (number : ℕ) → name_count (names_of raw) number ≡ count_by (leads_to number) links
links_counted raw links linked ascend number =
    ap (count_by (λ e. e.1 == number)) (names_listed raw ascend)
    ∙ is_tally (λ e. e.1 == number) (map keyed_name raw.names)
    ∙ tally_map (λ e. e.1 == number) keyed_name raw.names
    ∙ sym (tally_map (leads_to number) link_of raw.names)
    ∙ ap (tally (leads_to number)) (sym linked)
    ∙ sym (is_tally (leads_to number) links)

-- counts of the links are the counts of the names of each node whose number is below the bound
pub all_counted : {E A : Type 0} (raw : RawImage) (many : ℕ) (links : List Link) → AreLinks links raw → least_failed (rule_4 raw) ≡ None → AllByRecursion (λ row. row.number < many) raw.nodes
    → (result : Result (Vec ℕ A) E) → IfOk result (λ counts. CountsLeads many counts.items links) → IfOk result (λ counts. CountsNames counts.items raw)
all_counted raw many links linked ascend below (Ok counts) counted = each raw.nodes below
  where
    each : (nodes : List RawNode) → AllByRecursion (λ row. row.number < many) nodes → AllByRecursion (λ row. count_in counts.items row.number ≡ name_count (names_of raw) row.number) nodes
    each [] all = tt
    each (row ∷ nodes) all = (counted row.number all.0 ∙ sym (links_counted raw links linked ascend row.number), each nodes all.1)
all_counted raw many links linked ascend below (Err refused) counted = tt

abbrev never : ℕ
never = 0

pub zero_counts : (many n : ℕ) → n < many → count_in (replicate many 0) n ≡ 0
zero_counts many n within =
    let long : length (replicate many never) ≡ many = length-replicate many never in
    ap (λ o. elim o [ None ↦ 0 | Some count ↦ count ]) (slice_get-get_or {X = ℕ} (replicate many never) n never (omega (arith, long, within))) ∙ get_or-replicate many n never never within
