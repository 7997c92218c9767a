-- A plan has no wrong row exactly where it is right.
use Rattle.std.proofs.Common.{◌≡◌, ℕ, List, map, Option, Some, None, nat_eq, refl, sym, subst}
use Rattle.kfs_model.specs.Header.{Header}
use Rattle.kfs_model.specs.Table.{Table, numbers, get}
use Rattle.kfs_model.specs.Tree.{Tree, NameTable, headers, name_order}
use Rattle.kfs_model.specs.Run.{Mark}
use Rattle.kfs_model.specs.PlanRow.{NameRow, NodeRow, Plan}
use Rattle.kfs_model.specs.Plan.{AreDifferences, number_now, header_now, keyed_name, keyed_node, AreNameRows, AreNodeRows, IsRight}
use Rattle.kfs_model.specs.FirstWrong.{Names, Nodes, Pieces, same_header, same_headers, same_place, same_pair, differences, first_wrong_name, first_wrong_node, first_wrong_row, or_else}
use Rattle.kfs_model.proofs.Exact.{numbers-exact, places-exact, headers-exact, options-exact, pairs-exact}
use Rattle.kfs_model.proofs.Differences.{equal_from_none, none_from_equal, differences_are, differences_only}
use Rattle.kfs_model.proofs.Pieces.{pieces_from_none, none_from_pieces}

names_from_none : (before after : NameTable) (rows : List NameRow) → first_wrong_name before after rows ≡ None → AreNameRows before after rows
names_from_none before after rows e =
    let same = equal_from_none (same_pair same_place nat_eq) (pairs-exact same_place nat_eq places-exact numbers-exact) (map keyed_name rows) (differences nat_eq number_now before after).entries e in
    subst (AreDifferences name_order number_now (get before) (get after)) (sym same) (differences_are nat_eq numbers-exact number_now before after)

none_from_names : (before after : NameTable) (rows : List NameRow) → AreNameRows before after rows → first_wrong_name before after rows ≡ None
none_from_names before after rows h =
    none_from_equal (same_pair same_place nat_eq) (pairs-exact same_place nat_eq places-exact numbers-exact) (map keyed_name rows) (differences nat_eq number_now before after).entries
    (differences_only nat_eq numbers-exact number_now before after (map keyed_name rows) h)

nodes_from_none : (before after : Table numbers Header) (rows : List NodeRow) → first_wrong_node before after rows ≡ None → AreNodeRows before after rows
nodes_from_none before after rows e =
    let same = equal_from_none (same_pair nat_eq same_headers) (pairs-exact nat_eq same_headers numbers-exact (options-exact same_header headers-exact)) (map keyed_node rows) (differences same_header header_now before after).entries e in
    subst (AreDifferences numbers header_now (get before) (get after)) (sym same) (differences_are same_header headers-exact header_now before after)

none_from_nodes : (before after : Table numbers Header) (rows : List NodeRow) → AreNodeRows before after rows → first_wrong_node before after rows ≡ None
none_from_nodes before after rows h =
    none_from_equal (same_pair nat_eq same_headers) (pairs-exact nat_eq same_headers numbers-exact (options-exact same_header headers-exact)) (map keyed_node rows) (differences same_header header_now before after).entries
    (differences_only same_header headers-exact header_now before after (map keyed_node rows) h)

none_parts : {X : Type 0} (name : ℕ → X) (o : Option ℕ) (next : Option X) → or_else name o next ≡ None → (o ≡ None) × (next ≡ None)
none_parts name None next e = (refl, e)
none_parts name (Some index) next e = (cc, cc)

none_from : {X : Type 0} (name : ℕ → X) (o : Option ℕ) (next : Option X) → o ≡ None → next ≡ None → or_else name o next ≡ None
none_from name None next o_none none = none
none_from name (Some index) next o_none none = cc

module _ {B : Type 0} (before : Tree B) (after : Tree Mark) (plan : Plan) where
  pub right_from_none : first_wrong_row before after plan ≡ None → IsRight before after plan
  unfolding first_wrong_row
  right_from_none e =
      let first = none_parts Names _ _ e in
      let second = none_parts Nodes _ _ first.1 in
      let third = none_parts Pieces _ _ second.1 in
      record {
        names = names_from_none before.names after.names plan.names first.0;
        nodes = nodes_from_none (headers before) (headers after) plan.nodes second.0;
        pieces = pieces_from_none after plan.pieces third.0;
      }

  pub none_from_right : IsRight before after plan → first_wrong_row before after plan ≡ None
  unfolding first_wrong_row
  none_from_right h =
      none_from Names _ _ (none_from_names before.names after.names plan.names h.names)
      (none_from Nodes _ _ (none_from_nodes (headers before) (headers after) plan.nodes h.nodes)
      (none_from Pieces _ _ (none_from_pieces after plan.pieces h.pieces) refl))
