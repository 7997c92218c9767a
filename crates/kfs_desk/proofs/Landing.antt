-- What the rows of a Yes make of names, headers and leases.
use Rattle.std.proofs.Common.{◌≡◌, ◌≢◌, ℕ, ◌==◌, ◌&&◌, ◌||◌, not, Bool, true, false, cond, T, List, [], ◌∷◌, ◌++◌, map, Option, Some, None, option_map, is_some, refl, sym, ap, subst, ◌∙◌, eqb-true}
use Rattle.std.specs.Prelude.{is_none}
use Rattle.std.specs.List.{list_any}
use Rattle.std.proofs.lemmas.Bool.{and_parts, and_from, both_ways, false_from_ne_true, eq-eqb}
use Rattle.kfs_model.specs.Header.{Header}
use Rattle.kfs_model.specs.Table.{get, retain, numbers}
use Rattle.kfs_model.proofs.TableLaws.{same_table, get-retain}
use Rattle.kfs_model.specs.Tree.{Tree, Node, headers, node_header}
use Rattle.kfs_model.specs.Run.{Mark}
use Rattle.kfs_model.specs.Plan.{header_now, AreDifferences}
use Rattle.kfs_model.specs.Lease.{Lease, Leases, on_those, without_gone}
use Rattle.kfs_model.specs.Judgement.{State, Submission}
use Rattle.kfs_model.specs.Machine.{leases_after}
use Rattle.kfs_model.proofs.Tables.{found_from_any, any_from_found}
use Rattle.kfs_model.proofs.Heads.{get-headers}
use Rattle.kfs_types.specs.Views.{header_of as shown_header}
use Rattle.kfs_types.specs.declared.entry.Header.{Header as CodeHeader}
use Rattle.kfs_types.specs.declared.plan.NodeRow.{NodeRow}
use Rattle.kfs_types.specs.declared.entry.Log.{Log as CodeLog}
use Rattle.kfs_types.specs.declared.plan.Plan.{Plan as CodePlan}
use Rattle.kfs_image_nodes.specs.declared.net.Net.{Net}
use Rattle.kfs_image_nodes.specs.Change.{after_rows}
use Rattle.kfs_model.specs.Device.ShownTree.{IsLawful}
use Rattle.kfs_image.specs.Image.{contents_of}
use Rattle.kfs_image_nodes.specs.Contents.{contents_in}
use Rattle.kfs_image.proofs.NetTables.{net_makes}
use Rattle.kfs_judge.specs.Step.Rows.{keyed_node_row}
use Rattle.kfs_plan.specs.Judging.{TellsYes}
use Rattle.kfs_lease.specs.Removed.{without_nodes_in}
use Rattle.kfs_desk.specs.Landing.{ended_by, ended_with, removed_by, removed_with}
use Rattle.kfs_desk.specs.Machine.{Parts, IsDesk, state_of}

-- ---- leases on nodes that go

is_some_node : (t : Tree ℕ) (k : ℕ) → is_some (get (headers t) k) ≡ is_some (get t.nodes k)
is_some_node t k = ap is_some (get-headers t k) ∙ by (get t.nodes k)
  where
    by : (o : Option (Node ℕ)) → is_some (option_map (node_header t.names k) o) ≡ is_some o
    by None = refl
    by (Some node) = refl

-- whether a row says that the node is gone
abbrev says_gone : ℕ → NodeRow → Bool
says_gone number row = (number == row.number) && is_none row.now

cond_twice : {X : Type 0} (a b : Bool) (x : Option X) → cond b None (cond (not a) x None) ≡ cond (a || b) None x
cond_twice true true x = refl
cond_twice true false x = refl
cond_twice false b x = refl

-- the leases that are left on a node
left_on : (leases : Leases) (rows : List NodeRow) (key : ℕ × ℕ) → get (ended_by leases rows).rows key ≡ cond (list_any (says_gone key.1) rows) None (get leases.rows key)
unfolding without_gone on_those
left_on leases [] key = refl
left_on leases (row ∷ rows) key = by row.now (λ left. left_on left rows key)
  where
    by : (now : Option CodeHeader) → ((left : Leases) → get (ended_by left rows).rows key ≡ cond (list_any (says_gone key.1) rows) None (get left.rows key)) → get (ended_by (ended_with leases row.number now) rows).rows key ≡ cond (((key.1 == row.number) && is_none now) || list_any (says_gone key.1) rows) None (get leases.rows key)
    by None rest =
        rest (without_gone leases (λ node. not (node == row.number)))
        ∙ ap (cond (list_any (says_gone key.1) rows) None) (get-retain (λ (k : ℕ × ℕ). not (k.1 == row.number)) leases.rows key)
        ∙ cond_twice (key.1 == row.number) (list_any (says_gone key.1) rows) (get leases.rows key)
        ∙ at (key.1 == row.number)
      where
        at : (b : Bool) → cond (b || list_any (says_gone key.1) rows) None (get leases.rows key) ≡ cond ((b && true) || list_any (says_gone key.1) rows) None (get leases.rows key)
        at true = refl
        at false = refl
    by (Some header) rest = rest leases ∙ at (key.1 == row.number)
      where
        at : (b : Bool) → cond (list_any (says_gone key.1) rows) None (get leases.rows key) ≡ cond ((b && false) || list_any (says_gone key.1) rows) None (get leases.rows key)
        at true = refl
        at false = refl

-- the leases on the nodes that the rows remove end, one row after another
pub ends_on_removed : (leases : Leases) (rows : List NodeRow) → without_nodes_in leases (removed_by rows) ≡ ended_by leases rows
unfolding without_gone
ends_on_removed leases [] = refl
ends_on_removed leases (row ∷ rows) = by row.now (λ left. ends_on_removed left rows)
  where
    by : (now : Option CodeHeader) → ((left : Leases) → without_nodes_in left (removed_by rows) ≡ ended_by left rows)
        → without_nodes_in leases (removed_with row.number now ++ removed_by rows) ≡ ended_by (ended_with leases row.number now) rows
    by None rest = rest (without_gone leases (λ node. not (node == row.number)))
    by (Some header) rest = rest leases

same_moment : (leases : Leases) (rows : List NodeRow) → (ended_by leases rows).moment ≡ leases.moment
unfolding without_gone on_those
same_moment leases [] = refl
same_moment leases (row ∷ rows) = same_moment (ended_with leases row.number row.now) rows ∙ by row.now
  where
    by : (now : Option CodeHeader) → (ended_with leases row.number now).moment ≡ leases.moment
    by None = refl
    by (Some header) = refl

is_none_is : {X : Type 0} (o : Option X) → is_none o ≡ true → o ≡ None
is_none_is None is = refl
is_none_is (Some x) is = cc

-- the rows by the keys of the definitions
any-keyed : (number : ℕ) (rows : List NodeRow) → list_any (says_gone number) rows ≡ list_any (λ (e : ℕ × Option Header). (number == e.0) && is_none e.1) (map keyed_node_row rows)
any-keyed number [] = refl
any-keyed number (row ∷ rows) = λ i. ((number == row.number) && same row.now i) || any-keyed number rows i
  where
    same : (now : Option CodeHeader) → is_none now ≡ is_none (option_map shown_header now)
    same None = refl
    same (Some header) = refl

-- ---- a Yes

module _ (desk : Parts) (is_desk : IsDesk desk) (lawful : IsLawful desk.image) (submission : Submission) where
  abbrev s : State
  s = state_of desk

  module _ {A : Type 0} (log : CodeLog A (List ℕ)) (plan : CodePlan A (List ℕ)) (net : Net A (List ℕ)) (told : ℕ) (after : Tree ℕ) (marked_after : Tree Mark) (yes : TellsYes s submission (record { log = log; plan = plan; net = net; told = told }) after marked_after) where
    pub contents_are : after_rows (contents_of desk.image) net.names.items net.nodes.items ≡ contents_in after
    contents_are =
        net_makes (contents_of desk.image) after net.names.items net.nodes.items yes.comes.sound yes.comes.differs.names
        (subst (λ heads. AreDifferences numbers header_now (get heads) (get (headers after)) (map keyed_node_row net.nodes.items)) lawful.tree.counted yes.comes.differs.nodes)

    abbrev entries_of : List (ℕ × Option Header)
    entries_of = map keyed_node_row net.nodes.items

    abbrev is_gone : ℕ → ℕ × Option Header → Bool
    is_gone number e = (number == e.0) && is_none e.1

    -- a row says that a node is gone which the tree after hasn't
    gone_after : (number : ℕ) → list_any (is_gone number) entries_of ≡ true → get (headers after) number ≡ None
    gone_after number any =
        let (key, value, found, passes) = found_from_any numbers (is_gone number) entries_of (subst T (sym yes.comes.differs.nodes.ascending) tt) any in
        let (same, none) = and_parts (number == key) (is_none value) passes in
        let key_is : number ≡ key = eqb-true number key same in
        let differs : get (headers s.tree) key ≢ get (headers after) key = λ alike. let missing = yes.comes.differs.nodes.unchanged key alike in cc in
        let says = yes.comes.differs.nodes.changed key differs in
        let value_is : value ≡ get (headers after) key = cc in
        subst (λ k. get (headers after) k ≡ None) (sym key_is) (sym value_is ∙ is_none_is value none)

    gone_said : (number : ℕ) → is_some (get (headers s.tree) number) ≡ true → get (headers after) number ≡ None → list_any (is_gone number) entries_of ≡ true
    gone_said number there none =
        let differs : get (headers s.tree) number ≢ get (headers after) number = λ alike. both_ways _ (ap is_some (alike ∙ none)) there in
        any_from_found numbers (is_gone number) entries_of number None (yes.comes.differs.nodes.changed number differs ∙ ap Some none) (and_from (number == number) true (eq-eqb number number refl) refl)

    gone_rows : (number : ℕ) → is_some (get (headers s.tree) number) ≡ true → list_any (says_gone number) net.nodes.items ≡ not (is_some (get after.nodes number))
    gone_rows number there = any-keyed number net.nodes.items ∙ by (get (headers after) number) refl ∙ ap not (is_some_node after number)
      where
        by : (found : Option Header) → get (headers after) number ≡ found → list_any (is_gone number) entries_of ≡ not (is_some (get (headers after) number))
        by None is = gone_said number there is ∙ sym (ap (λ o. not (is_some o)) is)
        by (Some h) is = false_from_ne_true _ (λ any. let none = gone_after number any in cc) ∙ sym (ap (λ o. not (is_some o)) is)

    -- the leases on nodes that go end, and no other
    pub leases_end : ended_by desk.leases net.nodes.items ≡ leases_after s after
    unfolding without_gone on_those
    leases_end =
        let is_node : ℕ × ℕ → Bool = λ key. is_some (get after.nodes key.1) in
        let rows = same_table (ended_by desk.leases net.nodes.items).rows (retain is_node desk.leases.rows) (λ key. left_on desk.leases net.nodes.items key ∙ by key (get desk.leases.rows key) refl ∙ sym (get-retain is_node desk.leases.rows key)) in
        λ i. record { rows = rows i; moment = same_moment desk.leases net.nodes.items i }
      where
        by : (key : ℕ × ℕ) (found : Option Lease) → get desk.leases.rows key ≡ found → cond (list_any (says_gone key.1) net.nodes.items) None (get desk.leases.rows key) ≡ cond (is_some (get after.nodes key.1)) (get desk.leases.rows key) None
        by key None is =
            ap (cond (list_any (says_gone key.1) net.nodes.items) None) is ∙ either (list_any (says_gone key.1) net.nodes.items)
            ∙ sym (ap (λ o. cond (is_some (get after.nodes key.1)) o None) is ∙ either (is_some (get after.nodes key.1)))
          where
            either : (b : Bool) → ◌≡◌ {A = Option Lease} (cond b None None) None
            either true = refl
            either false = refl
        by key (Some lease) is = ap (λ b. cond b None (get desk.leases.rows key)) (gone_rows key.1 (is_desk.in_order.on_nodes key.0 key.1 (ap is_some is))) ∙ turned (is_some (get after.nodes key.1)) (get desk.leases.rows key)
          where
            turned : (b : Bool) (o : Option Lease) → cond (not b) None o ≡ cond b o None
            turned true o = refl
            turned false o = refl
