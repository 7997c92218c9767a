use Rattle.std.proofs.Common.{◌≡◌, ◌<◌, ◌≤◌, [], ◌∷◌, ◌++◌, All, None, slice_index_or, map, sym, ap, subst, arith}
use Rattle.std.proofs.lemmas.List.Elements.{All-nil, All-push, All-weaker}
use Rattle.kfs_types.specs.declared.entry.Header.{Header}
use Rattle.kfs_types.specs.declared.plan.NodeRow.{NodeRow}
use Rattle.kfs_maps.specs.declared.pages.change.NumberEdit.{NumberEdit}
use Rattle.kfs_maps.specs.Pages.Edits.{AreEdits}
use Rattle.kfs_maps.proofs.ChunksLemmas.InOrder.{ascends_further, none_ascends, one_made, all_made}
use Rattle.kfs_image_nodes.specs.NodeEdits.{node_edit, IsNumber}
use Rattle.kfs_image_nodes.proofs.NodeEdits.{rows_left}
use Rattle.kfs_image_nodes.proofs.edits.edits_in_order.Goals as goal

abbrev Edit : Type 0
Edit = NumberEdit Header

pub loop-row-init : goal.loop-row-init
loop-row-init g c =
    let none = c.in_ok-edits.ensures.items in
    record {
      made = ap (λ made. made ++ map node_edit c.args.nodes.now) none;
      edits = subst (AreEdits {V = Header}) (sym none) (record { ascend = none_ascends (λ (x y : Edit). x.number < y.number); range = All-nil (λ (e : Edit). IsNumber e.number) });
      below = subst (All (λ (e : Edit). e.number ≤ 0)) (sym none) (All-nil (λ (e : Edit). e.number ≤ 0));
    }

pub loop-row-preserved : goal.loop-row-preserved
loop-row-preserved g c =
    let nodes = c.args.nodes.now in
    let i = c.loop-row.row-index in
    let old = c.loop-row.edits.items in
    let row : NodeRow = slice_index_or nodes i (record { number = 0; now = None }) in
    let edit : Edit = node_edit row in
    let items : c.push.new.self.items ≡ old ++ edit ∷ [] = c.in_ok-push.ensures.items in
    let greater : c.loop-row.last < row.number = c.if-row-last.false in
    let within : row.number ≤ 65536 = c.if-row-gt-GREATEST_NUMBER.false in
    let above = All-weaker (λ (e : Edit). e.number ≤ c.loop-row.last) (λ (e : Edit). e.number < row.number) (λ e under. omega (arith, under, greater)) old c.loop-row.invariant.below in
    record {
      made = one_made node_edit nodes i row old c.push.new.self.items _ (rows_left nodes i _ c.loop-row-test.true) items c.loop-row.invariant.made;
      edits =
          subst (AreEdits {V = Header}) (sym items)
          (record {
            ascend = ascends_further (λ (x y : Edit). x.number < y.number) old edit c.loop-row.invariant.edits.ascend above;
            range = All-push (λ (e : Edit). IsNumber e.number) old edit c.loop-row.invariant.edits.range (omega (arith, greater), omega (arith, within));
          });
      below =
          subst (All (λ (e : Edit). e.number ≤ row.number)) (sym items)
          (All-push (λ (e : Edit). e.number ≤ row.number) old edit (All-weaker (λ (e : Edit). e.number < row.number) (λ (e : Edit). e.number ≤ row.number) (λ e under. omega (arith, under)) old above) (omega arith));
    }

pub returns : goal.returns
returns g c = record {
  edits = c.loop-row.invariant.edits;
  rows = all_made node_edit c.args.nodes.now c.loop-row.row-index c.loop-row.edits.items _ c.loop-row-test.false c.loop-row.invariant.made;
}
