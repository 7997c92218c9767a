use Rattle.std.proofs.Common.{◌≡◌, ℕ, List, ◌∷◌, [], ◌++◌, All, map, sym, ap, subst, ◌∙◌, arith}
use Rattle.std.proofs.lemmas.List.Elements.{All-nil, All-push}
use Rattle.std.specs.declared.cmp.Ordering.TheVariants.{Less}
use Rattle.kfs_model.specs.Spelling.{IsName}
use Rattle.kfs_model.specs.Tree.{name_order}
use Rattle.kfs_maps.specs.declared.chunks.entries.KeyEdit.{KeyEdit}
use Rattle.kfs_maps.specs.Chunks.Edits.{KeysAscend}
use Rattle.kfs_maps.proofs.ChunksLemmas.InOrder.{none_ascends, one_made, all_made}
use Rattle.kfs_image_nodes.specs.Lent.{rows_in}
use Rattle.kfs_image_nodes.specs.NameEdits.{name_edit}
use Rattle.kfs_image_nodes.proofs.name_edits.rows_in_order.Goals as goal

abbrev Edit : Type 0
Edit = KeyEdit (ℕ × List ℕ) ℕ

pub loop-index-init : goal.loop-index-init
loop-index-init g c =
    let none = c.in_ok-edits.ensures.items in
    record {
      made = ap (λ made. made ++ map name_edit (rows_in c.args.rows)) none;
      ascend = subst (KeysAscend name_order.compare) (sym none) (none_ascends (λ (x y : Edit). name_order.compare x.key y.key ≡ Less));
      named = subst (All (λ (e : Edit). IsName e.key.1)) (sym none) (All-nil (λ (e : Edit). IsName e.key.1));
    }

pub loop-index-preserved : goal.loop-index-preserved
loop-index-preserved g c =
    let rows = rows_in c.args.rows in
    let old = c.loop-index.edits.items in
    let edit = c.edit-edit.result in
    let at = c.edit-edit.ensures.edit in
    let items = c.in_ok-push_above.ensures.added c.if-not-branch.false in
    record {
      made = one_made name_edit rows c.loop-index.index at.row old c.push_above.new.edits.items _ at.next (items ∙ ap (λ e. old ++ e ∷ []) at.is) c.loop-index.invariant.made;
      ascend = c.push_above.ensures.ascend;
      named = subst (All (λ (e : Edit). IsName e.key.1)) (sym items) (All-push (λ (e : Edit). IsName e.key.1) old edit c.loop-index.invariant.named c.edit-edit.ensures.name);
    }

pub returns : goal.returns
returns g c =
    let none_left = c.loop-index-test.false in
    record {
      made = all_made name_edit (rows_in c.args.rows) c.loop-index.index c.loop-index.edits.items _ (omega (arith, none_left, c.len-count.ensures)) c.loop-index.invariant.made;
      ascend = c.loop-index.invariant.ascend;
      named = c.loop-index.invariant.named;
    }
