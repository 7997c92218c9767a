-- The rows of blocks, one after the other.
use Rattle.std.specs.Prelude.{All}
use Rattle.std.proofs.Common.{◌≡◌, ℕ, ◌+◌, ◌<◌, ◌++◌, List, [], ◌∷◌, length, take, map, sym, ap, subst, ◌∙◌}
use Rattle.std.proofs.Math.ListN.{get_or}
use Rattle.std.proofs.lemmas.List.{map_push, map_more, take_more}
use Rattle.std.proofs.lemmas.List.Elements.{All-push}
use Rattle.kfs_model.specs.Entry.{Entry}
use Rattle.kfs_model.specs.Placement.{Place, in_first_tier}
use Rattle.kfs_model.specs.PlanRow.{Piece}
use Rattle.kfs_model.specs.Tree.{Tree}
use Rattle.kfs_image.specs.declared.blocks.fill.BlockRow.{BlockRow}
use Rattle.kfs_desk.specs.Fill.Fill.{block_after, AreRowsOf}

module _ {A : Type 0} (before : Tree ℕ) (entries : List Entry) (pieces : List Piece) where
  abbrev key_of : BlockRow A → ℕ × ℕ
  key_of r = (r.number, r.block)

  abbrev place_of : BlockRow A → Place
  place_of r = r.place

  abbrev HasBytes : BlockRow A → Type 0
  HasBytes r = r.bytes.items ≡ block_after before entries pieces r.number r.block

  pub next_row : (blocks : List (ℕ × ℕ)) (places : List ℕ) (rows all : List (BlockRow A)) (index : ℕ) (d : ℕ × ℕ) (e : ℕ) (r : BlockRow A) → all ≡ rows ++ r ∷ [] → index < length blocks → index < length places
      → key_of r ≡ get_or blocks index d → r.place ≡ in_first_tier (get_or places index e) → HasBytes r
      → AreRowsOf before entries pieces (take index blocks) (take index places) rows
      → AreRowsOf before entries pieces (take (index + 1) blocks) (take (index + 1) places) all
  next_row blocks places rows all index d e r are in_blocks in_places key laid bytes so_far = record {
    keys = ap (map key_of) are ∙ map_push key_of rows r ∙ (λ i. so_far.keys i ++ key i ∷ []) ∙ sym (take_more blocks index d in_blocks);
    laid = ap (map place_of) are ∙ map_push place_of rows r ∙ (λ i. so_far.laid i ++ laid i ∷ []) ∙ sym (map_more in_first_tier places index e in_places);
    bytes = subst (All HasBytes) (sym are) (All-push HasBytes rows r so_far.bytes bytes);
  }
