-- What edits of a chunk and of those behind it make of all chunks.
use Rattle.std.proofs.Common.{◌≡◌, Bool, true, false, cond, T, All, List, ◌∷◌, ◌++◌, None, refl, sym, ap, ◌∙◌, inl, inr}
use Rattle.std.specs.Prelude.{◌⊎◌}
use Rattle.std.specs.declared.ops.Bound.TheVariants.{Included}
use Rattle.std.specs.declared.sync.Arc.{Arc}
use Rattle.std.specs.FinMap.Entries.{below_all}
use Rattle.kfs_model.specs.Table.{Order}
use Rattle.kfs_maps.specs.declared.chunks.entries.KeyEdit.{KeyEdit}
use Rattle.kfs_maps.specs.Chunks.Edits.{entered_all, KeysAscend}
use Rattle.kfs_maps.specs.Chunks.Buffer.{Buffer}
use Rattle.kfs_maps.specs.Chunks.Joined.{joined}
use Rattle.kfs_maps.specs.Chunks.Starts.{entry_from}
use Rattle.kfs_maps.proofs.ChunksLemmas.Order.{true_or_false}
use Rattle.kfs_maps.proofs.ChunksLemmas.Parts.{joined-append}
use Rattle.kfs_maps.proofs.ChunksLemmas.Rewritten.{all_behind, parts_edited}

module _ {K V A : Type 0} (R : Order K) where
  -- the edits of one chunk and of those behind it, made there or not, are made of all or not
  pub edited_chunks : (made : Bool) (front : List (Arc (Buffer K V) A)) (old new : Arc (Buffer K V) A) (olds news : List (Arc (Buffer K V) A)) (mine later : List (KeyEdit K V))
      → KeysAscend R.compare (mine ++ later)
      → All (λ e. entry_from R.compare (Included e.key) (joined front) ≡ None) (mine ++ later)
      → All (λ e. T (below_all R.compare e.key (joined olds))) mine
      → All (λ e. entry_from R.compare (Included e.key) old.value.pairs ≡ None) later
      → new.value.pairs ≡ cond made (entered_all R.compare old.value.pairs mine) old.value.pairs
      → joined news ≡ cond made (entered_all R.compare (joined olds) later) (joined olds)
      → joined (front ++ new ∷ news) ≡ cond made (entered_all R.compare (joined (front ++ old ∷ olds)) (mine ++ later)) (joined (front ++ old ∷ olds))
  edited_chunks true front old new olds news mine later ascend in_front in_mine in_later chunk rest =
      joined-append front (new ∷ news)
      ∙ (λ i. joined front ++ (chunk i ++ rest i))
      ∙ ap (λ es. joined front ++ es) (sym (parts_edited R old.value.pairs (joined olds) mine later ascend in_mine in_later))
      ∙ sym (all_behind R (joined front) (joined (old ∷ olds)) (mine ++ later) in_front)
      ∙ ap (λ es. entered_all R.compare es (mine ++ later)) (sym (joined-append front (old ∷ olds)))
  edited_chunks false front old new olds news mine later ascend in_front in_mine in_later chunk rest =
      joined-append front (new ∷ news) ∙ (λ i. joined front ++ (chunk i ++ rest i)) ∙ sym (joined-append front (old ∷ olds))

module _ {K V : Type 0} where
  -- a chunk of one's own has the entries of the one that was shared
  pub same_pairs : (old new : Buffer K V) → (new ≡ old) ⊎ (new.pairs ≡ old.pairs) → new.pairs ≡ old.pairs
  same_pairs old new (inl same) = ap (λ (x : Buffer K V). x.pairs) same
  same_pairs old new (inr same) = same

-- what a choice took
pub took_first : {X : Type 0} (made : Bool) (x y z : X) → z ≡ cond made x y → made ≡ true → z ≡ x
took_first true x y z choice made = choice
took_first false x y z choice made = absurd (true_or_false false made refl)

pub took_second : {X : Type 0} (made : Bool) (x y z : X) → z ≡ cond made x y → made ≡ false → z ≡ y
took_second true x y z choice made = absurd (true_or_false true refl made)
took_second false x y z choice made = choice
