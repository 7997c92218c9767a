-- A fill of two rows whose places are free and apart can be applied with a net.
use Rattle.std.proofs.Common.{◌≡◌, ◌≢◌, ℕ, zero, suc, ◌<◌, List, [], ◌∷◌, length, get_or, Option, sym, subst, arith}
use Rattle.std.specs.Prelude.{IfOk, IfSome, Result, Ok, Err}
use Rattle.std.specs.Result.{result_ok}
use Rattle.std.proofs.lemmas.List.Elements.{All-cons, All-nil}
use Rattle.kfs_model.specs.Device.ShownTree.{DeviceImage, IsLawful}
use Rattle.kfs_image_nodes.specs.declared.net.Net.{Net}
use Rattle.kfs_image.specs.declared.blocks.fill.BlockRow.{BlockRow}
use Rattle.kfs_image.specs.declared.net.Fill.{Fill}
use Rattle.kfs_image.specs.Net.{CanApply, after_net}
use Rattle.kfs_image.proofs.FilledImages.{FitsRow, Fit, still_placed, can_apply_free}

module _ {A : Type 0} (first second : BlockRow A) (differ : first.place ≢ second.place) where
  places_differ : (i j : ℕ) (d : BlockRow A) → i < j → j < length (first ∷ second ∷ []) → (get_or (first ∷ second ∷ []) i d).place ≢ (get_or (first ∷ second ∷ []) j d).place
  places_differ zero zero d less below = absurd (omega (arith, less))
  places_differ zero (suc zero) d less below = differ
  places_differ zero (suc (suc j)) d less below = absurd (omega (arith, below))
  places_differ (suc i) j d less below = absurd (omega (arith, less, below))

  pub both_fit : (image : DeviceImage) → FitsRow image first → FitsRow image second → Fit image (first ∷ second ∷ [])
  both_fit image one other = record {
    each = All-cons (FitsRow image) first (second ∷ []) one (All-cons (FitsRow image) second [] other (All-nil (FitsRow {A = A} image)));
    apart = places_differ;
  }

-- a fill of rows that fit can be applied, if there was memory for it
pub filled_ok : {A E : Type 0} (net : Net A (List ℕ)) (image : DeviceImage) (rows : List (BlockRow A)) (r : Result (Fill A) E) (o : Option (Fill A)) → o ≡ result_ok r → IfOk r (λ fill. fill.rows.items ≡ rows)
    → IsLawful (after_net net image) → Fit (still_placed net image) rows → IfSome o (λ fill. CanApply net fill image)
filled_ok {A} {E} net image rows r o is listed lawful fit = subst (λ (found : Option (Fill A)). IfSome found (λ fill. CanApply net fill image)) (sym is) (by r listed)
  where
    by : (r : Result (Fill A) E) → IfOk r (λ fill. fill.rows.items ≡ rows) → IfSome (result_ok r) (λ fill. CanApply net fill image)
    by (Ok fill) listed = can_apply_free net fill image lawful (subst (Fit (still_placed net image)) (sym listed) fit)
    by (Err fault) listed = tt
