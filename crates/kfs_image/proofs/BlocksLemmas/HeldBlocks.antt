-- The tiers beside the placement: at first, as they are asked, and once both have changed.
use Rattle.std.proofs.Common.{◌≡◌, ℕ, true, All, List, [], ◌∷◌, length, get_or, replicate, Option, Some, None, Result, Ok, Err, sym, ap, subst, ◌∙◌, arith}
use Rattle.std.specs.Prelude.{IfSome, IfNone, OnOk, OnErr, vec_len}
use Rattle.kfs_model.specs.Limits.{block_size}
use Rattle.kfs_model.specs.Table.{numbers, pairs, empty, get}
use Rattle.kfs_model.specs.Placement.{Place, Placement, TierSizes, tier_size, IsLaid}
use Rattle.kfs_maps.specs.Chunks.Edits.{rewritten}
use Rattle.kfs_maps.specs.Chunks.Tables.{table, table_after}
use Rattle.kfs_maps.proofs.ChunksLemmas.Tables.{table-rewritten}
use Rattle.kfs_image.specs.declared.tier.tiers.NewBlock.{NewBlock}
use Rattle.kfs_image.specs.Tier.Places.{IsNextFree, AreUsedFrom}
use Rattle.kfs_image.specs.Tier.Tiers.{TiersShown, places_in, IsInTier, CanMove, with_blocks, changed as changed_tiers}
use Rattle.kfs_image.specs.Tier.Unused.{FreeIsUnused, IsNextUnused, AreTakenFrom}
use Rattle.kfs_image.proofs.TierLemmas.MovedPlaces.{CanFollow-holds, KeepsUnused-holds}
use Rattle.kfs_image.proofs.TierLemmas.UnusedPlaces.{FindsUnused-holds, MissesNone-holds, fresh_unused}
use Rattle.kfs_image.proofs.TierLemmas.WrittenBlocks.{AreBlocks-with_blocks}
use Rattle.kfs_image.specs.Blocks.Blocks.{BlocksShown, AreHeld, CanChange, changed}
use Rattle.kfs_image.specs.Blocks.Moves.{BlockEdit, given_by, taken_by}
use Rattle.kfs_image.proofs.BlocksLemmas.EditedPlaces.{are_moved}

abbrev pub Entries : Type 0
Entries = List ((ℕ × ℕ) × Place)

abbrev pub shown_of : Entries → TiersShown → BlocksShown
shown_of entries tiers = record { sizes = tiers.sizes; placement = table (pairs numbers numbers) entries; devices = tiers.devices }

-- ---- at first

abbrev pub fresh : TierSizes → TiersShown
fresh sizes = record { sizes = sizes; free = replicate sizes.first true ∷ replicate sizes.second true ∷ replicate sizes.third true ∷ []; devices = empty }

pub held_fresh : (sizes : TierSizes) (entries : Entries) (tiers : TiersShown) → entries ≡ [] → tiers ≡ fresh sizes → AreHeld (table (pairs numbers numbers) entries) tiers
unfolding table get
held_fresh sizes entries tiers none first =
    subst (λ es. AreHeld (table (pairs numbers numbers) es) tiers) (sym none) (subst (AreHeld empty) (sym first) (record {
      unused = fresh_unused sizes empty;
      laid = record { apart = λ block other place there also. cc; in_tier = λ block place there. cc };
      blocks = record { in_tier = λ tier place bytes there. cc; full = λ tier place bytes there. cc };
    }))

pub shown_fresh : (sizes : TierSizes) (entries : Entries) (tiers : TiersShown) → entries ≡ [] → tiers ≡ fresh sizes → shown_of entries tiers ≡ record { sizes = sizes; placement = empty; devices = empty }
unfolding table
shown_fresh sizes entries tiers none first = λ i. shown_of (none i) (first i)

-- ---- as they are asked

module _ (entries : Entries) (tiers : TiersShown) (shown : BlocksShown) (view : shown_of entries tiers ≡ shown) (held : AreHeld (table (pairs numbers numbers) entries) tiers) (tier from : ℕ) where
  pub next_found : (result : Option ℕ) → IfSome result (IsNextFree (places_in tiers.free tier) from) → IfSome result (IsNextUnused shown.sizes shown.placement tier from)
  next_found None found = tt
  next_found (Some place) found =
      subst (λ (b : BlocksShown). IsNextUnused b.sizes b.placement tier from place) view (FindsUnused-holds (table (pairs numbers numbers) entries) tiers held.unused tier from place found)

  pub next_none : (result : Option ℕ) → IfNone result (AreUsedFrom (places_in tiers.free tier) from) → IfNone result (AreTakenFrom shown.sizes shown.placement tier from)
  next_none None none = subst (λ (b : BlocksShown). AreTakenFrom b.sizes b.placement tier from) view (MissesNone-holds (table (pairs numbers numbers) entries) tiers held.unused tier from none)
  next_none (Some place) none = tt

-- ---- once both have changed

module _ {A : Type 0} (entries : Entries) (tiers : TiersShown) (shown : BlocksShown) (view : shown_of entries tiers ≡ shown) (held : AreHeld (table (pairs numbers numbers) entries) tiers)
    (edits : List BlockEdit) (written : List (NewBlock A)) (can : CanChange shown edits written) (given taken : List Place)
    (gives : given ≡ given_by (table (pairs numbers numbers) entries) edits) (takes : taken ≡ taken_by (table (pairs numbers numbers) entries) edits) where
  abbrev before : Placement
  before = table (pairs numbers numbers) entries

  abbrev after : Placement
  after = table_after before edits

  laid_after : IsLaid tiers.sizes after
  laid_after = subst (λ (b : BlocksShown). IsLaid b.sizes (table_after b.placement edits)) (sym view) can.laid

  size_shown : (tier : ℕ) → tier_size shown.sizes tier ≡ tier_size tiers.sizes tier
  size_shown tier = sym (ap (λ (b : BlocksShown). tier_size b.sizes tier) view)

  pub can_move : CanMove tiers.free given taken
  can_move =
      subst (λ places. CanMove tiers.free places taken) (sym gives) (subst (CanMove tiers.free (given_by before edits)) (sym takes)
      (CanFollow-holds before after tiers (given_by before edits) (taken_by before edits) held.unused held.laid laid_after (are_moved tiers.sizes before edits can.ascend held.laid laid_after)))

  pub in_tier : All (λ (b : NewBlock A). IsInTier tiers.free b.place) written
  in_tier k d below =
      let block : NewBlock A = get_or written k d in
      omega (arith, can.in_tier k d below, size_shown block.place.tier, held.unused.sized.places block.place.tier)

  held_changed : AreHeld after (changed_tiers given taken written tiers)
  held_changed = record {
    unused = subst (λ places. FreeIsUnused after (changed_tiers places taken written tiers)) (sym gives) (subst (λ places. FreeIsUnused after (changed_tiers (given_by before edits) places written tiers)) (sym takes)
        (KeepsUnused-holds before after tiers (given_by before edits) (taken_by before edits) (with_blocks written tiers.devices) held.unused held.laid laid_after (are_moved tiers.sizes before edits can.ascend held.laid laid_after)));
    laid = laid_after;
    blocks = AreBlocks-with_blocks tiers.sizes written tiers.devices (λ k d below. let block : NewBlock A = get_or written k d in omega (arith, can.in_tier k d below, size_shown block.place.tier)) (λ k d below. whole_items (get_or written k d) (can.whole k d below)) held.blocks;
  }
    where
      whole_items : (block : NewBlock A) → vec_len block.bytes ≡ block_size → length block.bytes.items ≡ block_size
      whole_items block whole = omega (arith, block.bytes.ok.0, whole)

  module _ {E : Type 0} (S : Type 0) (new : Entries) (left : TiersShown) (result : Result (Unit {0}) E) where
    pub held_after : OnOk result (new ≡ rewritten (pairs numbers numbers) entries edits) → OnErr result (new ≡ entries) → OnOk result ((left ≡ changed_tiers given taken written tiers) × S) → OnErr result ((left ≡ tiers) × S)
        → AreHeld (table (pairs numbers numbers) new) left
    held_after = at result
      where
        at : (r : Result (Unit {0}) E) → OnOk r (new ≡ rewritten (pairs numbers numbers) entries edits) → OnErr r (new ≡ entries) → OnOk r ((left ≡ changed_tiers given taken written tiers) × S) → OnErr r ((left ≡ tiers) × S)
            → AreHeld (table (pairs numbers numbers) new) left
        at (Ok done) edited same made kept =
            subst (λ t. AreHeld t left) (sym (ap (table (pairs numbers numbers)) edited ∙ table-rewritten (pairs numbers numbers) entries edits)) (subst (AreHeld after) (sym made.0) held_changed)
        at (Err error) edited same made kept = subst (λ es. AreHeld (table (pairs numbers numbers) es) left) (sym same) (subst (AreHeld before) (sym kept.0) held)

    pub shown_ok : OnOk result (new ≡ rewritten (pairs numbers numbers) entries edits) → OnOk result ((left ≡ changed_tiers given taken written tiers) × S) → OnOk result (shown_of new left ≡ changed edits written shown)
    shown_ok = at result
      where
        at : (r : Result (Unit {0}) E) → OnOk r (new ≡ rewritten (pairs numbers numbers) entries edits) → OnOk r ((left ≡ changed_tiers given taken written tiers) × S) → OnOk r (shown_of new left ≡ changed edits written shown)
        at (Ok done) edited made =
            let placed : table (pairs numbers numbers) new ≡ after = ap (table (pairs numbers numbers)) edited ∙ table-rewritten (pairs numbers numbers) entries edits in
            let there : shown_of new left ≡ changed edits written (shown_of entries tiers) = (λ i. record { sizes = (made.0 i).sizes; placement = placed i; devices = (made.0 i).devices }) in
            there ∙ ap (changed edits written) view
        at (Err error) edited made = tt

    pub shown_err : OnErr result (new ≡ entries) → OnErr result ((left ≡ tiers) × S) → OnErr result (shown_of new left ≡ shown)
    shown_err = at result
      where
        at : (r : Result (Unit {0}) E) → OnErr r (new ≡ entries) → OnErr r ((left ≡ tiers) × S) → OnErr r (shown_of new left ≡ shown)
        at (Ok done) same kept = tt
        at (Err error) same kept = (λ i. shown_of (same i) (kept.0 i)) ∙ view
