-- How many nodes, names and mapped blocks a lawful image has at most.
use Rattle.std.proofs.Common.{◌≡◌, ℕ, ◌+◌, ◌*◌, ◌<◌, ◌≤◌, ◌==◌, Bool, true, false, cond, List, length, Some, count_by, refl, sym, ap, subst, ◌∙◌, arith, eqb-true, ltb-false}
use Rattle.std.proofs.lemmas.List.{map-id}
use Rattle.std.specs.List.{list_any}
use Rattle.kfs_model.specs.Header.{Kind, File, Directory, Header}
use Rattle.kfs_model.specs.Limits.{tier_limit}
use Rattle.kfs_model.specs.Sight.{is_directory, is_file}
use Rattle.kfs_model.specs.Soundness.{AreSound}
use Rattle.kfs_model.specs.Table.{Table, numbers, pairs, get}
use Rattle.kfs_model.specs.Tree.{name_order, name_count}
use Rattle.kfs_model.specs.Placement.{TierSizes, AreTierSizes, Place, tier_size}
use Rattle.kfs_model.proofs.Counts.{tally, is_tally, any_counts}
use Rattle.kfs_model.proofs.Tables.{found_from_any}
use Rattle.kfs_model.specs.Device.ShownTree.{DeviceImage, IsLawful}
use Rattle.kfs_model.proofs.DeviceLemmas.Entries.{each_entry, few_rows}
use Rattle.kfs_model.proofs.CanonicalLemmas.FewOfEach.{not_long}

-- where none passes a test, none is counted
none_counted : {X : Type 0} (test : X → Bool) (xs : List X) → list_any test xs ≡ false → count_by test xs ≡ 0
none_counted test xs none = omega (arith, ltb-false 0 (count_by test xs) (sym (any_counts test xs) ∙ none))

-- a place within a tier is within one of the three
pub in_three : (sizes : TierSizes) → AreTierSizes sizes → (place : Place) → place.place < tier_size sizes place.tier → (place.tier ≤ 2) × (place.place < tier_limit)
in_three sizes fits place there = at (place.tier == 0) refl (place.tier == 1) refl (place.tier == 2) refl there
  where
    at : (a : Bool) → (place.tier == 0) ≡ a → (b : Bool) → (place.tier == 1) ≡ b → (c : Bool) → (place.tier == 2) ≡ c
        → place.place < cond a sizes.first (cond b sizes.second (cond c sizes.third 0)) → (place.tier ≤ 2) × (place.place < tier_limit)
    at true is b second c third less = let zero : place.tier ≡ 0 = eqb-true place.tier 0 is in (omega (arith, zero), omega (arith, less, fits.0))
    at false first true is c third less = let one : place.tier ≡ 1 = eqb-true place.tier 1 is in (omega (arith, one), omega (arith, less, fits.1))
    at false first false second true is less = let two : place.tier ≡ 2 = eqb-true place.tier 2 is in (omega (arith, two), omega (arith, less, fits.2))
    at false first false second false third less = absurd (omega (arith, less))

module _ (image : DeviceImage) (lawful : IsLawful image) where
  pub sound : AreSound (get image.heads) image.names
  sound = subst (λ (heads : Table numbers Header). AreSound (get heads) image.names) lawful.tree.counted lawful.tree.sound

  pub few_nodes : length image.heads.entries ≤ 65537
  few_nodes =
      not_long (λ (e : ℕ × Header). e.0) 1 (λ bound. bound) (λ bound. omega arith) 65537 image.heads.entries one
      (each_entry numbers (λ (e : ℕ × Header). e.0 < 65537) image.heads (λ number h is. let range = sound.ranges number h is in omega (arith, range.greatest)))
    where
      one : (n : ℕ) → tally (λ (e : ℕ × Header). e.0 == n) image.heads.entries ≤ 1
      one n =
          let few = few_rows (λ (e : ℕ × Header). e) (λ (e : ℕ × Header). e.0 == n) numbers n image.heads (λ k h is same. eqb-true k n same) in
          let all = ap (count_by (λ (e : ℕ × Header). e.0 == n)) (map-id image.heads.entries) in
          omega (arith, few, all, is_tally (λ (e : ℕ × Header). e.0 == n) image.heads.entries)

  -- a node has at most 1,024 names
  pub few_names_of : (number : ℕ) → name_count image.names number ≤ 1024
  unfolding get
  few_names_of number = at (list_any (λ (e : (ℕ × List ℕ) × ℕ). e.1 == number) image.names.entries) refl
    where
      by_kind : (h : Header) (kind : Kind) → h.kind ≡ kind → get image.heads number ≡ Some h → (number ≡ 1 → ⊥) → name_count image.names number ≤ 1024
      by_kind h File kind there other = (sound.files number (ap is_file there ∙ ap (λ k. is_file (Some (record h { kind = k }))) kind)).1
      by_kind h Directory kind there other = let one = sound.directories number (ap is_directory there ∙ ap (λ k. is_directory (Some (record h { kind = k }))) kind) other in omega (arith, one)

      at : (any : Bool) → list_any (λ (e : (ℕ × List ℕ) × ℕ). e.1 == number) image.names.entries ≡ any → name_count image.names number ≤ 1024
      at false none = omega (arith, none_counted (λ (e : (ℕ × List ℕ) × ℕ). e.1 == number) image.names.entries none)
      at true some =
          let (key, value, found, same) = found_from_any name_order (λ (e : (ℕ × List ℕ) × ℕ). e.1 == number) image.names.entries image.names.sorted some in
          let name = sound.names_sound key.0 key.1 value found in
          let is : value ≡ number = eqb-true value number same in
          by_kind name.node.0 name.node.0.kind refl (subst (λ n. get image.heads n ≡ Some name.node.0) is name.node.1) (λ root. name.not_root (is ∙ root))

  pub few_names : length image.names.entries ≤ 67109888
  few_names =
      not_long (λ (e : (ℕ × List ℕ) × ℕ). e.1) 1024 (λ bound. bound * 1024) (λ bound. omega arith) 65537 image.names.entries
      (λ n. omega (arith, few_names_of n, is_tally (λ (e : (ℕ × List ℕ) × ℕ). e.1 == n) image.names.entries))
      (each_entry name_order (λ (e : (ℕ × List ℕ) × ℕ). e.1 < 65537) image.names (λ key number is.
      let name = sound.names_sound key.0 key.1 number is in
      let range = sound.ranges number name.node.0 name.node.1 in
      omega (arith, range.greatest)))

  -- the number of a place, all tiers together
  abbrev place_number : (ℕ × ℕ) × Place → ℕ
  place_number e = e.1.tier * 65536 + e.1.place

  pub few_blocks : length image.placement.entries ≤ 196608
  unfolding get
  few_blocks =
      not_long place_number 1 (λ bound. bound) (λ bound. omega arith) 196608 image.placement.entries
      (λ n. omega (arith, one n, is_tally (λ e. place_number e == n) image.placement.entries))
      (each_entry (pairs numbers numbers) (λ e. place_number e < 196608) image.placement (λ key place is.
      let fits = in_three image.sizes lawful.sizes place (lawful.placed.laid.in_tier key place is) in
      omega (arith, fits.0, fits.1)))
    where
      one : (n : ℕ) → count_by (λ e. place_number e == n) image.placement.entries ≤ 1
      one n = at (list_any (λ e. place_number e == n) image.placement.entries) refl
        where
          at : (any : Bool) → list_any (λ e. place_number e == n) image.placement.entries ≡ any → count_by (λ e. place_number e == n) image.placement.entries ≤ 1
          at false none = omega (arith, none_counted (λ e. place_number e == n) image.placement.entries none)
          at true some =
              let (key, place, found, here) = found_from_any (pairs numbers numbers) (λ e. place_number e == n) image.placement.entries image.placement.sorted some in
              let few = few_rows (λ (e : (ℕ × ℕ) × Place). e) (λ e. place_number e == n) (pairs numbers numbers) key image.placement (λ other at is same. alone key place found here other at is same) in
              let all = ap (count_by (λ (e : (ℕ × ℕ) × Place). place_number e == n)) (map-id image.placement.entries) in
              omega (arith, few, all)
            where
              alone : (key : ℕ × ℕ) (place : Place) → get image.placement key ≡ Some place → (place_number (key, place) == n) ≡ true → (other : ℕ × ℕ) (at : Place) → get image.placement other ≡ Some at → (place_number (other, at) == n) ≡ true → other ≡ key
              alone key place found here other at is same =
                  let this = in_three image.sizes lawful.sizes place (lawful.placed.laid.in_tier key place found) in
                  let that = in_three image.sizes lawful.sizes at (lawful.placed.laid.in_tier other at is) in
                  let one : place.tier * 65536 + place.place ≡ n = eqb-true (place_number (key, place)) n here in
                  let two : at.tier * 65536 + at.place ≡ n = eqb-true (place_number (other, at)) n same in
                  let tiers : at.tier ≡ place.tier = omega (arith, one, two, this.1, that.1) in
                  let places : at.place ≡ place.place = omega (arith, one, two, tiers) in
                  let places_alike : at ≡ place = λ i. record { tier = tiers i; place = places i } in
                  lawful.placed.laid.apart other key place (is ∙ ap Some places_alike) found
