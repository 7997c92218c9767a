-- An image after moves: its files have the bytes that they had, and it is lawful.
use Rattle.std.proofs.Common.{◌≡◌, ℕ, zero, suc, ◌+◌, ◌*◌, ◌/◌, ◌%◌, ◌<◌, ◌||◌, ◌⊎◌, inl, inr, ⊎_elim, Bool, true, false, cond, All, List, [], ◌∷◌, ◌++◌, length, get_or, take, drop, map, Option, Some, None, option_map, refl, sym, ap, subst, ◌∙◌, arith}
use Rattle.std.specs.Prelude.{Vec, vec_len, find, Result, Ok, Err, OnOk}
use Rattle.std.specs.List.{list_any}
use Rattle.std.specs.declared.cmp.Ordering.{Ordering}
use Rattle.std.specs.declared.cmp.Ordering.TheVariants.{Less, Equal, Greater}
use Rattle.std.specs.Ordering.{is_eq}
use Rattle.std.specs.Cmp.{tied_itself}
use Rattle.std.proofs.lemmas.Bool.{both_ways, cases_Bool, or_left, or_right, or_cases}
use Rattle.std.proofs.lemmas.List.Elements.{All-head, All-tail, All-nil, All-push}
use Rattle.std.proofs.lemmas.List.Folds.{list_any-append}
use Rattle.kfs_model.specs.Limits.{block_size}
use Rattle.kfs_model.specs.Migration.{Move, source, has_source, has_target, moves_overlap, fault_of_moves, place_after, moved_by}
use Rattle.kfs_model.specs.Placement.{Place, Placement, IsPlacement, below, tier_size}
use Rattle.kfs_model.specs.Table.{pairs, numbers, get, changed, insert}
use Rattle.kfs_model.specs.Tree.{Tree, tree_over}
use Rattle.kfs_model.proofs.MovedBlocks.{CanBeMade, IsAmong, each_follows, among_follows, found_among, free_has_none, has_source-is, has_target-is, has_target-same, moved_more, placed_after}
use Rattle.kfs_model.proofs.TableLaws.{same_table, get-insert, get-mapped}
use Rattle.kfs_model.specs.Device.Device.{Devices, byte_on}
use Rattle.kfs_model.specs.Device.ShownTree.{DeviceImage, IsLawful, file_byte, shown_tree}
use Rattle.kfs_image.specs.declared.edit.Edit.{Edit}
use Rattle.kfs_image.specs.declared.edit.Edit.TheVariants.{Map, Bytes}
use Rattle.kfs_image.specs.Edit.{CanEdit, WritesWholeBlocks, edited, edited_all}
use Rattle.kfs_image.proofs.FilledImages.{relaid_is_lawful, written_are_blocks}
use Rattle.kfs_migrate.proofs.MoveTests.{cut_here, grown}
use Rattle.kfs_migrate.specs.Applied.{AreApplied, AreBytesOf, IsWritten, IsAfterMoves, AreEditsOf, AddsEdits}

-- ---- lists of moves

among_at : (moves : List Move) (k : ℕ) (d : Move) → k < length moves → IsAmong (get_or moves k d) moves
among_at [] k d below = absurd (omega (arith, below))
among_at (m ∷ ms) zero d below = inl refl
among_at (m ∷ ms) (suc k) d below = inr (among_at ms k d (omega (arith, below)))

all_among : (P : Move → Type 0) (moves : List Move) (m : Move) → All P moves → IsAmong m moves → P m
all_among P [] m all among = absurd among
all_among P (x ∷ xs) m all among = ⊎_elim (λ here. subst P (sym here) (All-head P x xs all)) (λ later. all_among P xs m (All-tail P x xs all) later) among

any_among : (test : Move → Bool) (moves : List Move) → list_any test moves ≡ true → (m : Move) × IsAmong m moves × (test m ≡ true)
any_among test [] any = cc
any_among test (x ∷ xs) any =
    ⊎_elim (λ here. (x, inl refl, here)) (λ later. let (m, among, passes) = any_among test xs later in (m, inr among, passes)) (or_cases (test x) (list_any test xs) any)

none_among : (test : Move → Bool) (moves : List Move) (m : Move) → list_any test moves ≡ false → IsAmong m moves → test m ≡ false
none_among test [] m none among = absurd among
none_among test (x ∷ xs) m none among =
    ⊎_elim
    (λ here. ⊎_elim (λ passes. absurd (both_ways (list_any test (x ∷ xs)) none (or_left (test x) (list_any test xs) (ap test (sym here) ∙ passes)))) (λ fails. fails) (cases_Bool (test m)))
    (λ later. ⊎_elim (λ any. absurd (both_ways (list_any test (x ∷ xs)) none (or_right (test x) (list_any test xs) any))) (λ none'. none_among test xs m none' later) (cases_Bool (list_any test xs)))
    among

-- ---- written blocks

abbrev key_of : Place → ℕ × ℕ
key_of place = (place.tier, place.place)

found_same : (devices : Devices) (key : ℕ × ℕ) (bytes : List ℕ) → get (insert devices key bytes) key ≡ Some bytes
found_same devices key bytes = get-insert devices key bytes key ∙ ap (λ o. cond (is_eq o) (Some bytes) (get devices key)) (tied_itself (pairs numbers numbers).total key)

found_other : (devices : Devices) (key other : ℕ × ℕ) (bytes : List ℕ) → (other ≡ key → ⊥) → get (insert devices key bytes) other ≡ get devices other
found_other devices key other bytes differs = get-insert devices key bytes other ∙ at ((pairs numbers numbers).compare other key) refl
  where
    at : (o : Ordering) → (pairs numbers numbers).compare other key ≡ o → cond (is_eq o) (Some bytes) (get devices other) ≡ get devices other
    at Less tie = refl
    at Equal tie = absurd (differs ((pairs numbers numbers).exact other key tie))
    at Greater tie = refl

-- ---- one move more

module _ (image : DeviceImage) (before : List Move) (m : Move) (follows : CanBeMade image.sizes image.placement before m) (bytes : List ℕ) (are : AreBytesOf image m bytes) (now : DeviceImage) (made : IsAfterMoves image before now) where
  abbrev later : DeviceImage
  later = record now { placement = changed now.placement (source m) (Some m.target); devices = insert now.devices (key_of m.target) bytes }

  -- an earlier move has another target
  other_target : (x : Move) → IsAmong x before → key_of x.target ≡ key_of m.target → ⊥
  other_target x among same =
      let equal : x.target ≡ m.target = λ i. record { tier = (same i).0; place = (same i).1 } in
      both_ways (moves_overlap x m) (none_among (λ other. moves_overlap other m) before x follows.alone among) (or_right (has_source (source m) x) (has_target m.target x) (has_target-same m.target x equal))

  written_still : (x : Move) → IsAmong x before → IsWritten image x now → IsWritten image x later
  written_still x among written = record {
    block = written.block;
    there = found_other now.devices (key_of m.target) (key_of x.target) bytes (other_target x among) ∙ written.there;
    bytes = written.bytes;
  }

  all_written : All (λ x. IsWritten image x later) (before ++ m ∷ [])
  all_written =
      All-push (λ x. IsWritten image x later) before m
      (λ k d below. written_still (get_or before k d) (among_at before k d below) (made.written k d below))
      (record { block = bytes; there = found_same now.devices (key_of m.target) bytes; bytes = are })

  others_stay : (place : Place) → list_any (has_target place) (before ++ m ∷ []) ≡ false → get later.devices (key_of place) ≡ get image.devices (key_of place)
  others_stay place none =
      let parts = sym (list_any-append (has_target place) before (m ∷ [])) ∙ none in
      found_other now.devices (key_of m.target) (key_of place) bytes
      (λ same.
      let equal : m.target ≡ place = λ i. record { tier = (sym same i).0; place = (sym same i).1 } in
      both_ways (list_any (has_target place) before || list_any (has_target place) (m ∷ [])) parts (or_right (list_any (has_target place) before) (list_any (has_target place) (m ∷ [])) (or_left (has_target place m) false (has_target-same place m equal))))
      ∙ made.others place (first (list_any (has_target place) before) (list_any (has_target place) (m ∷ [])) parts)
    where
      first : (a b : Bool) → (a || b) ≡ false → a ≡ false
      first true b none = cc
      first false b none = refl

  pub one_made : IsAfterMoves image (before ++ m ∷ []) later
  one_made = record {
    sizes = made.sizes;
    heads = made.heads;
    names = made.names;
    placement = ap (λ (placement : Placement). changed placement (source m) (Some m.target)) made.placement ∙ moved_more image.placement before m follows.place follows.lies follows.alone;
    written = all_written;
    others = others_stay;
    blocks = written_are_blocks image.sizes now.devices made.blocks m.target bytes follows.inside are.many;
  }

none_moved : (placement : Placement) → moved_by [] placement ≡ placement
unfolding moved_by
none_moved placement = same_table _ _ (λ block. get-mapped (place_after []) placement block ∙ at (get placement block))
  where
    at : (o : Option Place) → option_map (λ (place : Place). place) o ≡ o
    at None = refl
    at (Some place) = refl

none_made : (image : DeviceImage) → IsLawful image → IsAfterMoves image [] image
none_made image lawful = record {
  sizes = refl;
  heads = refl;
  names = refl;
  placement = sym (none_moved image.placement);
  written = All-nil (λ m. IsWritten image m image);
  others = λ place none. refl;
  blocks = lawful.blocks;
}

-- ---- edits

pub append_two : {X : Type 0} (xs : List X) (one other : X) → (xs ++ one ∷ []) ++ other ∷ [] ≡ xs ++ one ∷ other ∷ []
append_two [] one other = refl
append_two (x ∷ xs) one other = ap (λ ys. x ∷ ys) (append_two xs one other)

edited_none : (A : Type 0) (image : DeviceImage) → edited_all {A = A} [] image ≡ image
unfolding edited_all
edited_none A image = refl

pub no_edits : (A : Type 0) (image : DeviceImage) → IsLawful image → AreEditsOf {A = A} image [] []
no_edits A image lawful = record { made = subst (IsAfterMoves image []) (sym (edited_none A image)) (none_made image lawful); whole = All-nil (WritesWholeBlocks {A = A} image.sizes) }

module _ {A : Type 0} where
  edited_more : (es ds : List (Edit A)) (image : DeviceImage) → edited_all (es ++ ds) image ≡ edited_all ds (edited_all es image)
  unfolding edited_all
  edited_more [] ds image = refl
  edited_more (e ∷ es) ds image = edited_more es ds (edited e image)

  edited_two : (one other : Edit A) (image : DeviceImage) → edited_all (one ∷ other ∷ []) image ≡ edited other (edited one image)
  unfolding edited_all
  edited_two one other image = refl

  pub more_edits : (image : DeviceImage) (before : List Move) (m : Move) → CanBeMade image.sizes image.placement before m → (old new : List (Edit A)) → AreEditsOf image before old → AddsEdits image m old new
      → AreEditsOf image (before ++ m ∷ []) new
  more_edits image before m follows old new are adds =
      let mapped : Edit A = Map m.number m.block (Some (m.target.tier, m.target.place)) in
      let written : Edit A = Bytes m.target.tier m.target.place adds.block in
      let after : edited_all (old ++ mapped ∷ written ∷ []) image ≡ edited written (edited mapped (edited_all old image)) = edited_more old (mapped ∷ written ∷ []) image ∙ edited_two mapped written (edited_all old image) in
      let long = adds.bytes.many in
      let whole : vec_len adds.block ≡ block_size = omega (arith, adds.block.ok.0, long) in
      record {
        made = subst (λ edits. IsAfterMoves image (before ++ m ∷ []) (edited_all edits image)) (sym adds.added) (subst (IsAfterMoves image (before ++ m ∷ [])) (sym after) (one_made image before m follows adds.block.items adds.bytes (edited_all old image) are.made));
        whole = subst (All (WritesWholeBlocks {A = A} image.sizes)) (sym adds.added) (all_more (WritesWholeBlocks {A = A} image.sizes) old mapped written are.whole tt (follows.inside, whole));
      }
    where
      all_more : (P : Edit A → Type 0) (es : List (Edit A)) (one other : Edit A) → All P es → P one → P other → All P (es ++ one ∷ other ∷ [])
      all_more P es one other all first second = subst (All P) (append_two es one other) (All-push P (es ++ one ∷ []) other (All-push P es one all first) second)

  -- the next one of moves without a fault
  pub next_edits : (image : DeviceImage) (moves : List Move) → fault_of_moves image.sizes image.placement moves ≡ None → (i : ℕ) (m : Move) → i < length moves → m ≡ get_or moves i m → (old new : List (Edit A))
      → AreEditsOf image (take i moves) old → AddsEdits image m old new → AreEditsOf image (take (i + 1) moves) new
  next_edits image moves none i m below is old new are adds =
      let follows = each_follows image.sizes image.placement moves none (take i moves) m (drop (i + 1) moves) (sym (cut_here moves i m below is)) in
      subst (λ ms. AreEditsOf image ms new) (sym (grown moves i m below is)) (more_edits image (take i moves) m follows old new are adds)

-- ---- all moves

module _ (image : DeviceImage) (lawful : IsLawful image) (moves : List Move) (none : fault_of_moves image.sizes image.placement moves ≡ None) (new : DeviceImage) (made : IsAfterMoves image moves new) where
  -- a block that doesn't move lies where nothing was written
  not_written : (block : ℕ × ℕ) (place : Place) → get image.placement block ≡ Some place → list_any (has_target place) moves ≡ false
  not_written block place lies =
      ⊎_elim
      (λ any.
      let (m, among, has) = any_among (has_target place) moves any in
      absurd (free_has_none image.placement m.target block ((among_follows image.sizes image.placement moves none m among).1.free) (lies ∙ ap Some (sym (has_target-is place m has)))))
      (λ other. other)
      (cases_Bool (list_any (has_target place) moves))

  abbrev byte_of : Option (List ℕ) → ℕ → ℕ
  byte_of block offset = elim block [ None ↦ 0 | Some bytes ↦ get_or bytes offset 0 ]

  abbrev byte_in : Devices → Option Place → ℕ → ℕ
  byte_in devices slot offset = elim slot [ None ↦ 0 | Some place ↦ byte_on devices place offset ]

  module _ (number position : ℕ) where
    abbrev block : ℕ × ℕ
    block = (number, position / block_size)

    abbrev offset : ℕ
    offset = position % block_size

    -- where the block lies now its byte is the same
    at_place : (old : Place) → get image.placement block ≡ Some old → (o : Option Move) → find (has_source block) moves ≡ o → byte_on new.devices (elim o as (λ _. Place) [ None ↦ old | Some m ↦ m.target ]) offset ≡ byte_on image.devices old offset
    at_place old lies None found = ap (λ b. byte_of b offset) (made.others old (not_written block old lies))
    at_place old lies (Some m) found =
        let (among, has) = found_among (has_source block) moves m found in
        let written = all_among (λ x. IsWritten image x new) moves m made.written among in
        let same = has_source-is block m has in
        let number_is : m.number ≡ number = ap (λ (b : ℕ × ℕ). b.0) same in
        let block_is : m.block ≡ position / block_size = ap (λ (b : ℕ × ℕ). b.1) same in
        let there : m.block * block_size + offset ≡ position = omega (arith, block_is) in
        ap (λ b. byte_of b offset) written.there
        ∙ written.bytes.each offset (omega arith)
        ∙ (λ i. file_byte image.placement image.devices (number_is i) (there i))
        ∙ ap (λ slot. byte_in image.devices slot offset) lies

    at_slot : (o : Option Place) → get image.placement block ≡ o → byte_in new.devices (option_map (place_after moves block) o) offset ≡ byte_in image.devices o offset
    at_slot None lies = refl
    at_slot (Some old) lies = at_place old lies (find (has_source block) moves) refl

    bytes_same : file_byte new.placement new.devices number position ≡ file_byte image.placement image.devices number position
    unfolding moved_by
    bytes_same =
        ap (λ (placement : Placement). byte_in new.devices (get placement block) offset) made.placement
        ∙ ap (λ slot. byte_in new.devices slot offset) (get-mapped (place_after moves) image.placement block)
        ∙ at_slot (get image.placement block) refl

  pub applied : AreApplied moves image new
  applied = record { sizes = made.sizes; heads = made.heads; names = made.names; placement = made.placement; bytes = bytes_same; others = made.others }

  pub shown_same : shown_tree new ≡ shown_tree image
  shown_same = λ i. tree_over (λ number size. map (λ position. bytes_same number position i) (below size)) (made.heads i) (made.names i)

  pub lawful_after : IsLawful new
  lawful_after =
      let relaid = relaid_is_lawful image new.placement new.devices lawful
      (subst (IsPlacement image.sizes (get image.heads)) (sym made.placement) (placed_after image.sizes image.placement moves none (get image.heads) lawful.placed))
      made.blocks in
      subst IsLawful (λ i. record { sizes = sym made.sizes i; heads = sym made.heads i; names = sym made.names i; placement = new.placement; devices = new.devices }) relaid

pub can_edit : {A : Type 0} (image : DeviceImage) → IsLawful image → (moves : List Move) → fault_of_moves image.sizes image.placement moves ≡ None → (edits : List (Edit A)) → AreEditsOf image moves edits → CanEdit edits image
can_edit image lawful moves none edits are = record { lawful = lawful_after image lawful moves none (edited_all edits image) are.made; whole = are.whole }

-- ---- the image once the edits are made, if they are

module _ {A E : Type 0} (image : DeviceImage) (lawful : IsLawful image) (moves : List Move) (none : fault_of_moves image.sizes image.placement moves ≡ None) (edits : List (Edit A)) (are : AreEditsOf image moves edits) (new : DeviceImage) where
  pub applied_ok : (result : Result (Unit {0}) E) → OnOk result (new ≡ edited_all edits image) → OnOk result (AreApplied moves image new)
  applied_ok (Ok done) is = subst (AreApplied moves image) (sym is) (applied image lawful moves none (edited_all edits image) are.made)
  applied_ok (Err error) is = tt

  pub shown_ok : (result : Result (Unit {0}) E) → OnOk result (new ≡ edited_all edits image) → OnOk result (shown_tree new ≡ shown_tree image)
  shown_ok (Ok done) is = ap shown_tree is ∙ shown_same image lawful moves none (edited_all edits image) are.made
  shown_ok (Err error) is = tt
