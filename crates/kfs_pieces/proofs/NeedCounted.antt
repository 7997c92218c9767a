-- The written blocks of a run are counted over its right pieces.
use Rattle.std.proofs.Common.{◌≡◌, ℕ, ◌+◌, ◌-◌, ◌<◌, ◌≤◌, ◌⊎◌, inl, Bool, true, false, cond, not, ◌==◌, ◌&&◌, ltb, leb, List, [], ◌∷◌, length, flat_map, get_or, Option, Some, None, refl, sym, ap, subst, ◌∙◌, arith, eqb-true, length-append}
use Rattle.std.specs.List.{AllByRecursion}
use Rattle.std.proofs.lemmas.Option.{slice_get-get_or, slice_get_within}
use Rattle.kfs_model.specs.Table.{numbers, get}
use Rattle.kfs_model.specs.Tree.{Tree, Node, content_of}
use Rattle.kfs_model.specs.Run.{Mark}
use Rattle.kfs_model.specs.PlanRow.{Piece, Source}
use Rattle.kfs_model.specs.Plan.{mark_at, mark_of_source, end_of, ComesBy, IsTrueOf, ArePieces}
use Rattle.kfs_model.specs.PlanCut.{mark_in_pieces}
use Rattle.kfs_model.specs.Placement.{is_zero, is_payload, is_written, blocks_that, written_blocks, need}
use Rattle.kfs_pieces.specs.TouchedBlocks.{is_zero_source, of_file, counted_files}
use Rattle.kfs_model.proofs.WrittenBlocks.{all_found}
use Rattle.kfs_model.proofs.Cut.{changed_mark, said_of_pieces}
use Rattle.kfs_pieces.proofs.PiecesFollowed.{AreFrom, comes_then}
use Rattle.kfs_pieces.proofs.PiecesApart.{all_from}
use Rattle.kfs_pieces.proofs.TouchedBlocks.{part_at, is_zero_part, is_payload_part, AreParts, Classes, file_count}

-- ---- the pieces of one file

abbrev is_zero_said : Option Mark → Bool
is_zero_said None = false
is_zero_said (Some mark) = is_zero mark

abbrev is_payload_said : Option Mark → Bool
is_payload_said None = false
is_payload_said (Some mark) = is_payload mark

zero_changed : (mark : Mark) → is_zero_said (changed_mark (Some mark)) ≡ is_zero mark
zero_changed (Mark.Base n p) = refl
zero_changed Mark.Zero = refl
zero_changed (Mark.Payload e p) = refl

payload_changed : (mark : Mark) → is_payload_said (changed_mark (Some mark)) ≡ is_payload mark
payload_changed (Mark.Base n p) = refl
payload_changed Mark.Zero = refl
payload_changed (Mark.Payload e p) = refl

zero_source : (source : Source) (d : ℕ) → is_zero_source source ≡ is_zero (mark_of_source source d)
zero_source Source.Zero d = refl
zero_source (Source.Payload e p) d = refl

payload_source : (source : Source) (d : ℕ) → not (is_zero_source source) ≡ is_payload (mark_of_source source d)
payload_source Source.Zero d = refl
payload_source (Source.Payload e p) d = refl

module _ (n : ℕ) where
  zero_part : (rs : List Piece) (q : ℕ) → is_zero_part (part_at (of_file n rs) q) ≡ is_zero_said (mark_in_pieces rs n q)
  zero_part [] q = refl
  zero_part (r ∷ rs) q = at (r.number == n) (leb r.start q && ltb q (end_of r)) (zero_part rs q) ∙ ap (λ b. is_zero_said (cond b (Some (mark_of_source r.source (q - r.start))) (mark_in_pieces rs n q))) (grouped (r.number == n) (leb r.start q) (ltb q (end_of r)))
    where
      grouped : (a b c : Bool) → (a && (b && c)) ≡ (a && b && c)
      grouped true b c = refl
      grouped false b c = refl

      at : (a b : Bool) → is_zero_part (part_at (of_file n rs) q) ≡ is_zero_said (mark_in_pieces rs n q)
          → is_zero_part (part_at (cond a (r ∷ of_file n rs) (of_file n rs)) q) ≡ is_zero_said (cond (a && (leb r.start q && ltb q (end_of r))) (Some (mark_of_source r.source (q - r.start))) (mark_in_pieces rs n q))
      at false b more = more
      at true b more = inner (leb r.start q && ltb q (end_of r)) more
        where
          inner : (b : Bool) → is_zero_part (part_at (of_file n rs) q) ≡ is_zero_said (mark_in_pieces rs n q) → is_zero_part (cond b (Some r.source) (part_at (of_file n rs) q)) ≡ is_zero_said (cond b (Some (mark_of_source r.source (q - r.start))) (mark_in_pieces rs n q))
          inner true more = zero_source r.source (q - r.start)
          inner false more = more

  payload_part : (rs : List Piece) (q : ℕ) → is_payload_part (part_at (of_file n rs) q) ≡ is_payload_said (mark_in_pieces rs n q)
  payload_part [] q = refl
  payload_part (r ∷ rs) q = at (r.number == n) (payload_part rs q) ∙ ap (λ b. is_payload_said (cond b (Some (mark_of_source r.source (q - r.start))) (mark_in_pieces rs n q))) (grouped (r.number == n) (leb r.start q) (ltb q (end_of r)))
    where
      grouped : (a b c : Bool) → (a && (b && c)) ≡ (a && b && c)
      grouped true b c = refl
      grouped false b c = refl

      inner : (b : Bool) → is_payload_part (part_at (of_file n rs) q) ≡ is_payload_said (mark_in_pieces rs n q) → is_payload_part (cond b (Some r.source) (part_at (of_file n rs) q)) ≡ is_payload_said (cond b (Some (mark_of_source r.source (q - r.start))) (mark_in_pieces rs n q))
      inner true more = payload_source r.source (q - r.start)
      inner false more = more

      at : (a : Bool) → is_payload_part (part_at (of_file n rs) q) ≡ is_payload_said (mark_in_pieces rs n q)
          → is_payload_part (part_at (cond a (r ∷ of_file n rs) (of_file n rs)) q) ≡ is_payload_said (cond (a && (leb r.start q && ltb q (end_of r))) (Some (mark_of_source r.source (q - r.start))) (mark_in_pieces rs n q))
      at false more = more
      at true more = inner (leb r.start q && ltb q (end_of r)) more

  module _ (after : Tree Mark) where
    abbrev marks : List Mark
    marks = content_of (get after.nodes n)

    end_below : (r : Piece) → IsTrueOf after r → r.number ≡ n → end_of r ≤ length marks
    end_below r true_of same =
        let filled = true_of.filled in
        let stands = ap (λ m. mark_at after m (r.start + (r.length - 1))) (sym same) ∙ true_of.said (r.length - 1) (omega arith) in
        let below = slice_get_within marks (r.start + (r.length - 1)) _ stands in
        omega arith

    parts_of : (rs : List Piece) (k e f : ℕ) → AreFrom k e rs → AllByRecursion (IsTrueOf after) rs → f ≤ length marks → ((s : ℕ) → ComesBy k e n s → f ≤ s) → AreParts (length marks) f (of_file n rs)
    parts_of [] k e f from said low least = low
    parts_of (r ∷ rs) k e f from said low least =
        at (r.number == n) refl
        (λ same. parts_of rs r.number (end_of r) (end_of r) from.2 said.1 (end_below r said.0 same) (behind_own same))
        (parts_of rs r.number (end_of r) f from.2 said.1 low (λ s h. least s (comes_then k e r.number r.start n s from.0 (earlier s h))))
      where
        behind_own : r.number ≡ n → (s : ℕ) → ComesBy r.number (end_of r) n s → end_of r ≤ s
        behind_own same s h = behind r.number n (end_of r) s same h
          where
            behind : (a b e s : ℕ) → a ≡ b → (a < b) ⊎ ((a ≡ b) × (e ≤ s)) → e ≤ s
            behind a b e s same h = grind arith

        earlier : (s : ℕ) → ComesBy r.number (end_of r) n s → ComesBy r.number r.start n s
        earlier s h = sooner r.number n (r.start) (r.length) s h
          where
            sooner : (a b t l s : ℕ) → (a < b) ⊎ ((a ≡ b) × (t + l ≤ s)) → (a < b) ⊎ ((a ≡ b) × (t ≤ s))
            sooner a b t l s h = grind arith

        at : (b : Bool) → (r.number == n) ≡ b → (r.number ≡ n → AreParts (length marks) (end_of r) (of_file n rs)) → AreParts (length marks) f (of_file n rs) → AreParts (length marks) f (cond b (r ∷ of_file n rs) (of_file n rs))
        at true is own other = let same = eqb-true r.number n is in (least r.start (subst (λ m. ComesBy k e m r.start) same from.0), from.1, own same)
        at false is own other = other

    pub classes : (rs : List Piece) → ArePieces after rs → Classes marks 0 0 (of_file n rs)
    classes rs are = record {
      parts = parts_of rs 0 0 0 (all_from after rs are) are.said (omega arith) (λ s h. let z : 0 ≤ s = omega arith in z);
      payload = λ q low below. sym (payload_part rs q ∙ ap is_payload_said (said_of_pieces after rs are n q ∙ ap changed_mark (slice_get-get_or marks q Mark.Zero below)) ∙ payload_changed (get_or marks q Mark.Zero));
      zero = λ q low below. sym (zero_part rs q ∙ ap is_zero_said (said_of_pieces after rs are n q ∙ ap changed_mark (slice_get-get_or marks q Mark.Zero below)) ∙ zero_changed (get_or marks q Mark.Zero));
      before = λ h. absurd (omega arith);
      until_is = inl refl;
    }

-- ---- all files

module _ (after : Tree Mark) (right : List Piece) (are : ArePieces after right) where
  sums : (es : List (ℕ × Node Mark)) → AllByRecursion (λ (e : ℕ × Node Mark). get after.nodes e.0 ≡ Some e.1) es → length (flat_map (blocks_that is_written) es) ≡ counted_files right es
  unfolding counted_files
  sums [] found = refl
  sums (e ∷ es) found =
      let cells = classes e.0 after right are in
      let here = subst (λ o. Classes (content_of o) 0 0 (of_file e.0 right)) found.0 cells in
      length-append (blocks_that is_written e) (flat_map (blocks_that is_written) es)
      ∙ (λ i. file_count e.0 (content_of (Some e.1)) (of_file e.0 right) here i + sums es found.1 i)

  -- the room that a landing takes is counted over right pieces, however they are cut
  pub need_is_counted : need after ≡ counted_files right after.nodes.entries
  unfolding written_blocks get
  need_is_counted = sums after.nodes.entries (all_found numbers after.nodes.entries after.nodes.sorted)
