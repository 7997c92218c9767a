-- The last range that has a byte gives it the mark of the last entry that covers it.
use Rattle.std.proofs.Common.{◌≡◌, ℕ, ◌+◌, ◌-◌, ◌<◌, ◌≤◌, ◌⊎◌, min, Bool, true, false, cond, not, ◌==◌, ◌&&◌, ◌||◌, ltb, leb, eqb, List, [], ◌∷◌, ◌++◌, length, map, Option, Some, None, option_map, Ok, refl, sym, ap, subst, ◌∙◌, arith, eqb-true, eq-eqb}
use Rattle.std.specs.List.{list_any, AllByRecursion}
use Rattle.std.proofs.lemmas.Bool.Decides.{nat_tests}
use Rattle.std.proofs.Math.Bool.{and_assoc, and-false}
use Rattle.kfs_model.specs.Table.{option_or}
use Rattle.kfs_model.specs.Tree.{Tree}
use Rattle.kfs_model.specs.Sight.{ClientSight, sight}
use Rattle.kfs_model.specs.Entry.{Entry, Create, Write, Truncate, Link, Unlink, Rename, Chmod, Regroup}
use Rattle.kfs_model.specs.Access.{Client}
use Rattle.kfs_model.specs.Run.{Mark, run, over_marks, marked}
use Rattle.kfs_model.specs.PlanRow.{Piece}
use Rattle.kfs_model.specs.Plan.{mark_at, mark_of_source, PiecesAscend, ArePieces}
use Rattle.kfs_model.specs.PlanCut.{mark_in_pieces, AreInOrder}
use Rattle.kfs_model.specs.LastCover.{file_size, covered_by, last_cover}
use Rattle.kfs_model.proofs.Cut.{changed_mark, pieces_from_said}
use Rattle.kfs_pieces.proofs.ChangedMarks.{growth_mark, changed_mark_is}
use Rattle.kfs_pieces.specs.declared.merge.Origin.{Origin}
use Rattle.kfs_pieces.specs.declared.merge.Origin.TheVariants.{Zero, Payload}
use Rattle.kfs_pieces.specs.declared.merge.ByteRange.{ByteRange}
use Rattle.kfs_types.specs.Views.{piece_of}
use Rattle.kfs_types.specs.declared.plan.Piece.{Piece as CodePiece}
use Rattle.kfs_pieces.specs.Parts.{AreByNumber}
use Rattle.kfs_pieces.specs.ByteRanges.{has_byte, origin_at, last_origin, AreFrom}
use Rattle.kfs_pieces.specs.Made.{source_at, piece_made, pieces_made, IsPlacedAt, IsFit, reach_of, made, grown}
use Rattle.kfs_pieces.proofs.LastOrigin.{last_origin-append, option_or_none}

-- ---- the mark of a byte

-- the mark of a byte of this origin
abbrev mark_of : Origin → (place : ℕ) → Mark
mark_of Zero place = Mark.Zero
mark_of (Payload entry offset) place = Mark.Payload entry (place - offset)

marked_or : (p : ℕ) (a b : Option Origin) → option_map (λ o. mark_of o p) (option_or a b) ≡ option_or (option_map (λ o. mark_of o p) a) (option_map (λ o. mark_of o p) b)
marked_or p None b = refl
marked_or p (Some x) b = refl

marked_cond : (p : ℕ) (b : Bool) (o : Origin) → option_map (λ o. mark_of o p) (cond b (Some o) None) ≡ cond b (Some (mark_of o p)) None
marked_cond p true o = refl
marked_cond p false o = refl

cond_or : (b c : Bool) (a : Option Mark) (x : Mark) → option_or (cond b a None) (cond (c && b) (Some x) None) ≡ cond b (option_or a (cond c (Some x) None)) None
cond_or true true a x = refl
cond_or true false a x = refl
cond_or false true a x = refl
cond_or false false a x = refl

write_test : (n k o l e p : ℕ) → (eqb k n && leb o p && ltb p (min l e)) ≡ ((eqb n k && leb o p && ltb p l) && ltb p e)
write_test n k o l e p = grind (arith, nat_tests)

truncate_test : (n k s e p : ℕ) → (eqb k n && leb s p && ltb p e) ≡ ((eqb n k && leb s p) && ltb p e)
truncate_test n k s e p = grind (arith, nat_tests)

module _ (ends : ℕ → ℕ) (n p : ℕ) where
  end_of_number : (k e : ℕ) (b : ℕ → Bool) → (eqb n k && b (ends k)) ≡ (eqb n k && b (ends n))
  end_of_number k e b = at (n == k) refl
    where
      at : (t : Bool) → (n == k) ≡ t → (t && b (ends k)) ≡ (t && b (ends n))
      at true is = ap (λ j. b (ends j)) (sym (eqb-true n k is))
      at false is = refl

  write_holds : (index k o : ℕ) (l : ℕ) → (eqb k n && leb o p && ltb p (min (o + l) (ends k))) ≡ ((eqb n k && leb o p && ltb p (o + l)) && ltb p (ends n))
  write_holds index k o l = write_test n k o (o + l) (ends k) p ∙ at (n == k) refl
    where
      at : (t : Bool) → (n == k) ≡ t → ((t && leb o p && ltb p (o + l)) && ltb p (ends k)) ≡ ((t && leb o p && ltb p (o + l)) && ltb p (ends n))
      at true is = ap (λ j. (leb o p && ltb p (o + l)) && ltb p (ends j)) (sym (eqb-true n k is))
      at false is = refl

  truncate_holds : (k s : ℕ) → (eqb k n && leb s p && ltb p (ends k)) ≡ ((eqb n k && leb s p) && ltb p (ends n))
  truncate_holds k s = truncate_test n k s (ends k) p ∙ at (n == k) refl
    where
      at : (t : Bool) → (n == k) ≡ t → ((t && leb s p) && ltb p (ends k)) ≡ ((t && leb s p) && ltb p (ends n))
      at true is = ap (λ j. leb s p && ltb p (ends j)) (sym (eqb-true n k is))
      at false is = refl

  -- one entry more
  made_more : (b c : Bool) (o : Origin) (x : Mark) (rest : Option Origin) (a : Option Mark) → mark_of o p ≡ x → b ≡ (c && ltb p (ends n)) → option_map (λ o. mark_of o p) rest ≡ cond (ltb p (ends n)) a None
      → option_map (λ o. mark_of o p) (option_or rest (cond b (Some o) None)) ≡ cond (ltb p (ends n)) (option_or a (cond c (Some x) None)) None
  made_more b c o x rest a is test more =
      marked_or p rest (cond b (Some o) None)
      ∙ (λ i. option_or (more i) ((marked_cond p b o ∙ (λ j. cond (test j) (Some (is j)) None)) i))
      ∙ cond_or (ltb p (ends n)) c a x

  made_same : (rest : Option Origin) (a : Option Mark) → option_map (λ o. mark_of o p) rest ≡ cond (ltb p (ends n)) a None → option_map (λ o. mark_of o p) rest ≡ cond (ltb p (ends n)) (option_or a None) None
  made_same rest a more = more ∙ ap (λ o. cond (ltb p (ends n)) o None) (sym (option_or_none a))

  pub made_marks : (index : ℕ) (entries : List Entry) → option_map (λ o. mark_of o p) (last_origin (made ends index (map reach_of entries)) n p) ≡ cond (ltb p (ends n)) (last_cover index entries n p) None
  unfolding last_cover covered_by
  made_marks index [] = nothing (ltb p (ends n))
    where
      nothing : (b : Bool) → ◌≡◌ {A = Option Mark} None (cond b None None)
      nothing true = refl
      nothing false = refl
  made_marks index (Create d m k kind mode ∷ entries) = made_same _ _ (made_marks (index + 1) entries)
  made_marks index (Write k offset payload ∷ entries) = made_more _ ((n == k) && leb offset p && ltb p (offset + length payload)) (Payload index offset) (Mark.Payload index (p - offset)) _ _ refl (write_holds index k offset (length payload)) (made_marks (index + 1) entries)
  made_marks index (Truncate k size ∷ entries) = made_more _ ((n == k) && leb size p) Zero Mark.Zero _ _ refl (truncate_holds k size) (made_marks (index + 1) entries)
  made_marks index (Link k d m ∷ entries) = made_same _ _ (made_marks (index + 1) entries)
  made_marks index (Unlink d m kind ∷ entries) = made_same _ _ (made_marks (index + 1) entries)
  made_marks index (Rename d m e k ∷ entries) = made_same _ _ (made_marks (index + 1) entries)
  made_marks index (Chmod k mode ∷ entries) = made_same _ _ (made_marks (index + 1) entries)
  made_marks index (Regroup k group ∷ entries) = made_same _ _ (made_marks (index + 1) entries)

-- ---- growth

module _ (before ends : ℕ → ℕ) (n p : ℕ) where
  listed : List ℕ → Bool
  listed numbers = list_any (λ k. n == k) numbers

  grown_test : (k s e : ℕ) → (eqb n k ≡ true → (s ≡ before n) × (e ≡ ends n)) → (eqb k n && leb s p && ltb p e) ≡ ((n == k) && leb (before n) p && ltb p (ends n))
  grown_test k s e same = at (n == k) refl
    where
      turned : (t : Bool) → eqb n k ≡ t → eqb k n ≡ t
      turned true e = eq-eqb k n (sym (eqb-true n k e))
      turned false e = grind (arith, nat_tests)

      at : (t : Bool) → (n == k) ≡ t → (eqb k n && leb s p && ltb p e) ≡ (t && leb (before n) p && ltb p (ends n))
      at true is = let parts = same is in (λ i. turned true is i && leb (parts.0 i) p && ltb p (parts.1 i))
      at false is = ap (λ b. b && leb s p && ltb p e) (turned false is)

  either_cond : (b c t : Bool) → option_or (cond (b && t) (Some Zero) None) (cond (c && t) (Some Zero) None) ≡ cond ((c || b) && t) (Some Zero) None
  either_cond true true true = refl
  either_cond true true false = refl
  either_cond true false true = refl
  either_cond true false false = refl
  either_cond false true true = refl
  either_cond false true false = refl
  either_cond false false true = refl
  either_cond false false false = refl

  same_at : (k : ℕ) → eqb n k ≡ true → (before k ≡ before n) × (ends k ≡ ends n)
  same_at k e = (ap before (sym (eqb-true n k e)), ap ends (sym (eqb-true n k e)))

  grown_says : (numbers : List ℕ) → last_origin (grown before ends numbers) n p ≡ cond (list_any (λ k. n == k) numbers && (leb (before n) p && ltb p (ends n))) (Some Zero) None
  unfolding grown
  grown_says [] = refl
  grown_says (k ∷ ks) =
      (λ i. option_or (grown_says ks i) (cond ((grown_test k (before k) (ends k) (same_at k) ∙ and_assoc (n == k) (leb (before n) p) (ltb p (ends n))) i) (Some Zero) None))
      ∙ either_cond (list_any (λ k. n == k) ks) (n == k) (leb (before n) p && ltb p (ends n))

  at_least : (b : ℕ) → leb b p ≡ not (ltb p b)
  at_least b = grind (arith, nat_tests)

  -- the growth of each file that grew is in the list
  pub grown_marks : (numbers : List ℕ) → (before n < ends n → list_any (λ k. n == k) numbers ≡ true)
      → option_map (λ o. mark_of o p) (last_origin (grown before ends numbers) n p) ≡ cond (ltb p (ends n)) (cond (ltb p (before n)) None (Some Mark.Zero)) None
  grown_marks numbers all =
      ap (option_map (λ o. mark_of o p)) (grown_says numbers)
      ∙ marked_cond p (list_any (λ k. n == k) numbers && (leb (before n) p && ltb p (ends n))) Zero
      ∙ at (ltb p (ends n)) refl (ltb p (before n)) refl
    where
      grew : ltb p (ends n) ≡ true → ltb p (before n) ≡ false → before n < ends n
      grew e f = grind (arith, nat_tests)

      none_right : (a b : Bool) → (a && (b && false)) ≡ false
      none_right a b = ap (λ c. a && c) (and-false b) ∙ and-false a

      at : (e : Bool) → ltb p (ends n) ≡ e → (b : Bool) → ltb p (before n) ≡ b
          → cond (list_any (λ k. n == k) numbers && (leb (before n) p && ltb p (ends n))) (Some Mark.Zero) None ≡ cond e (cond b None (Some Mark.Zero)) None
      at false is b was = ap (λ t. cond t (Some Mark.Zero) None) (ap (λ e. list_any (λ k. n == k) numbers && (leb (before n) p && e)) is ∙ none_right (list_any (λ k. n == k) numbers) (leb (before n) p))
      at true is true was = ap (λ t. cond t (Some Mark.Zero) None) (ap (λ l. list_any (λ k. n == k) numbers && (l && ltb p (ends n))) (at_least (before n) ∙ ap not was) ∙ and-false (list_any (λ k. n == k) numbers))
      at true is false was = λ i. cond (all (grew is was) i && ((at_least (before n) ∙ ap not was) i && is i)) (Some Mark.Zero) None

-- ---- the whole log

module _ (client : Client) (seen : ClientSight) (before : Tree ℕ) (entries : List Entry) (after : Tree Mark) (opens : seen.sight ≡ sight before) (ran : run over_marks client seen (marked before) entries ≡ Ok after)
    (numbers : List ℕ) (all : (n : ℕ) → file_size before n < file_size after n → list_any (λ k. n == k) numbers ≡ true) where
  -- what the log made, the growth of files below all
  abbrev pub all_made : List ByteRange
  all_made = grown (file_size before) (file_size after) numbers ++ made (file_size after) 0 (map reach_of entries)

  both_conds : (b : Bool) (a c : Option Mark) → option_or (cond b a None) (cond b c None) ≡ cond b (option_or a c) None
  both_conds true a c = refl
  both_conds false a c = refl

  -- the last of the ranges that has a byte says its mark, and it is in none exactly where the log didn't change it
  pub ranges_say : (n p : ℕ) → option_map (λ o. mark_of o p) (last_origin all_made n p) ≡ changed_mark (mark_at after n p)
  ranges_say n p =
      ap (option_map (λ o. mark_of o p)) (last_origin-append (grown (file_size before) (file_size after) numbers) (made (file_size after) 0 (map reach_of entries)) n p)
      ∙ marked_or p (last_origin (made (file_size after) 0 (map reach_of entries)) n p) (last_origin (grown (file_size before) (file_size after) numbers) n p)
      ∙ (λ i. option_or (made_marks (file_size after) n p 0 entries i) (grown_marks (file_size before) (file_size after) n p numbers (all n) i))
      ∙ both_conds (ltb p (file_size after n)) (last_cover 0 entries n p) (growth_mark before n p)
      ∙ sym (changed_mark_is client seen before entries after opens ran n p)

-- ---- pieces

holds_piece : (k s e n p : ℕ) → s < e → (eqb k n && leb s p && ltb p (s + (e - s))) ≡ (eqb k n && leb s p && ltb p e)
holds_piece k s e n p h = let ends : s + (e - s) ≡ e = omega arith in ap (λ e. eqb k n && leb s p && ltb p e) ends

said_mark : (o : Origin) (s e p : ℕ) → IsPlacedAt o s e → s ≤ p → mark_of_source (source_at o s) (p - s) ≡ mark_of o p
said_mark Zero s e p placed h = refl
said_mark (Payload entry offset) s e p placed h = let sum : s - offset + (p - s) ≡ p - offset = (let low = placed.0 in omega arith) in ap (Mark.Payload entry) sum

low_end : (k s e n p : ℕ) → (eqb k n && leb s p && ltb p e) ≡ true → s ≤ p
low_end k s e n p h = grind (arith, nat_tests)

pub pieces_say : (ss : List ByteRange) (k i : ℕ) → AreFrom k i ss → AllByRecursion IsFit ss → (n p : ℕ) → mark_in_pieces (pieces_made ss) n p ≡ option_map (λ o. mark_of o p) (origin_at ss n p)
pieces_say [] k i from fit n p = refl
pieces_say (s ∷ ss) k i from fit n p =
    ap (λ b. cond b (Some (mark_of_source (source_at s.origin s.start) (p - s.start))) (mark_in_pieces (pieces_made ss) n p)) (holds_piece s.number s.start s.end n p from.1)
    ∙ at (has_byte n p s) refl (pieces_say ss s.number s.end from.2 fit.1 n p)
  where
    at : (b : Bool) → has_byte n p s ≡ b → mark_in_pieces (pieces_made ss) n p ≡ option_map (λ o. mark_of o p) (origin_at ss n p)
        → cond b (Some (mark_of_source (source_at s.origin s.start) (p - s.start))) (mark_in_pieces (pieces_made ss) n p) ≡ option_map (λ o. mark_of o p) (cond b (Some s.origin) (origin_at ss n p))
    at true e more = ap Some (said_mark s.origin s.start s.end p fit.0.placed (low_end s.number s.start s.end n p e))
    at false e more = more

filled_pieces : (ss : List ByteRange) (k i : ℕ) → AreFrom k i ss → AllByRecursion (λ (p : Piece). 0 < p.length) (pieces_made ss)
filled_pieces [] k i from = tt
filled_pieces (s ∷ ss) k i from = ((let filled = from.1 in let f : 0 < s.end - s.start = omega arith in f), filled_pieces ss s.number s.end from.2)

ascending_pieces : (ss : List ByteRange) (k i : ℕ) → AreFrom k i ss → PiecesAscend (pieces_made ss)
ascending_pieces [] k i from = tt
ascending_pieces (s ∷ []) k i from = tt
ascending_pieces (s ∷ t ∷ rest) k i from =
    let filled = from.1 in
    let ends : s.end ≡ s.start + (s.end - s.start) = omega arith in
    (subst (λ e. (s.number < t.number) ⊎ ((s.number ≡ t.number) × (e ≤ t.start))) ends from.2.0, ascending_pieces (t ∷ rest) s.number s.end from.2)

pub pieces_in_order : (ss : List ByteRange) → AreFrom 0 0 ss → AreInOrder (pieces_made ss)
pieces_in_order ss from = record { ascending = ascending_pieces ss 0 0 from; filled = filled_pieces ss 0 0 from }

-- ranges in order that say what the last of all says are right pieces
module _ (client : Client) (seen : ClientSight) (before : Tree ℕ) (entries : List Entry) (after : Tree Mark) (opens : seen.sight ≡ sight before) (ran : run over_marks client seen (marked before) entries ≡ Ok after)
    (numbers : List ℕ) (all : (n : ℕ) → file_size before n < file_size after n → list_any (λ k. n == k) numbers ≡ true) where
  pub laid_pieces_are_right : (ss : List ByteRange) → AreFrom 0 0 ss → AllByRecursion IsFit ss
      → ((n p : ℕ) → origin_at ss n p ≡ last_origin (grown (file_size before) (file_size after) numbers ++ made (file_size after) 0 (map reach_of entries)) n p) → ArePieces after (pieces_made ss)
  laid_pieces_are_right ss from fit says = pieces_from_said after (pieces_made ss) (pieces_in_order ss from) (λ n p.
      pieces_say ss 0 0 from fit n p ∙ ap (option_map (λ o. mark_of o p)) (says n p) ∙ ranges_say client seen before entries after opens ran numbers all n p)

-- pieces of ranges in order stand in the order of their files' numbers
pub made_by_number : (ss : List ByteRange) (xs : List CodePiece) (n p : ℕ) → map piece_of xs ≡ pieces_made ss → AreFrom n p ss → AreByNumber n xs
made_by_number ss [] n p is from = tt
made_by_number [] (x ∷ xs) n p is from = cc
made_by_number (s ∷ ss) (x ∷ xs) n p is from =
    let first : piece_of x ≡ piece_made s = cc is in
    let number = ap (λ (q : Piece). q.number) first in
    let rest : map piece_of xs ≡ pieces_made ss = cc is in
    let more = made_by_number ss xs s.number s.end rest from.2 in
    (subst (λ m. n ≤ m) (sym number) (comes from.0), subst (λ m. AreByNumber m xs) (sym number) more)
  where
    comes : (n < s.number) ⊎ ((n ≡ s.number) × (p ≤ s.start)) → n ≤ s.number
    comes h = grind arith
