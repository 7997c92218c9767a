-- The last of the ranges that has a byte, of a log in two parts.
use Rattle.std.proofs.Common.{◌≡◌, ℕ, cond, List, [], ◌∷◌, ◌++◌, take, drop, Option, Some, None, refl, sym, ap, ◌∙◌, length, ◌-◌, arith, length-drop}
use Rattle.std.proofs.lemmas.List.{take_all}
use Rattle.std.proofs.Math.ListN.{take-append-drop}
use Rattle.kfs_model.specs.Table.{option_or}
use Rattle.kfs_pieces.specs.declared.merge.Origin.{Origin}
use Rattle.kfs_pieces.specs.declared.merge.ByteRange.{ByteRange}
use Rattle.kfs_pieces.specs.ByteRanges.{has_byte, origin_at, last_origin, AreFrom, merged}
use Rattle.kfs_pieces.proofs.Merging.{merged_from, merged_says}

option_or_assoc : (a b c : Option Origin) → option_or (option_or a b) c ≡ option_or a (option_or b c)
option_or_assoc None b c = refl
option_or_assoc (Some x) b c = refl

pub option_or_none : {X : Type 0} (a : Option X) → option_or a None ≡ a
option_or_none None = refl
option_or_none (Some x) = refl

pub last_origin-append : (xs ys : List ByteRange) (n p : ℕ) → last_origin (xs ++ ys) n p ≡ option_or (last_origin ys n p) (last_origin xs n p)
last_origin-append [] ys n p = sym (option_or_none (last_origin ys n p))
last_origin-append (x ∷ xs) ys n p =
    ap (λ o. option_or o (cond (has_byte n p x) (Some x.origin) None)) (last_origin-append xs ys n p)
    ∙ option_or_assoc (last_origin ys n p) (last_origin xs n p) (cond (has_byte n p x) (Some x.origin) None)

-- both halves laid out, the later one laid over the earlier one
module _ (all earlier later out : List ByteRange) (middle : ℕ) (is : out ≡ merged earlier later) (first : AreFrom 0 0 earlier) (second : AreFrom 0 0 later) where
  pub halves_in_order : AreFrom 0 0 out
  halves_in_order = let from = merged_from later earlier 0 0 first second in rw is from

  pub halves_say : ((n p : ℕ) → origin_at earlier n p ≡ last_origin (take middle all) n p) → ((n p : ℕ) → origin_at later n p ≡ last_origin (drop middle all) n p) → (n p : ℕ) → origin_at out n p ≡ last_origin all n p
  halves_say early late n p =
      ap (λ xs. origin_at xs n p) is
      ∙ merged_says later earlier 0 0 first second n p
      ∙ (λ i. option_or (late n p i) (early n p i))
      ∙ sym (last_origin-append (take middle all) (drop middle all) n p)
      ∙ ap (λ xs. last_origin xs n p) (take-append-drop middle all)

pub take_rest : (xs : List ByteRange) (n : ℕ) → take (length xs - n) (drop n xs) ≡ drop n xs
take_rest xs n = take_all (length xs - n) (drop n xs) (omega (arith, length-drop n xs))
