-- The headers of a draft, number by number, are sizes of all files that entries changed or reached.
use Rattle.std.specs.Prelude.{◌≡◌, ℕ, ◌+◌, ◌<◌, ◌≤◌, ◌==◌, nat_lt, min, Bool, true, false, cond, List, [], ◌∷◌, ◌++◌, map, Option, Some, None, IsTrue, unwrap_or, refl}
use Rattle.std.specs.declared.cmp.Ordering.TheVariants.{Less, Equal, Greater}
use Rattle.std.specs.BTreeMap.{is_at}
use Rattle.std.specs.Cmp.{unsigned_tied}
use Rattle.std.specs.List.{AllByRecursion, list_any}
use Rattle.std.specs.List.Sorted.{IsStrictlySortedBy}
use Rattle.std.specs.Option.{option_map, is_some}
use Rattle.std.specs.Ordering.{nat_cmp}
use Rattle.std.proofs.Common.{ap, sym, subst, ◌∙◌, arith, append_assoc, append-nil}
use Rattle.std.proofs.lemmas.Bool.{ltb-true}
use Rattle.std.proofs.lemmas.List.{map-append}
use Rattle.std.proofs.lemmas.Map.Made.{is_some-lookup}
use Rattle.kfs_model.specs.Limits.{size_limit}
use Rattle.kfs_model.specs.Sight.{Sight}
use Rattle.kfs_types.specs.Views.{header_of}
use Rattle.kfs_types.specs.declared.entry.Header.{Header as CodeHeader}
use Rattle.kfs_judge_reads.specs.declared.draft.draft.Draft.{Draft}
use Rattle.kfs_judge_reads.specs.Draft.Few.{entries_of, found_in}
use Rattle.kfs_judge_reads.specs.Draft.Overlay.{over, has_header}
use Rattle.kfs_judge.specs.Step.FileSizes.{AreSizesOver}
use Rattle.kfs_pieces.specs.declared.log.FileSize.{FileSize}
use Rattle.kfs_pieces.specs.Sizes.{SizesAscend, size_in}

-- ---- numbers in order

less_is : (a b : ℕ) → nat_cmp a b ≡ Less → a < b
less_is a b less = at (nat_lt a b) refl (a == b) less
  where
    at : (lower : Bool) → nat_lt a b ≡ lower → (same : Bool) → cond lower Less (cond same Equal Greater) ≡ Less → a < b
    at true is same less = ltb-true a b is
    at false is true less = cc
    at false is false less = cc

above : (least : ℕ) (ns : List ℕ) → AllByRecursion (λ n. nat_cmp least n ≡ Less) ns → AllByRecursion (λ n. least + 1 ≤ n) ns
above least [] all = tt
above least (n ∷ ns) all = (let less = less_is least n all.0 in omega arith, above least ns all.1)

ascend-above : (least : ℕ) (sizes : List FileSize) → AllByRecursion (λ n. least ≤ n) (map (λ (s : FileSize). s.number) sizes) → IsStrictlySortedBy nat_cmp (map (λ (s : FileSize). s.number) sizes) → SizesAscend least sizes
unfolding IsStrictlySortedBy
ascend-above least [] all sorted = tt
ascend-above least (s ∷ ss) all sorted = (all.0, ascend-above (s.number + 1) ss (above s.number (map (λ (s : FileSize). s.number) ss) sorted.0) sorted.1)

from_zero : (ns : List ℕ) → AllByRecursion (λ n. 0 ≤ n) ns
from_zero [] = tt
from_zero (n ∷ ns) = (let low : 0 ≤ n = omega arith in low, from_zero ns)

pub sorted-ascend : (sizes : List FileSize) (keys : List ℕ) → map (λ (s : FileSize). s.number) sizes ≡ keys → IsStrictlySortedBy nat_cmp keys → SizesAscend 0 sizes
sorted-ascend sizes keys are sorted = ascend-above 0 sizes (from_zero _) (subst (IsStrictlySortedBy nat_cmp) (sym are) sorted)

-- ---- one header more

abbrev pub keys_left : List (ℕ × Option CodeHeader) → List ℕ
keys_left entries = map (λ e. e.0) entries

pub numbers_more : (sizes pushed : List FileSize) (size : FileSize) (e : ℕ × Option CodeHeader) (left rest : List (ℕ × Option CodeHeader)) (all : List ℕ) → pushed ≡ sizes ++ size ∷ [] → left ≡ e ∷ rest → size.number ≡ e.0
    → map (λ (s : FileSize). s.number) sizes ++ keys_left left ≡ all → map (λ (s : FileSize). s.number) pushed ++ keys_left rest ≡ all
numbers_more sizes pushed size e left rest all is_pushed is own so_far =
    let number : FileSize → ℕ = λ s. s.number in
    ap (λ ss. map number ss ++ keys_left rest) is_pushed
    ∙ ap (λ ns. ns ++ keys_left rest) (map-append number sizes (size ∷ []))
    ∙ append_assoc (map number sizes) (size.number ∷ []) (keys_left rest)
    ∙ ap (λ n. map number sizes ++ n ∷ keys_left rest) own
    ∙ ap (λ es. map number sizes ++ keys_left es) (sym is)
    ∙ so_far

pub numbers_all : (sizes : List FileSize) (left : List (ℕ × Option CodeHeader)) (all : List ℕ) → left ≡ [] → map (λ (s : FileSize). s.number) sizes ++ keys_left left ≡ all → map (λ (s : FileSize). s.number) sizes ≡ all
numbers_all sizes left all none so_far = sym (append-nil (map (λ (s : FileSize). s.number) sizes)) ∙ ap (λ es. map (λ (s : FileSize). s.number) sizes ++ keys_left es) (sym none) ∙ so_far

-- ---- what the draft has

module _ {A : Type 0} (draft : Draft A) (s : Sight) where
  -- the sizes that a number had and has
  abbrev pub IsOwnSize : FileSize → Type 0
  IsOwnSize size = (size.before ≡ size_in s size.number) × (size.after ≡ min (size_in (over draft s) size.number) size_limit)

  pub own_size : (size : FileSize) (n : ℕ) → size.number ≡ n → size_in s n ≡ size.before → min (size_in (over draft s) n) size_limit ≡ size.after → IsOwnSize size
  own_size size n number before after = (sym before ∙ ap (size_in s) (sym number), sym after ∙ ap (λ k. min (size_in (over draft s) k) size_limit) (sym number))

  -- a header that the draft has is what it shows
  pub shows_header : (n : ℕ) (now : Option CodeHeader) → found_in nat_cmp draft.heads n ≡ Some now → (over draft s).head n ≡ option_map header_of now
  shows_header n now is = ap (λ h. unwrap_or (option_map (option_map header_of) h) (s.head n)) is

  -- ---- all headers

  has_key : (n : ℕ) → IsTrue (has_header draft n) → IsTrue (list_any (λ k. n == k) (keys_left (entries_of draft.heads)))
  has_key n has = (λ i. list_any (λ k. sym (unsigned_tied n k) i) (keys_left (entries_of draft.heads))) ∙ sym (is_some-lookup (is_at (nat_cmp n)) (entries_of draft.heads)) ∙ has

  -- a number whose size differs has a header in the draft
  has_grown : (n : ℕ) → size_in s n < size_in (over draft s) n → IsTrue (has_header draft n)
  has_grown n grew = at (found_in nat_cmp draft.heads n) refl
    where
      at : (there : Option (Option CodeHeader)) → found_in nat_cmp draft.heads n ≡ there → is_some (found_in nat_cmp draft.heads n) ≡ true
      at (Some now) is = ap is_some is
      at None is =
          let same : size_in (over draft s) n ≡ size_in s n = ap (λ h. size_in (record s { head = λ k. unwrap_or (option_map (option_map header_of) h) (s.head n) }) n) is in
          absurd (omega (arith, same, grew))

  pub sizes_are_over : (sizes : List FileSize) → map (λ (s : FileSize). s.number) sizes ≡ keys_left (entries_of draft.heads) → AllByRecursion IsOwnSize sizes → AreSizesOver draft s sizes
  sizes_are_over sizes are own entries has =
      let listed : (n : ℕ) → IsTrue (has_header draft n) → IsTrue (list_any (λ k. n == k) (map (λ (s : FileSize). s.number) sizes)) = λ n header. ap (list_any (λ k. n == k)) are ∙ has_key n header in
      record {
        own = own;
        grew = λ n more. listed n (has_grown n more);
        reached = λ n is. listed n (has n is);
      }
