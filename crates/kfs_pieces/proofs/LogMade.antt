-- The ranges of a log's entries are what the log made, where the sizes are those of its run.
use Rattle.std.proofs.Common.{◌≡◌, ℕ, ◌+◌, ◌-◌, ◌<◌, ◌++◌, ◌||◌, cond, ltb, eqb, eqb-true, min, Bool, true, false, List, [], ◌∷◌, length, drop, length-drop, arith, map, Result, Ok, refl, sym, subst, ◌∙◌}
use Rattle.std.specs.Prelude.{IfOk}
use Rattle.std.specs.List.{AllByRecursion, list_any}
use Rattle.std.proofs.lemmas.List.{length-take-le}
use Rattle.std.proofs.lemmas.Bool.{eq-eqb, ltb-false, or_left, or_right}
use Rattle.kfs_model.specs.LastCover.{file_size}
use Rattle.kfs_model.specs.Run.{Mark}
use Rattle.kfs_model.specs.Tree.{Tree}
use Rattle.kfs_types.specs.Views.{entry_of, span_bytes, IsWithin}
use Rattle.kfs_types.specs.declared.entry.Span.{Span}
use Rattle.kfs_types.specs.declared.entry.Entry.{Entry as CodeEntry}
use Rattle.kfs_types.specs.declared.entry.Entry.TheVariants as entries
use Rattle.kfs_pieces.specs.declared.log.FileSize.{FileSize}
use Rattle.kfs_pieces.specs.declared.merge.Origin.TheVariants.{Zero, Payload}
use Rattle.kfs_pieces.specs.declared.merge.ByteRange.{ByteRange}
use Rattle.kfs_pieces.specs.Made.{AreMade, grown, made, reach_of}
use Rattle.kfs_pieces.specs.Sizes.{AreSizes, growth_of, growths, length_after, reach_in, reaches_file}

-- the sizes are those before and after the log
abbrev AreOwn : (before ends : ℕ → ℕ) → List FileSize → Type 0
AreOwn before ends sizes = AllByRecursion (λ (s : FileSize). (s.before ≡ before s.number) × (s.after ≡ ends s.number)) sizes

-- the numbers of the files that grew
abbrev grown_numbers : List FileSize → List ℕ
grown_numbers [] = []
grown_numbers (s ∷ ss) = cond (ltb s.before s.after) (s.number ∷ grown_numbers ss) (grown_numbers ss)

growths_are : (before ends : ℕ → ℕ) (sizes : List FileSize) → AreOwn before ends sizes → growths sizes ≡ grown before ends (grown_numbers sizes)
unfolding grown
growths_are before ends [] own = refl
growths_are before ends (s ∷ ss) own = at (ltb s.before s.after) (growths_are before ends ss own.1)
  where
    at : (b : Bool) → growths ss ≡ grown before ends (grown_numbers ss) → cond b (growth_of s ∷ growths ss) (growths ss) ≡ grown before ends (cond b (s.number ∷ grown_numbers ss) (grown_numbers ss))
    at true rest = λ i. record { number = s.number; start = own.0.0 i; end = own.0.1 i; origin = Zero } ∷ rest i
    at false rest = rest

-- a file that grew is among them, if it is listed
module _ (before ends : ℕ → ℕ) (n : ℕ) (more : before n < ends n) where
  grown_listed : (sizes : List FileSize) → AreOwn before ends sizes → list_any (λ k. eqb n k) (map (λ (s : FileSize). s.number) sizes) ≡ true → list_any (λ k. eqb n k) (grown_numbers sizes) ≡ true
  grown_listed [] own any = any
  grown_listed (s ∷ ss) own any = at (eqb n s.number) refl (ltb s.before s.after) refl any (grown_listed ss own.1)
    where
      at : (a : Bool) → eqb n s.number ≡ a → (b : Bool) → ltb s.before s.after ≡ b → (a || list_any (λ k. eqb n k) (map (λ (s : FileSize). s.number) ss)) ≡ true
          → (list_any (λ k. eqb n k) (map (λ (s : FileSize). s.number) ss) ≡ true → list_any (λ k. eqb n k) (grown_numbers ss) ≡ true)
          → list_any (λ k. eqb n k) (cond b (s.number ∷ grown_numbers ss) (grown_numbers ss)) ≡ true
      at true same true grew here late = or_left (eqb n s.number) (list_any (λ k. eqb n k) (grown_numbers ss)) same
      at true same false grew here late =
          let longer : before s.number < ends s.number = subst (λ k. before k < ends k) (eqb-true n s.number same) more in
          absurd (omega (arith, longer, own.0.0, own.0.1, ltb-false s.before s.after grew))
      at false other true grew here late = or_right (eqb n s.number) (list_any (λ k. eqb n k) (grown_numbers ss)) (late here)
      at false other false grew here late = late here

module _ (source : List ℕ) (sizes : List FileSize) (ends : ℕ → ℕ) where
  -- the file of an entry that reaches it has the size that is listed
  abbrev Reached : List (CodeEntry Span (List ℕ)) → Type 0
  Reached es = (n : ℕ) → list_any (reaches_file n) (map (entry_of source) es) ≡ true → length_after sizes n ≡ ends n

  later : (e : CodeEntry Span (List ℕ)) (es : List (CodeEntry Span (List ℕ))) → Reached (e ∷ es) → Reached es
  later e es reached n is = reached n (or_right (reaches_file n (entry_of source e)) (list_any (reaches_file n) (map (entry_of source) es)) is)

  first : (e : CodeEntry Span (List ℕ)) (es : List (CodeEntry Span (List ℕ))) (n : ℕ) → Reached (e ∷ es) → reaches_file n (entry_of source e) ≡ true → length_after sizes n ≡ ends n
  first e es n reached is = reached n (or_left (reaches_file n (entry_of source e)) (list_any (reaches_file n) (map (entry_of source) es)) is)

  pub reaches_are : (index : ℕ) (es : List (CodeEntry Span (List ℕ))) → AllByRecursion (IsWithin (length source)) es → Reached es → made (length_after sizes) index (map reach_in es) ≡ made ends index (map reach_of (map (entry_of source) es))
  reaches_are index [] within reached = refl
  reaches_are index (entries.Write n offset p ∷ es) within reached =
      let end = first (entries.Write n offset p) es n reached (eq-eqb n n refl) in
      let last = within.0.1 in
      let long : p.end - p.start ≡ length (span_bytes source p) = sym (length-take-le (p.end - p.start) (drop p.start source) (omega (arith, length-drop p.start source))) in
      λ i. record { number = n; start = offset; end = min (offset + long i) (end i); origin = Payload index offset } ∷ reaches_are (index + 1) es within.1 (later (entries.Write n offset p) es reached) i
  reaches_are index (entries.Truncate n size ∷ es) within reached =
      let end = first (entries.Truncate n size) es n reached (eq-eqb n n refl) in
      λ i. record { number = n; start = size; end = end i; origin = Zero } ∷ reaches_are (index + 1) es within.1 (later (entries.Truncate n size) es reached) i
  reaches_are index (entries.Create d m n k mode ∷ es) within reached = reaches_are (index + 1) es within.1 (later (entries.Create d m n k mode) es reached)
  reaches_are index (entries.Link n d m ∷ es) within reached = reaches_are (index + 1) es within.1 (later (entries.Link n d m) es reached)
  reaches_are index (entries.Unlink d m k ∷ es) within reached = reaches_are (index + 1) es within.1 (later (entries.Unlink d m k) es reached)
  reaches_are index (entries.Rename d m e k ∷ es) within reached = reaches_are (index + 1) es within.1 (later (entries.Rename d m e k) es reached)
  reaches_are index (entries.Chmod n mode ∷ es) within reached = reaches_are (index + 1) es within.1 (later (entries.Chmod n mode) es reached)
  reaches_are index (entries.Regroup n group ∷ es) within reached = reaches_are (index + 1) es within.1 (later (entries.Regroup n group) es reached)

-- what the code lists is what the log made
pub log_made : (source : List ℕ) (sizes : List FileSize) (es : List (CodeEntry Span (List ℕ))) (tree : Tree ℕ) (after : Tree Mark) (ranges : List ByteRange) → AllByRecursion (IsWithin (length source)) es
    → AreSizes tree (map (entry_of source) es) after sizes → ranges ≡ growths sizes ++ made (length_after sizes) 0 (map reach_in es) → AreMade tree (map (entry_of source) es) after ranges
log_made source sizes es tree after ranges within all is = record {
  numbers = grown_numbers sizes;
  grew = (λ n more. grown_listed (file_size tree) (file_size after) n more sizes all.own (all.grew n more));
  are = is ∙ (λ i. growths_are (file_size tree) (file_size after) sizes all.own i ++ reaches_are source sizes (file_size after) 0 es within all.reached i);
}

-- what is said of a result's value
pub of_value : {X E : Type 0} (P : X → Type 0) (end : Result X E) (x : X) → end ≡ Ok x → IfOk end P → P x
of_value P end x is all = subst (λ r. IfOk r P) is all
