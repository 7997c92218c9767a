-- The sources and the targets of moves, as sets.
use Rattle.std.proofs.Common.{◌≡◌, ℕ, ◌==◌, ◌&&◌, ◌||◌, not, Bool, true, false, cond, List, [], ◌∷◌, ◌++◌, refl, sym, ap, ◌∙◌}
use Rattle.std.specs.List.{list_any}
use Rattle.std.specs.declared.cmp.Ordering.{Ordering}
use Rattle.std.specs.declared.cmp.Ordering.TheVariants.{Less, Equal, Greater}
use Rattle.std.specs.Ordering.{is_eq, nat_cmp, ordering_then}
use Rattle.std.specs.Cmp.{unsigned_tied}
use Rattle.std.specs.BTreeSet.{BTreeSet, Updates, contains}
use Rattle.std.proofs.lemmas.List.Folds.{list_any-append}
use Rattle.kfs_model.specs.Migration.{Move, source}
use Rattle.kfs_model.specs.Table.{numbers, pairs}

-- the order of pairs of numbers
abbrev pub by_pair : ℕ × ℕ → ℕ × ℕ → Ordering
by_pair = (pairs numbers numbers).compare

abbrev pub target_key : Move → ℕ × ℕ
target_key m = (m.target.tier, m.target.place)

abbrev pub has_key : (key : Move → ℕ × ℕ) → ℕ × ℕ → Move → Bool
has_key key q m = ((key m).0 == q.0) && ((key m).1 == q.1)

-- the set has the keys of these moves
abbrev pub AreKeysOf : (key : Move → ℕ × ℕ) → List Move → BTreeSet (ℕ × ℕ) → Type 0
AreKeysOf key moves keys = (q : ℕ × ℕ) → contains by_pair keys q ≡ list_any (has_key key q) moves

both_tied : (p q : ℕ × ℕ) → is_eq (by_pair p q) ≡ (p.0 == q.0) && (p.1 == q.1)
both_tied p q = in_turn (nat_cmp p.0 q.0) (nat_cmp p.1 q.1) ∙ (λ i. unsigned_tied p.0 q.0 i && unsigned_tied p.1 q.1 i)
  where
    in_turn : (a b : Ordering) → is_eq (ordering_then a b) ≡ is_eq a && is_eq b
    in_turn Less b = refl
    in_turn Equal b = refl
    in_turn Greater b = refl

module _ (key : Move → ℕ × ℕ) (moves : List Move) (m : Move) where
  -- whether an insert adds the move's key tells whether it is new
  pub added_if_new : (keys : BTreeSet (ℕ × ℕ)) {added : Bool} → AreKeysOf key moves keys → added ≡ not (contains by_pair keys (key m)) → added ≡ not (list_any (has_key key (key m)) moves)
  added_if_new keys are added = added ∙ ap not (are (key m))

  -- one move more
  pub key_more : (old new : BTreeSet (ℕ × ℕ)) → AreKeysOf key moves old → Updates by_pair old new (key m) true → AreKeysOf key (moves ++ m ∷ []) new
  key_more old new are updates q =
      updates.0 q
      ∙ ap (λ b. cond b true (contains by_pair old q)) (both_tied (key m) q)
      ∙ ap (cond (has_key key q m) true) (are q)
      ∙ either (has_key key q m) (list_any (has_key key q) moves)
      ∙ sym (list_any-append (has_key key q) moves (m ∷ []))
    where
      either : (same earlier : Bool) → cond same true earlier ≡ (earlier || (same || false))
      either true true = refl
      either true false = refl
      either false true = refl
      either false false = refl
