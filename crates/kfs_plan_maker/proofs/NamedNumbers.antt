-- A client that holds all numbers that a log names holds those of each of its entries.
use Rattle.std.proofs.Common.{◌≡◌, ℕ, Bool, true, List, [], ◌∷◌, ◌++◌, map, Option, refl, sym, subst}
use Rattle.std.specs.List.{AllByRecursion, flat_map}
use Rattle.kfs_types.specs.Views.{entry_of}
use Rattle.kfs_types.specs.declared.entry.Entry.{Entry as CodeEntry}
use Rattle.kfs_types.specs.declared.entry.Entry.TheVariants as entries
use Rattle.kfs_types.specs.declared.entry.Span.{Span}
use Rattle.kfs_plan_maker.specs.AskedLeases.{HoldsNamed, named_in, numbers_named}

module _ (name : ℕ → List ℕ → Option ℕ) where
  -- payloads don't matter
  same_named : (source : List ℕ) (entry : CodeEntry Span (List ℕ)) → numbers_named name (entry_of source entry) ≡ named_in name entry
  same_named source (entries.Create d m n k mode) = refl
  same_named source (entries.Write n offset p) = refl
  same_named source (entries.Truncate n size) = refl
  same_named source (entries.Link n d m) = refl
  same_named source (entries.Unlink d m k) = refl
  same_named source (entries.Rename d m e k) = refl
  same_named source (entries.Chmod n mode) = refl
  same_named source (entries.Regroup n group) = refl

  halves : (P : ℕ → Type 0) (front back : List ℕ) → AllByRecursion P (front ++ back) → AllByRecursion P front × AllByRecursion P back
  halves P [] back all = (tt, all)
  halves P (x ∷ front) back all = let rest = halves P front back all.1 in ((all.0, rest.0), rest.1)

  pub each_named : (held : ℕ → Bool) (source : List ℕ) (rows : List (CodeEntry Span (List ℕ))) → AllByRecursion (λ n. held n ≡ true) (flat_map (named_in name) rows) → AllByRecursion (HoldsNamed held name) (map (entry_of source) rows)
  each_named held source [] all = tt
  each_named held source (entry ∷ rows) all =
      let both = halves (λ n. held n ≡ true) (named_in name entry) (flat_map (named_in name) rows) all in
      (subst (AllByRecursion (λ n. held n ≡ true)) (sym (same_named source entry)) both.0, each_named held source rows both.1)
