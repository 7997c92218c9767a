-- Walks over the mapped blocks of runs, and placements without the blocks in them.
use Rattle.std.proofs.Common.{◌≡◌, ℕ, ◌+◌, ◌<◌, ◌≤◌, ◌==◌, ◌&&◌, ◌||◌, not, nat_le, nat_lt, Bool, true, false, cond, List, [], ◌∷◌, Option, Some, None, refl, sym, ap, subst, ◌∙◌, arith}
use Rattle.std.specs.declared.cmp.Ordering.{Ordering}
use Rattle.std.specs.declared.cmp.Ordering.TheVariants.{Less, Equal, Greater}
use Rattle.std.specs.declared.ops.Bound.TheVariants.{Included}
use Rattle.std.specs.Option.{IsSome, IfNone}
use Rattle.std.specs.Ordering.{is_lt, is_eq, eq_by_cmp, nat_cmp, ordering_then}
use Rattle.std.specs.Cmp.{nat_cmp_is, tied_itself}
use Rattle.std.specs.FinMap.Entries.{find}
use Rattle.std.proofs.lemmas.Cmp.{ranked}
use Rattle.std.proofs.lemmas.Bool.{and_from, eqb-true, eq-eqb, leb-true, le-leb, ltb-true, lt-ltb, ltb-false, both_ways}
use Rattle.std.proofs.lemmas.Map.Keys.{ge_from_not_lt}
use Rattle.kfs_model.specs.Table.{pairs, numbers, get, changed}
use Rattle.kfs_model.specs.Placement.{Place, Placement}
use Rattle.kfs_model.proofs.TableLaws.{same_table, get-retain, get-changed}
use Rattle.kfs_maps.specs.Chunks.Starts.{is_from, IsNextEntry}
use Rattle.kfs_maps.specs.Chunks.Tables.{table}
use Rattle.kfs_maps.proofs.ChunksLemmas.Tables.{get-table}
use Rattle.kfs_image.specs.declared.blocks.fill.BlockRun.{BlockRun}
use Rattle.kfs_image.specs.Blocks.Fill.{is_in, is_in_one, less}

abbrev cmp : ℕ × ℕ → ℕ × ℕ → Ordering
cmp = (pairs numbers numbers).compare

-- ---- the order of blocks

from_start : (number first block : ℕ) → first ≤ block → is_from cmp (Included (number, first)) (number, block) ≡ true
from_start number first block above = ap (λ r. not (is_lt (ordering_then r (nat_cmp block first)))) (sym (nat_cmp_is number number Equal refl)) ∙ at (nat_cmp block first) refl
  where
    at : (r : Ordering) → r ≡ nat_cmp block first → not (is_lt r) ≡ true
    at Less is = let less : block < first = ranked block first Less is in absurd (omega (arith, above, less))
    at Equal is = refl
    at Greater is = refl

-- a block from the start on that isn't behind one of the file is one of the file
of_file : (number first block : ℕ) (key : ℕ × ℕ) → is_from cmp (Included (number, first)) key ≡ true → is_lt (cmp (number, block) key) ≡ false → (key.0 ≡ number) × (key.1 ≤ block)
of_file number first block key within least = at (nat_cmp number key.0) refl least
  where
    never : false ≡ true → ⊥
    never e = cc

    at : (r : Ordering) → r ≡ nat_cmp number key.0 → is_lt (ordering_then r (nat_cmp block key.1)) ≡ false → (key.0 ≡ number) × (key.1 ≤ block)
    at Less is e = cc
    at Equal is e = (sym (ranked number key.0 Equal is), ge_from_not_lt block key.1 e)
    at Greater is e =
        let less : key.0 < number = ranked number key.0 Greater is in
        absurd (never (ap (λ r. not (is_lt (ordering_then r (nat_cmp key.1 first)))) (nat_cmp_is key.0 number Less less) ∙ within))

module _ (placement : List ((ℕ × ℕ) × Place)) (number first : ℕ) (key : ℕ × ℕ) (place : Place) (next : IsNextEntry cmp (Included (number, first)) placement key place) where
  -- a block of the file before the next one isn't mapped
  pub unmapped_before : (block : ℕ) → first ≤ block → (key.0 ≡ number → key.1 ≤ block → ⊥) → get (table (pairs numbers numbers) placement) (number, block) ≡ None
  unmapped_before block above other = get-table (pairs numbers numbers) placement (number, block) ∙ at (find cmp (number, block) placement) refl
    where
      at : (o : Option Place) → find cmp (number, block) placement ≡ o → o ≡ None
      at None is = refl
      at (Some p) is =
          let (same, below) = of_file number first block key next.within (next.least (number, block) (from_start number first block above) (subst (λ o. IsSome o) (sym is) refl)) in
          absurd (other same below)

-- where none comes next, none is mapped
pub none_next : (placement : List ((ℕ × ℕ) × Place)) (number first : ℕ) → ((q : ℕ × ℕ) → is_from cmp (Included (number, first)) q ≡ true → find cmp q placement ≡ None)
    → (block : ℕ) → first ≤ block → get (table (pairs numbers numbers) placement) (number, block) ≡ None
none_next placement number first none block above = get-table (pairs numbers numbers) placement (number, block) ∙ none (number, block) (from_start number first block above)

pub if_none : {X : Type 0} {P : Type 0} (o : Option X) → P → IfNone o P
if_none None p = p
if_none (Some x) p = tt

-- ---- the blocks of a run

both_parts : (a b : Bool) → (a && b) ≡ true → (a ≡ true) × (b ≡ true)
both_parts true true is = (refl, refl)
both_parts true false is = cc
both_parts false b is = cc

in_run : (run : BlockRun) (q : ℕ × ℕ) → is_in run q ≡ true → (q.0 ≡ run.number) × (run.first ≤ q.1) × (q.1 < run.end)
in_run run q is =
    let (of, within) = both_parts (q.0 == run.number) (nat_le run.first q.1 && nat_lt q.1 run.end) is in
    let (first, end) = both_parts (nat_le run.first q.1) (nat_lt q.1 run.end) within in
    (eqb-true q.0 run.number of, leb-true run.first q.1 first, ltb-true q.1 run.end end)

run_has : (run : BlockRun) (block : ℕ) → run.first ≤ block → block < run.end → is_in run (run.number, block) ≡ true
run_has run block above below =
    and_from _ _ (eq-eqb run.number run.number refl) (and_from _ _ (le-leb run.first block above) (lt-ltb block run.end below))

-- whether a block is in the part of the run below another
abbrev pub is_passed : BlockRun → (from : ℕ) → ℕ × ℕ → Bool
is_passed run from q = is_in run q && nat_lt q.1 from

module _ (run : BlockRun) (t : Placement) where
  -- the placement t without the blocks of the run below another
  abbrev pub IsLess : (from : ℕ) → Placement → Type 0
  IsLess from now = (q : ℕ × ℕ) → get now q ≡ cond (is_passed run from q) None (get t q)

  pub less_none : IsLess run.first t
  less_none q = at (is_passed run run.first q) refl
    where
      at : (b : Bool) → is_passed run run.first q ≡ b → get t q ≡ cond b None (get t q)
      at true is =
          let (inside, below) = both_parts (is_in run q) (nat_lt q.1 run.first) is in
          let first : run.first ≤ q.1 = (in_run run q inside).1 in
          absurd (omega (arith, first, ltb-true q.1 run.first below))
      at false is = refl

  -- a further block less, where none stands between
  pub less_step : (from block : ℕ) (now : Placement) → run.first ≤ from → from ≤ block → block < run.end
      → ((b : ℕ) → from ≤ b → b < block → get t (run.number, b) ≡ None)
      → IsLess from now → IsLess (block + 1) (changed now (run.number, block) None)
  less_step from block now first above below between before q =
      get-changed now (run.number, block) None q
      ∙ ap (cond (eq_by_cmp cmp q (run.number, block)) None) (before q)
      ∙ at (eq_by_cmp cmp q (run.number, block)) refl (is_passed run from q) refl (is_passed run (block + 1) q) refl
    where
      same : eq_by_cmp cmp q (run.number, block) ≡ true → q ≡ (run.number, block)
      same is = (pairs numbers numbers).exact q (run.number, block) (tied (cmp q (run.number, block)) is)
        where
          tied : (r : Ordering) → is_eq r ≡ true → r ≡ Equal
          tied Less e = cc
          tied Equal e = refl
          tied Greater e = cc

      is_here : eq_by_cmp cmp q (run.number, block) ≡ true → is_passed run (block + 1) q ≡ true
      is_here is = ap (is_passed run (block + 1)) (same is) ∙ and_from _ _ (run_has run block (omega (arith, first, above)) below) (lt-ltb block (block + 1) (omega arith))

      was_passed : is_passed run from q ≡ true → is_passed run (block + 1) q ≡ true
      was_passed is =
          let (inside, earlier) = both_parts (is_in run q) (nat_lt q.1 from) is in
          and_from _ _ inside (lt-ltb q.1 (block + 1) (omega (arith, above, ltb-true q.1 from earlier)))

      nothing : eq_by_cmp cmp q (run.number, block) ≡ false → is_passed run from q ≡ false → is_passed run (block + 1) q ≡ true → get t q ≡ None
      nothing differs not_yet is =
          let (inside, earlier) = both_parts (is_in run q) (nat_lt q.1 (block + 1)) is in
          let of : q.0 ≡ run.number = (in_run run q inside).0 in
          let not_before : from ≤ q.1 = ltb-false q.1 from (sym (ap (λ b. b && nat_lt q.1 from) inside) ∙ not_yet) in
          let upto : q.1 < block + 1 = ltb-true q.1 (block + 1) earlier in
          ap (λ (m : ℕ). get t (m, q.1)) of ∙ between q.1 not_before (strictly of upto (nat_lt q.1 block) refl)
        where
          strictly : q.0 ≡ run.number → q.1 < block + 1 → (b : Bool) → nat_lt q.1 block ≡ b → q.1 < block
          strictly of upto true is = ltb-true q.1 block is
          strictly of upto false is =
              let at_block : q.1 ≡ block = omega (arith, upto, ltb-false q.1 block is) in
              let here : q ≡ (run.number, block) = (λ i. (of i, at_block i)) in
              absurd (both_ways (eq_by_cmp cmp q (run.number, block)) differs (ap is_eq (ap (λ p. cmp p (run.number, block)) here ∙ tied_itself (pairs numbers numbers).total (run.number, block))))

      at : (e : Bool) → eq_by_cmp cmp q (run.number, block) ≡ e → (a : Bool) → is_passed run from q ≡ a → (b : Bool) → is_passed run (block + 1) q ≡ b → cond e None (cond a None (get t q)) ≡ cond b None (get t q)
      at true here a was true is = refl
      at true here a was false is = absurd (both_ways (is_passed run (block + 1) q) is (is_here here))
      at false differs true was true is = refl
      at false differs true was false is = absurd (both_ways (is_passed run (block + 1) q) is (was_passed was))
      at false differs false was true is = nothing differs was is
      at false differs false was false is = refl

  -- all of the run less, where none stands behind
  pub less_end : (from : ℕ) (now : Placement) → ((b : ℕ) → from ≤ b → b < run.end → get t (run.number, b) ≡ None) → IsLess from now → now ≡ less (run ∷ []) t
  less_end from now behind before = same_table now (less (run ∷ []) t) (λ q.
      before q ∙ at q (is_in run q) refl (nat_lt q.1 from) refl ∙ sym (get-retain (λ block. not (is_in_one (run ∷ []) block)) t q))
    where
      nothing : (q : ℕ × ℕ) → is_in run q ≡ true → nat_lt q.1 from ≡ false → get t q ≡ None
      nothing q inside late =
          let parts = in_run run q inside in
          ap (λ (m : ℕ). get t (m, q.1)) parts.0 ∙ behind q.1 (ltb-false q.1 from late) parts.2

      at : (q : ℕ × ℕ) (i : Bool) → is_in run q ≡ i → (l : Bool) → nat_lt q.1 from ≡ l → cond (i && l) None (get t q) ≡ cond (not (i || false)) (get t q) None
      at q true inside true early = refl
      at q true inside false late = nothing q inside late
      at q false outside l early = refl
