-- A chunk that is the first with an entry from a start on, and what is found at a key there.
use Rattle.std.proofs.Common.{◌≡◌, ◌<◌, ◌≤◌, ℕ, zero, suc, ◌+◌, Bool, true, false, cond, Option, Some, None, not, T, List, [], ◌∷◌, ◌++◌, length, get_or, ap, sym, subst, ◌∙◌, arith}
use Rattle.std.specs.Prelude.{is_some}
use Rattle.std.proofs.lemmas.List.{append_assoc, get_or_default}
use Rattle.std.specs.declared.ops.Bound.{Bound}
use Rattle.std.specs.declared.ops.Bound.TheVariants.{Included}
use Rattle.std.specs.declared.sync.Arc.{Arc}
use Rattle.std.specs.declared.cmp.Ordering.{Ordering}
use Rattle.std.specs.declared.cmp.Ordering.TheVariants.{Less}
use Rattle.std.specs.FinMap.Entries.{find, is_sorted}
use Rattle.std.specs.Ordering.{eq_by_cmp, is_lt, is_gt}
use Rattle.kfs_model.specs.Table.{Order}
use Rattle.kfs_model.proofs.Tables.{right_part, find_behind}
use Rattle.kfs_maps.specs.Chunks.Buffer.{Buffer}
use Rattle.kfs_maps.specs.Chunks.Joined.{joined, joined_by, first_chunk_from, first_run_from, EachBy, IsNotEmpty, AreFilled, Tells, TellsAlone}
use Rattle.kfs_maps.specs.Chunks.Starts.{is_from, first_from, entry_from, reaches}
use Rattle.kfs_maps.proofs.ChunksLemmas.Order.{un_not, flipped}
use Rattle.kfs_maps.proofs.ChunksLemmas.FirstEntries.{entry-append, find_same, find_above}
use Rattle.kfs_maps.proofs.ChunksLemmas.Parts.{none_before, parted_runs, sorted_right, sorted_at, in_place, front_ends}
use Rattle.kfs_maps.proofs.ChunksLemmas.Sorted.{parted_from}

module _ {K V A B : Type 0} (R : Order K) (entries : B → List (K × V)) (start : Bound K) where
  -- a run with an entry from the start on, or the end, behind a run without, is the first with one
  pub first_here : (cs : List (Arc B A)) (i : ℕ) → T (is_sorted R.compare (joined_by entries cs)) → EachBy entries IsNotEmpty cs → i ≤ length cs
      → (i < length cs → (d : Arc B A) → reaches R.compare start (entries (get_or cs i d).value) ≡ true)
      → ((j : ℕ) → j + 1 ≡ i → (d : Arc B A) → reaches R.compare start (entries (get_or cs j d).value) ≡ false) → first_run_from R.compare entries start cs ≡ i
  first_here [] i sorted filled within here past = omega (arith, within)
  first_here (c ∷ cs) zero sorted filled within here past = ap (λ b. cond b 0 (suc (first_run_from R.compare entries start cs))) (here (omega arith) c)
  first_here (c ∷ cs) (suc i) sorted filled within here past =
      let out : reaches R.compare start (entries c.value) ≡ false = un_not _ (parted_runs R entries start (c ∷ cs) sorted filled zero i c (omega arith) (omega (arith, within)) (ap not (past i (omega arith) c))) in
      ap (λ b. cond b 0 (suc (first_run_from R.compare entries start cs))) out
      ∙ ap suc (first_here cs i (sorted_right R.compare (entries c.value) (joined_by entries cs) sorted) filled.1 (omega (arith, within)) (λ less. here (omega (arith, less))) (λ j next. past (suc j) (omega (arith, next))))

module _ {K V : Type 0} (R : Order K) (start : Bound K) where
  -- an entry from the start on, or the end, behind one before it, is the first from the start on
  pub first_entry_here : (es : List (K × V)) (i : ℕ) → T (is_sorted R.compare es) → i ≤ length es
      → (i < length es → (d : K × V) → is_from R.compare start (get_or es i d).0 ≡ true)
      → ((j : ℕ) → j + 1 ≡ i → (d : K × V) → is_from R.compare start (get_or es j d).0 ≡ false) → first_from R.compare start es ≡ i
  first_entry_here [] i sorted within here past = omega (arith, within)
  first_entry_here (e ∷ es) zero sorted within here past = ap (λ b. cond b 0 (suc (first_from R.compare start es))) (here (omega arith) e)
  first_entry_here (e ∷ es) (suc i) sorted within here past =
      let out : is_from R.compare start e.0 ≡ false = un_not _ (parted_from R start (e ∷ es) sorted zero i e (omega arith) (omega (arith, within)) (ap not (past i (omega arith) e))) in
      ap (λ b. cond b 0 (suc (first_from R.compare start es))) out
      ∙ ap suc (first_entry_here es i (right_part _ _ sorted) (omega (arith, within)) (λ less. here (omega (arith, less))) (λ j next. past (suc j) (omega (arith, next))))

module _ {K V A : Type 0} (R : Order K) where
  -- a chunk with an entry from the key on, behind one without, tells what is found at the key
  pub inner_tells : (q : K) (cs : List (Arc (Buffer K V) A)) (i : ℕ) (d e : Arc (Buffer K V) A) → T (is_sorted R.compare (joined cs)) → AreFilled cs → 0 < i → i < length cs
      → reaches R.compare (Included q) (get_or cs i d).value.pairs ≡ true
      → ((j : ℕ) → j + 1 ≡ i → reaches R.compare (Included q) (get_or cs j e).value.pairs ≡ false)
      → TellsAlone R.compare q (joined cs) (get_or cs i d).value.pairs
  inner_tells q [] i d e sorted filled some within here past xs ys all = absurd (omega (arith, within))
  inner_tells q (c ∷ cs) zero d e sorted filled some within here past xs ys all = absurd (omega (arith, some))
  inner_tells q (c ∷ cs) (suc i) d e sorted filled some within here past xs ys all =
      let start = Included q in
      let first : first_chunk_from R.compare start (c ∷ cs) ≡ suc i =
      first_here R (λ (chunk : Buffer K V). chunk.pairs) start (c ∷ cs) (suc i) sorted filled (omega (arith, within))
      (λ less b. ap (λ chunk. reaches R.compare start chunk.value.pairs) (get_or_default (c ∷ cs) (suc i) b d within) ∙ here)
      (λ j next b. ap (λ chunk. reaches R.compare start chunk.value.pairs) (get_or_default (c ∷ cs) j b e (omega (arith, next, within))) ∙ past j next) in
      let out : not (reaches R.compare start c.value.pairs) ≡ true = parted_runs R (λ (chunk : Buffer K V). chunk.pairs) start (c ∷ cs) sorted filled zero i e (omega arith) (omega (arith, within)) (ap not (past i (omega arith))) in
      let own : entry_from R.compare start (joined (c ∷ cs)) ≡ entry_from R.compare start (get_or (c ∷ cs) (suc i) d).value.pairs =
      in_place R.compare start (c ∷ cs) d (omega (arith, first, within)) ∙ ap (λ k. entry_from R.compare start (get_or (c ∷ cs) k d).value.pairs) first in
      let reached : reaches R.compare start (joined (c ∷ cs)) ≡ true = ap is_some own ∙ here in
      let front : reaches R.compare start xs ≡ false =
      un_not _ (front_ends R start xs c.value.pairs (joined cs ++ ys) (subst (λ zs. T (is_sorted R.compare (xs ++ zs))) (append_assoc c.value.pairs (joined cs) ys) all) filled.0 out) in
      find_same R q (xs ++ (joined (c ∷ cs) ++ ys)) (get_or (c ∷ cs) (suc i) d).value.pairs all (sorted_at R (c ∷ cs) (suc i) d sorted within)
      (entry-append R.compare start xs (joined (c ∷ cs) ++ ys)
      ∙ ap (λ b. cond b (entry_from R.compare start xs) (entry_from R.compare start (joined (c ∷ cs) ++ ys))) front
      ∙ entry-append R.compare start (joined (c ∷ cs)) ys
      ∙ ap (λ b. cond b (entry_from R.compare start (joined (c ∷ cs))) (entry_from R.compare start ys)) reached
      ∙ own)

module _ {K V A : Type 0} (cmp : K → K → Ordering) where
  -- what one part tells, all tell
  pub told_by : (q : K) (front : List (K × V)) (parts : List (Arc (Buffer K V) A)) (p : ℕ) (d : Arc (Buffer K V) A) (told : Option V) → T (is_sorted cmp (front ++ joined parts)) → p < length parts
      → Tells cmp q (get_or parts p d).value.pairs told → find cmp q (front ++ joined parts) ≡ told
  told_by q front [] p d told sorted within tells = absurd (omega (arith, within))
  told_by q front (c ∷ cs) zero d told sorted within tells = tells front (joined cs) sorted
  told_by q front (c ∷ cs) (suc p) d told sorted within tells =
      let same = append_assoc front c.value.pairs (joined cs) in
      ap (find cmp q) (sym same) ∙ told_by q (front ++ c.value.pairs) cs p d told (subst (λ es. T (is_sorted cmp es)) (sym same) sorted) (omega (arith, within)) tells

  -- whatever stands in front of them and behind them
  pub tells_joined : (q : K) (cs : List (Arc (Buffer K V) A)) (i : ℕ) (d : Arc (Buffer K V) A) (told : Option V) → i < length cs
      → Tells cmp q (get_or cs i d).value.pairs told → Tells cmp q (joined cs) told
  tells_joined q [] i d told within tells xs ys sorted = absurd (omega (arith, within))
  tells_joined q (c ∷ cs) zero d told within tells xs ys sorted =
      let same = ap (λ es. xs ++ es) (append_assoc c.value.pairs (joined cs) ys) in
      ap (find cmp q) same ∙ tells xs (joined cs ++ ys) (subst (λ es. T (is_sorted cmp es)) same sorted)
  tells_joined q (c ∷ cs) (suc i) d told within tells xs ys sorted =
      let same = ap (λ es. xs ++ es) (append_assoc c.value.pairs (joined cs) ys) ∙ sym (append_assoc xs c.value.pairs (joined cs ++ ys)) in
      ap (find cmp q) same ∙ tells_joined q cs i d told (omega (arith, within)) tells (xs ++ c.value.pairs) ys (subst (λ es. T (is_sorted cmp es)) same sorted)

module _ {K V : Type 0} (R : Order K) where
  -- nothing is found at a key between two entries side by side
  pub between_tells : (q : K) (es : List (K × V)) (i : ℕ) (d a : K × V) → suc i < length es → is_lt (R.compare (get_or es i d).0 q) ≡ true → R.compare q (get_or es (suc i) a).0 ≡ Less → Tells R.compare q es None
  between_tells q [] i d a within below above xs ys sorted = absurd (omega (arith, within))
  between_tells q (e ∷ []) i d a within below above xs ys sorted = absurd (omega (arith, within))
  between_tells q (e ∷ f ∷ es) zero d a within below above xs ys sorted =
      let past : is_from R.compare (Included q) e.0 ≡ false = ap not below in
      let front : reaches R.compare (Included q) xs ≡ false = ap is_some (none_before R (Included q) xs e (f ∷ (es ++ ys)) sorted past) in
      let here : is_from R.compare (Included q) f.0 ≡ true = ap not (flipped R.total f.0 q ∙ ap is_gt above) in
      find_above R q (xs ++ (e ∷ f ∷ (es ++ ys))) f sorted
      (entry-append R.compare (Included q) xs (e ∷ f ∷ (es ++ ys))
      ∙ ap (λ b. cond b (entry_from R.compare (Included q) xs) (entry_from R.compare (Included q) (e ∷ f ∷ (es ++ ys)))) front
      ∙ ap (λ b. cond b (Some e) (entry_from R.compare (Included q) (f ∷ (es ++ ys)))) past
      ∙ ap (λ b. cond b (Some f) (entry_from R.compare (Included q) (es ++ ys))) here)
      above
  between_tells q (e ∷ f ∷ es) (suc i) d a within below above xs ys sorted =
      let same = sym (append_assoc xs (e ∷ []) (f ∷ (es ++ ys))) in
      ap (find R.compare q) same ∙ between_tells q (f ∷ es) i d a (omega (arith, within)) below above (xs ++ e ∷ []) ys (subst (λ es. T (is_sorted R.compare es)) same sorted)

  -- what is found among entries is found with more behind them
  found_front : (q : K) (es ys : List (K × V)) (v : V) → find R.compare q es ≡ Some v → find R.compare q (es ++ ys) ≡ Some v
  found_front q [] ys v found = absurd (let e : None ≡ Some v = found in cc)
  found_front q (e ∷ es) ys v found = at (found_front q es ys v) (eq_by_cmp R.compare q e.0) found
    where
      at : (find R.compare q es ≡ Some v → find R.compare q (es ++ ys) ≡ Some v) → (b : Bool) → cond b (Some e.1) (find R.compare q es) ≡ Some v → cond b (Some e.1) (find R.compare q (es ++ ys)) ≡ Some v
      at rest true found = found
      at rest false found = rest found

  -- entries with the key tell what is found at it
  pub found_tells : (q : K) (es : List (K × V)) (v : V) → find R.compare q es ≡ Some v → TellsAlone R.compare q es es
  found_tells q es v found [] ys all = found_front q es ys v found ∙ sym found
  found_tells q es v found (x ∷ xs) ys all = find_behind R q v x (xs ++ (es ++ ys)) all (found_tells q es v found xs ys (right_part _ _ all) ∙ found) ∙ sym found
