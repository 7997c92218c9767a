-- Sorted entries in two parts, and the chunks that they stand in.
use Rattle.std.proofs.Common.{◌≡◌, ◌<◌, ◌≤◌, ℕ, zero, suc, Bool, true, false, cond, not, T, ◌&&◌, All, List, [], ◌∷◌, ◌++◌, length, get_or, slice_index_or, ◌+◌, ◌-◌, take, drop, length-take, length-drop, Option, Some, None, refl, sym, ap, subst, ◌∙◌, arith}
use Rattle.std.specs.Prelude.{is_some}
use Rattle.std.proofs.lemmas.List.{append_assoc, append-nil, length-append, get_or-take, get_or-drop}
use Rattle.std.specs.declared.cmp.Ordering.{Ordering}
use Rattle.std.specs.declared.cmp.Ordering.TheVariants.{Less, Equal, Greater}
use Rattle.std.specs.declared.ops.Bound.{Bound}
use Rattle.std.specs.declared.ops.Bound.TheVariants.{Included}
use Rattle.std.specs.declared.sync.Arc.{Arc}
use Rattle.std.specs.Ordering.{is_lt, is_gt}
use Rattle.std.specs.List.{AllZip}
use Rattle.std.specs.List.Sorted.{IsPartitionedBy}
use Rattle.std.specs.FinMap.Entries.{find, is_sorted, below_all}
use Rattle.kfs_model.specs.Table.{Order}
use Rattle.kfs_model.proofs.Tables.{left_part, right_part}
use Rattle.kfs_maps.specs.declared.chunks.entries.KeyEdit.{KeyEdit}
use Rattle.kfs_maps.specs.Chunks.Edits.{KeysAscend}
use Rattle.kfs_maps.specs.Chunks.Buffer.{Buffer}
use Rattle.kfs_maps.specs.Chunks.Joined.{joined, joined_by, first_chunk_from, Each, EachBy, IsNotEmpty, AreSized, AreFilled}
use Rattle.kfs_maps.specs.Chunks.Starts.{is_from, entry_from, reaches}
use Rattle.kfs_maps.proofs.ChunksLemmas.Order.{true_or_false, un_not, flipped, not_below, not_earlier}
use Rattle.kfs_maps.proofs.ChunksLemmas.Sorted.{earlier, as_less, less_from, below_lower, first_below, not_some}
use Rattle.kfs_maps.proofs.ChunksLemmas.FirstEntries.{entry-append, find_same}

both_parts : (a b : Bool) → T a → T b → T (a && b)
both_parts true b p q = q
both_parts false b p q = p

module _ {K V : Type 0} (cmp : K → K → Ordering) where
  below_left : (k : K) (xs ys : List (K × V)) → T (below_all cmp k (xs ++ ys)) → T (below_all cmp k xs)
  below_left k [] ys below = tt
  below_left k (x ∷ xs) ys below = both_parts _ _ (left_part _ _ below) (below_left k xs ys (right_part _ _ below))

  below_right : (k : K) (xs ys : List (K × V)) → T (below_all cmp k (xs ++ ys)) → T (below_all cmp k ys)
  below_right k [] ys below = below
  below_right k (x ∷ xs) ys below = below_right k xs ys (right_part _ _ below)

  pub sorted_left : (xs ys : List (K × V)) → T (is_sorted cmp (xs ++ ys)) → T (is_sorted cmp xs)
  sorted_left [] ys sorted = tt
  sorted_left (x ∷ xs) ys sorted = both_parts _ _ (below_left x.0 xs ys (left_part _ _ sorted)) (sorted_left xs ys (right_part _ _ sorted))

  pub sorted_right : (xs ys : List (K × V)) → T (is_sorted cmp (xs ++ ys)) → T (is_sorted cmp ys)
  sorted_right [] ys sorted = sorted
  sorted_right (x ∷ xs) ys sorted = sorted_right xs ys (right_part _ _ sorted)

module _ {K V : Type 0} (R : Order K) where
  -- where an entry is before the start, all before it are
  pub none_before : (start : Bound K) (xs : List (K × V)) (e : K × V) (ys : List (K × V)) → T (is_sorted R.compare (xs ++ e ∷ ys)) → is_from R.compare start e.0 ≡ false → entry_from R.compare start xs ≡ None
  none_before start [] e ys sorted past = refl
  none_before start (x ∷ xs) e ys sorted past =
      let less : R.compare x.0 e.0 ≡ Less = as_less _ (left_part _ _ (below_right R.compare x.0 xs (e ∷ ys) (left_part _ _ sorted))) in
      ap (λ b. cond b (Some x) (entry_from R.compare start xs)) (earlier R start x.0 e.0 less past) ∙ none_before start xs e ys (right_part _ _ sorted) past

  -- an entry that a start reaches is below what stands behind
  pub reached_below : (k : K) (xs ys : List (K × V)) → T (is_sorted R.compare (xs ++ ys)) → reaches R.compare (Included k) xs ≡ true → T (below_all R.compare k ys)
  reached_below k [] ys sorted reached = absurd (true_or_false false reached refl)
  reached_below k (x ∷ xs) ys sorted reached = at (reached_below k xs ys (right_part _ _ sorted)) (is_from R.compare (Included k) x.0) refl reached
    where
      below : T (below_all R.compare x.0 ys)
      below = below_right R.compare x.0 xs ys (left_part _ _ sorted)

      by : (r : Ordering) → R.compare k x.0 ≡ r → not (is_lt (R.compare x.0 k)) ≡ true → T (below_all R.compare k ys)
      by Less p here = below_lower R k x.0 ys p below
      by Equal p here = subst (λ key. T (below_all R.compare key ys)) (sym (R.exact k x.0 p)) below
      by Greater p here = absurd (true_or_false false (ap not (sym (flipped R.total x.0 k ∙ ap is_gt p)) ∙ here) refl)

      at : (reaches R.compare (Included k) xs ≡ true → T (below_all R.compare k ys)) → (b : Bool) → is_from R.compare (Included k) x.0 ≡ b → is_some (cond b (Some x) (entry_from R.compare (Included k) xs)) ≡ true → T (below_all R.compare k ys)
      at rest true here reached = by (R.compare k x.0) refl here
      at rest false past reached = rest reached

module _ {K V : Type 0} (R : Order K) where
  -- a later start has no entry where an earlier one has none
  pub none_later : (a b : K) (es : List (K × V)) → is_lt (R.compare b a) ≡ false → entry_from R.compare (Included a) es ≡ None → entry_from R.compare (Included b) es ≡ None
  none_later a b [] le none = refl
  none_later a b (e ∷ es) le none = at (none_later a b es le) (is_from R.compare (Included a) e.0) refl none
    where
      at : (entry_from R.compare (Included a) es ≡ None → entry_from R.compare (Included b) es ≡ None) → (t : Bool) → is_from R.compare (Included a) e.0 ≡ t → cond t (Some e) (entry_from R.compare (Included a) es) ≡ None → entry_from R.compare (Included b) (e ∷ es) ≡ None
      at rest true here none = absurd (let x : Some e ≡ None = none in cc)
      at rest false past none = ap (λ t. cond t (Some e) (entry_from R.compare (Included b) es)) (later (is_lt (R.compare e.0 b)) refl) ∙ rest none
        where
          later : (t : Bool) → is_lt (R.compare e.0 b) ≡ t → is_from R.compare (Included b) e.0 ≡ false
          later true less = ap not less
          later false from = absurd (true_or_false (is_lt (R.compare e.0 a)) (ap is_lt (less_from _ past)) (not_below R.total e.0 b a from le))

module _ {K V : Type 0} (R : Order K) where
  -- the edits that reach into the entries stand before the others
  pub parted_edits : (xs : List (K × V)) (es : List (KeyEdit K V)) → KeysAscend R.compare es → IsPartitionedBy (λ (e : KeyEdit K V). reaches R.compare (Included e.key) xs) es
  parted_edits xs es ascend i j d le below reached = at (reaches R.compare (Included (slice_index_or es i d).key) xs) refl
    where
      later : is_lt (R.compare (slice_index_or es j d).key (slice_index_or es i d).key) ≡ false
      later = ap (λ n. is_lt (R.compare (slice_index_or es n d).key (slice_index_or es i d).key)) {x = j} {y = i + (j - i)} (omega (arith, le)) ∙ not_earlier R.total es i (j - i) d ascend (omega (arith, le, below))

      at : (b : Bool) → reaches R.compare (Included (slice_index_or es i d).key) xs ≡ b → reaches R.compare (Included (slice_index_or es i d).key) xs ≡ true
      at true e = e
      at false e = absurd (true_or_false false (ap is_some (sym (none_later R (slice_index_or es i d).key (slice_index_or es j d).key xs later (not_some _ e))) ∙ reached) refl)

  -- where the first edit doesn't reach into the entries, none does
  pub none_reaches : (xs : List (K × V)) (es : List (KeyEdit K V)) → KeysAscend R.compare es → ((d : KeyEdit K V) → reaches R.compare (Included (slice_index_or es 0 d).key) xs ≡ false)
      → (k : ℕ) (d : KeyEdit K V) → 0 ≤ k → k < length es → reaches R.compare (Included (slice_index_or es k d).key) xs ≡ false
  none_reaches xs es ascend missed k d least within = at (reaches R.compare (Included (slice_index_or es k d).key) xs) refl
    where
      at : (b : Bool) → reaches R.compare (Included (slice_index_or es k d).key) xs ≡ b → reaches R.compare (Included (slice_index_or es k d).key) xs ≡ false
      at true e = absurd (true_or_false _ (parted_edits xs es ascend 0 k d (omega arith) within e) (missed d))
      at false e = e

  -- where the first edit and a run of the later ones reach into the entries, one more than that run does
  pub one_more_reaches : (xs : List (K × V)) (e : KeyEdit K V) (es : List (KeyEdit K V)) (run : ℕ) → reaches R.compare (Included e.key) xs ≡ true
      → ((k : ℕ) (d : KeyEdit K V) → 0 ≤ k → k < run → reaches R.compare (Included (slice_index_or es k d).key) xs ≡ true)
      → (k : ℕ) (d : KeyEdit K V) → 0 ≤ k → k < 1 + run → reaches R.compare (Included (slice_index_or (e ∷ es) k d).key) xs ≡ true
  one_more_reaches xs e es run first later zero d least within = first
  one_more_reaches xs e es run first later (suc k) d least within = later k d (omega arith) (omega (arith, within))

  -- and where the later ones from a run on don't, the edits from one more on don't
  pub one_more_past : (xs : List (K × V)) (e : KeyEdit K V) (es : List (KeyEdit K V)) (run : ℕ)
      → ((k : ℕ) (d : KeyEdit K V) → run ≤ k → k < length es → reaches R.compare (Included (slice_index_or es k d).key) xs ≡ false)
      → (k : ℕ) (d : KeyEdit K V) → 1 + run ≤ k → k < length (e ∷ es) → reaches R.compare (Included (slice_index_or (e ∷ es) k d).key) xs ≡ false
  one_more_past xs e es run later zero d behind within = absurd (let no : ⊥ = omega (arith, behind) in no)
  one_more_past xs e es run later (suc k) d behind within = later k d (omega (arith, behind)) (omega (arith, within))

  -- the keys of those that do are below what stands behind the entries
  pub run_below : (xs ys : List (K × V)) (es : List (KeyEdit K V)) (run : ℕ) → T (is_sorted R.compare (xs ++ ys)) → ((k : ℕ) (d : KeyEdit K V) → 0 ≤ k → k < run → reaches R.compare (Included (slice_index_or es k d).key) xs ≡ true)
      → All (λ e. T (below_all R.compare e.key ys)) (take run es)
  run_below xs ys es run sorted reached k d below =
      let within : k < run = omega (arith, below, length-take run es) in
      subst (λ (e : KeyEdit K V). T (below_all R.compare e.key ys)) (sym (get_or-take run es k d within)) (reached_below R (slice_index_or es k d).key xs ys sorted (reached k d (omega arith) within))

  -- and the others have no entry from their keys on
  pub run_past : (xs : List (K × V)) (es : List (KeyEdit K V)) (run : ℕ) → ((k : ℕ) (d : KeyEdit K V) → run ≤ k → k < length es → reaches R.compare (Included (slice_index_or es k d).key) xs ≡ false)
      → All (λ e. entry_from R.compare (Included e.key) xs ≡ None) (drop run es)
  run_past xs es run past k d below =
      ap (λ (e : KeyEdit K V). entry_from R.compare (Included e.key) xs) (get_or-drop run es k d) ∙ not_some _ (past (run + k) d (omega arith) (omega (arith, below, length-drop run es)))

module _ {K V A : Type 0} where
  pub joined-append : (xs ys : List (Arc (Buffer K V) A)) → joined (xs ++ ys) ≡ joined xs ++ joined ys
  joined-append [] ys = refl
  joined-append (x ∷ xs) ys = ap (λ es. x.value.pairs ++ es) (joined-append xs ys) ∙ sym (append_assoc x.value.pairs (joined xs) (joined ys))

  pub each-append : (P : List (K × V) → Type 0) (xs ys : List (Arc (Buffer K V) A)) → Each P xs → Each P ys → Each P (xs ++ ys)
  each-append P [] ys left right = right
  each-append P (x ∷ xs) ys left right = (left.0, each-append P xs ys left.1 right)

  pub each_left : (P : List (K × V) → Type 0) (xs ys : List (Arc (Buffer K V) A)) → Each P (xs ++ ys) → Each P xs
  each_left P [] ys all = tt
  each_left P (x ∷ xs) ys all = (all.0, each_left P xs ys all.1)

  pub each_right : (P : List (K × V) → Type 0) (xs ys : List (Arc (Buffer K V) A)) → Each P (xs ++ ys) → Each P ys
  each_right P [] ys all = all
  each_right P (x ∷ xs) ys all = each_right P xs ys all.1

  pub each_at : (P : List (K × V) → Type 0) (cs : List (Arc (Buffer K V) A)) (i : ℕ) (d : Arc (Buffer K V) A) → Each P cs → i < length cs → P (get_or cs i d).value.pairs
  each_at P [] i d all within = absurd (omega (arith, within))
  each_at P (c ∷ cs) zero d all within = all.0
  each_at P (c ∷ cs) (suc i) d all within = each_at P cs i d all.1 (omega (arith, within))

  -- chunks of the right size have an entry each
  pub sized_filled : (cs : List (Arc (Buffer K V) A)) → AreSized cs → AreFilled cs
  sized_filled [] sized = tt
  sized_filled (c ∷ cs) sized = (sized.0.0, sized_filled cs sized.1)

  -- where there is one, so have all together
  pub joined_filled : (cs : List (Arc (Buffer K V) A)) → AreFilled cs → 1 ≤ length cs → IsNotEmpty (joined cs)
  joined_filled [] filled some = some
  joined_filled (c ∷ cs) filled some = omega (arith, filled.0, length-append c.value.pairs (joined cs))

module _ {K V A : Type 0} (cmp : K → K → Ordering) (start : Bound K) where
  -- the first entry of all stands in the chunk at the first chunk from the start on
  pub in_place : (cs : List (Arc (Buffer K V) A)) (d : Arc (Buffer K V) A) → first_chunk_from cmp start cs < length cs → entry_from cmp start (joined cs) ≡ entry_from cmp start (get_or cs (first_chunk_from cmp start cs) d).value.pairs
  in_place [] d within = absurd (omega (arith, within))
  in_place (c ∷ cs) d within = entry-append cmp start c.value.pairs (joined cs) ∙ at (in_place cs d) (reaches cmp start c.value.pairs) within
    where
      at : (first_chunk_from cmp start cs < length cs → entry_from cmp start (joined cs) ≡ entry_from cmp start (get_or cs (first_chunk_from cmp start cs) d).value.pairs)
          → (b : Bool) → cond b 0 (suc (first_chunk_from cmp start cs)) < suc (length cs)
          → cond b (entry_from cmp start c.value.pairs) (entry_from cmp start (joined cs)) ≡ entry_from cmp start (get_or (c ∷ cs) (cond b 0 (suc (first_chunk_from cmp start cs))) d).value.pairs
      at rest true within = refl
      at rest false within = rest (omega (arith, within))

  -- where there is no first chunk from the start on, there is no entry
  pub past_place : (cs : List (Arc (Buffer K V) A)) → length cs ≤ first_chunk_from cmp start cs → entry_from cmp start (joined cs) ≡ None
  past_place [] past = refl
  past_place (c ∷ cs) past = entry-append cmp start c.value.pairs (joined cs) ∙ at (past_place cs) (reaches cmp start c.value.pairs) past
    where
      at : (length cs ≤ first_chunk_from cmp start cs → entry_from cmp start (joined cs) ≡ None)
          → (b : Bool) → suc (length cs) ≤ cond b 0 (suc (first_chunk_from cmp start cs)) → cond b (entry_from cmp start c.value.pairs) (entry_from cmp start (joined cs)) ≡ None
      at rest true past = absurd (omega (arith, past))
      at rest false past = rest (omega (arith, past))

  -- no chunk in front of the first chunk from the start on has an entry from the start on
  pub none_in_front : (front back : List (Arc (Buffer K V) A)) → length front ≤ first_chunk_from cmp start (front ++ back) → entry_from cmp start (joined front) ≡ None
  none_in_front [] back before_place = refl
  none_in_front (c ∷ front) back before_place = entry-append cmp start c.value.pairs (joined front) ∙ at (none_in_front front back) (reaches cmp start c.value.pairs) before_place
    where
      at : (length front ≤ first_chunk_from cmp start (front ++ back) → entry_from cmp start (joined front) ≡ None)
          → (b : Bool) → suc (length front) ≤ cond b 0 (suc (first_chunk_from cmp start (front ++ back))) → cond b (entry_from cmp start c.value.pairs) (entry_from cmp start (joined front)) ≡ None
      at rest true past = absurd (omega (arith, past))
      at rest false past = rest (omega (arith, past))

module _ {K V : Type 0} (R : Order K) (start : Bound K) where
  -- where some entries end before the start, so do those in front of them
  pub front_ends : (xs es ys : List (K × V)) → T (is_sorted R.compare (xs ++ (es ++ ys))) → IsNotEmpty es → not (reaches R.compare start es) ≡ true → not (reaches R.compare start xs) ≡ true
  front_ends xs [] ys sorted some past = absurd (omega (arith, some))
  front_ends xs (e ∷ es) ys sorted some past = ap (λ (o : Option (K × V)). not (is_some o)) (none_before R start xs e (es ++ ys) sorted (at (is_from R.compare start e.0) past))
    where
      at : (b : Bool) → not (is_some (cond b (Some e) (entry_from R.compare start es))) ≡ true → b ≡ false
      at true past = absurd (true_or_false false past refl)
      at false past = refl

module _ {K V A B : Type 0} (R : Order K) (entries : B → List (K × V)) (start : Bound K) where
  -- runs without an entry from the start on stand before those with one
  pub parted_runs : (cs : List (Arc B A)) → T (is_sorted R.compare (joined_by entries cs)) → EachBy entries IsNotEmpty cs → IsPartitionedBy (λ (c : Arc B A). not (reaches R.compare start (entries c.value))) cs
  parted_runs [] sorted filled i j d le below past = absurd (omega (arith, below))
  parted_runs (c ∷ cs) sorted filled zero zero d le below past = past
  parted_runs (c ∷ []) sorted filled zero (suc j) d le below past = absurd (omega (arith, below))
  parted_runs (c ∷ n ∷ ns) sorted filled zero (suc j) d le below past =
      let next : not (reaches R.compare start (entries n.value)) ≡ true =
      parted_runs (n ∷ ns) (sorted_right R.compare (entries c.value) (joined_by entries (n ∷ ns)) sorted) filled.1 zero j d (omega arith) (omega (arith, below)) past in
      front_ends R start (entries c.value) (entries n.value) (joined_by entries ns) sorted filled.1.0 next
  parted_runs (c ∷ cs) sorted filled (suc i) zero d le below past = absurd (omega (arith, le))
  parted_runs (c ∷ cs) sorted filled (suc i) (suc j) d le below past = parted_runs cs (sorted_right R.compare (entries c.value) (joined_by entries cs) sorted) filled.1 i j d (omega (arith, le)) (omega (arith, below)) past

module _ {K V A : Type 0} (R : Order K) (start : Bound K) where
  -- chunks together reach as far as the last
  pub reaches_behind : (cs : List (Arc (Buffer K V) A)) (i : ℕ) (d : Arc (Buffer K V) A) → T (is_sorted R.compare (joined cs)) → AreFilled cs → i + 1 ≡ length cs
      → reaches R.compare start (joined cs) ≡ reaches R.compare start (get_or cs i d).value.pairs
  reaches_behind [] i d sorted filled last = absurd (omega (arith, last))
  reaches_behind (c ∷ []) zero d sorted filled last = ap (λ es. reaches R.compare start es) (append-nil c.value.pairs)
  reaches_behind (c ∷ []) (suc i) d sorted filled last = absurd (omega (arith, last))
  reaches_behind (c ∷ n ∷ ns) zero d sorted filled last = absurd (omega (arith, last))
  reaches_behind (c ∷ n ∷ ns) (suc i) d sorted filled last =
      ap is_some (entry-append R.compare start c.value.pairs (joined (n ∷ ns)))
      ∙ at (reaches R.compare start c.value.pairs) refl (reaches R.compare start (joined (n ∷ ns))) refl
      ∙ reaches_behind (n ∷ ns) i d (sorted_right R.compare c.value.pairs (joined (n ∷ ns)) sorted) filled.1 (omega (arith, last))
    where
      ahead : reaches R.compare start (joined (n ∷ ns)) ≡ false → not (reaches R.compare start c.value.pairs) ≡ true
      ahead past =
          front_ends R start c.value.pairs (joined (n ∷ ns)) [] (subst (λ es. T (is_sorted R.compare (c.value.pairs ++ es))) (sym (append-nil (joined (n ∷ ns)))) sorted)
          (joined_filled (n ∷ ns) filled.1 (omega arith)) (ap not past)

      at : (b : Bool) → reaches R.compare start c.value.pairs ≡ b → (l : Bool) → reaches R.compare start (joined (n ∷ ns)) ≡ l
          → is_some (cond b (entry_from R.compare start c.value.pairs) (entry_from R.compare start (joined (n ∷ ns)))) ≡ reaches R.compare start (joined (n ∷ ns))
      at false past l e = refl
      at true here true e = here ∙ sym e
      at true here false e = absurd (true_or_false _ here (un_not _ (ahead e)))

module _ {K V A : Type 0} (R : Order K) where
  pub sorted_at : (cs : List (Arc (Buffer K V) A)) (i : ℕ) (d : Arc (Buffer K V) A) → T (is_sorted R.compare (joined cs)) → i < length cs → T (is_sorted R.compare (get_or cs i d).value.pairs)
  sorted_at [] i d sorted within = absurd (omega (arith, within))
  sorted_at (c ∷ cs) zero d sorted within = sorted_left R.compare c.value.pairs (joined cs) sorted
  sorted_at (c ∷ cs) (suc i) d sorted within = sorted_at cs i d (sorted_right R.compare c.value.pairs (joined cs) sorted) (omega (arith, within))

  -- what is found at a key is found in the chunk at its first chunk from the start on
  pub found_in_place : (q : K) (cs : List (Arc (Buffer K V) A)) (d : Arc (Buffer K V) A) → T (is_sorted R.compare (joined cs)) → first_chunk_from R.compare (Included q) cs < length cs
      → find R.compare q (joined cs) ≡ find R.compare q (get_or cs (first_chunk_from R.compare (Included q) cs) d).value.pairs
  found_in_place q cs d sorted within = find_same R q (joined cs) _ sorted (sorted_at cs (first_chunk_from R.compare (Included q) cs) d sorted within) (in_place R.compare (Included q) cs d within)

module _ {K V : Type 0} (R : Order K) where
  -- sorted entries reach as far as the last
  pub reaches_last : (start : Bound K) (es : List (K × V)) (i : ℕ) (d : K × V) → T (is_sorted R.compare es) → i + 1 ≡ length es → reaches R.compare start es ≡ is_from R.compare start (get_or es i d).0
  reaches_last start [] i d sorted last = absurd (omega (arith, last))
  reaches_last start (e ∷ []) i d sorted last = at (is_from R.compare start e.0) ∙ ap (λ n. is_from R.compare start (get_or (e ∷ []) n d).0) {x = 0} {y = i} (omega (arith, last))
    where
      at : (b : Bool) → is_some (cond b (Some e) None) ≡ b
      at true = refl
      at false = refl
  reaches_last start (e ∷ f ∷ es) zero d sorted last = absurd (omega (arith, last))
  reaches_last start (e ∷ f ∷ es) (suc i) d sorted last = at (is_from R.compare start e.0) refl (is_from R.compare start (get_or (f ∷ es) i d).0) refl (reaches_last start (f ∷ es) i d (right_part _ _ sorted) (omega (arith, last)))
    where
      less : R.compare e.0 (get_or (f ∷ es) i d).0 ≡ Less
      less = first_below R e.0 (f ∷ es) i d (left_part _ _ sorted) (omega (arith, last))

      at : (b : Bool) → is_from R.compare start e.0 ≡ b → (l : Bool) → is_from R.compare start (get_or (f ∷ es) i d).0 ≡ l → reaches R.compare start (f ∷ es) ≡ is_from R.compare start (get_or (f ∷ es) i d).0
          → is_some (cond b (Some e) (entry_from R.compare start (f ∷ es))) ≡ is_from R.compare start (get_or (f ∷ es) i d).0
      at false past l e rest = rest
      at true here true e rest = sym e
      at true here false e rest = absurd (true_or_false true refl (sym here ∙ earlier R start _ _ less e))

module _ {K V A : Type 0} (cmp : K → K → Ordering) where
  -- a chunk and those behind it
  pub sorted_behind : (front : List (Arc (Buffer K V) A)) (c : Arc (Buffer K V) A) (cs : List (Arc (Buffer K V) A)) → T (is_sorted cmp (joined (front ++ c ∷ cs))) → T (is_sorted cmp (c.value.pairs ++ joined cs))
  sorted_behind front c cs sorted = sorted_right cmp (joined front) (joined (c ∷ cs)) (subst (λ es. T (is_sorted cmp es)) (joined-append front (c ∷ cs)) sorted)

module _ {K V A : Type 0} (R : Order K) where
  -- no chunk in front of the first edit's first chunk from the start on has an entry from an edit's key on
  pub front_past : (front back : List (Arc (Buffer K V) A)) (es : List (KeyEdit K V)) (k : K) → KeysAscend R.compare es → ((d : KeyEdit K V) → k ≡ (slice_index_or es 0 d).key) → length front ≤ first_chunk_from R.compare (Included k) (front ++ back)
      → All (λ e. entry_from R.compare (Included e.key) (joined front) ≡ None) es
  front_past front back es k ascend first before_place i d below =
      none_later R k (slice_index_or es i d).key (joined front)
      (ap (λ l. is_lt (R.compare (slice_index_or es i d).key l)) (first d) ∙ ap (λ n. is_lt (R.compare (slice_index_or es n d).key (slice_index_or es 0 d).key)) {x = i} {y = 0 + i} (omega arith) ∙ not_earlier R.total es 0 i d ascend (omega (arith, below)))
      (none_in_front R.compare (Included k) front back before_place)

module _ {K V A : Type 0} (P : Arc (Buffer K V) A → Arc (Buffer K V) A → Type 0) (both : (a b : Arc (Buffer K V) A) → P a b → b.value ≡ a.value) where
  -- chunks that are those of others, one by one
  pub copied_joined : (xs ys : List (Arc (Buffer K V) A)) → AllZip P xs ys → joined ys ≡ joined xs
  copied_joined [] [] same = refl
  copied_joined [] (y ∷ ys) same = absurd same
  copied_joined (x ∷ xs) [] same = absurd same
  copied_joined (x ∷ xs) (y ∷ ys) same = λ i. (both x y same.0 i).pairs ++ copied_joined xs ys same.1 i

  pub copied_each : (Q : List (K × V) → Type 0) (xs ys : List (Arc (Buffer K V) A)) → AllZip P xs ys → Each Q xs → Each Q ys
  copied_each Q [] [] same all = tt
  copied_each Q [] (y ∷ ys) same all = absurd same
  copied_each Q (x ∷ xs) [] same all = absurd same
  copied_each Q (x ∷ xs) (y ∷ ys) same all = (subst (λ (v : Buffer K V). Q v.pairs) (sym (both x y same.0)) all.0, copied_each Q xs ys same.1 all.1)

  pub copied_length : (xs ys : List (Arc (Buffer K V) A)) → AllZip P xs ys → length ys ≡ length xs
  copied_length [] [] same = refl
  copied_length [] (y ∷ ys) same = absurd same
  copied_length (x ∷ xs) [] same = absurd same
  copied_length (x ∷ xs) (y ∷ ys) same = ap suc (copied_length xs ys same.1)
