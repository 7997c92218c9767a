-- Two sound trees that answer alike at the cells that a log looks at have the same need after it.
use Rattle.std.proofs.Common.{◌≡◌, ℕ, zero, suc, ◌+◌, ◌&&◌, ◌||◌, Bool, true, false, cond, List, [], ◌∷◌, ◌++◌, length, take, drop, map, filter, flat_map, Option, Some, None, option_map, is_some, ⊎_elim, refl, sym, ap, ◌∙◌}
use Rattle.std.specs.List.{AllByRecursion, list_any, slice_get}
use Rattle.std.specs.FinMap.Entries.{find, where_key}
use Rattle.kfs_model.specs.Access.{Client}
use Rattle.kfs_model.specs.MarkedRuns.{MarksEnd}
use Rattle.kfs_model.specs.Entry.{Entry}
use Rattle.kfs_model.specs.Laws.{BothFit}
use Rattle.kfs_model.specs.Limits.{block_size}
use Rattle.kfs_model.specs.Placement.{is_payload, is_zero, is_written, block_count, blocks_from, blocks_of, blocks_that, written_blocks, need}
use Rattle.kfs_model.specs.Plan.{is_base}
use Rattle.kfs_model.specs.Run.{Mark}
use Rattle.kfs_model.specs.Table.{Order, Table, changed_entries, empty, get, mapped, retain}
use Rattle.kfs_model.specs.Tree.{Tree, Node, content_of}
use Rattle.kfs_model.proofs.SameMarks.{IsOld, IsSameOrOld, runs_end}
use Rattle.kfs_model.proofs.TableLaws.{same_table, get-mapped, get-retain}
use Rattle.kfs_model.proofs.WrittenBlocks.{all_found, all_more}

-- ---- lists made of the entries of tables

-- the list, where there is something in it
abbrev filled : {Z : Type 0} → List Z → Option (List Z)
filled [] = None
filled (z ∷ zs) = Some (z ∷ zs)

module _ {K X Z : Type 0} (f : K × X → List Z) where
  -- what is made of the entry at a key, nothing where there is none
  abbrev made_at : K → Option X → List Z
  made_at key None = []
  made_at key (Some value) = f (key, value)

  only_filled : (key : K) (found : Option X) → cond (is_some (filled (made_at key found))) (option_map (λ value. f (key, value)) found) None ≡ filled (made_at key found)
  only_filled key None = refl
  only_filled key (Some value) = at (f (key, value))
    where
      at : (zs : List Z) → cond (is_some (filled zs)) (Some zs) None ≡ filled zs
      at [] = refl
      at (z ∷ zs) = refl

  none_missed : (p : K → Bool) (R : Order K) (es : List (K × X)) → AllByRecursion (λ e. p e.0 ≡ is_some (filled (f e))) es
      → flat_map (λ (e : K × List Z). e.1) (where_key R.compare p (changed_entries (λ key value. f (key, value)) es)) ≡ flat_map f es
  none_missed p R [] all = refl
  none_missed p R (e ∷ es) all = at (p e.0) (f e) all.0 (none_missed p R es all.1)
    where
      rest : List (K × List Z)
      rest = where_key R.compare p (changed_entries (λ key value. f (key, value)) es)

      at : (b : Bool) (zs : List Z) → b ≡ is_some (filled zs) → flat_map (λ (e : K × List Z). e.1) rest ≡ flat_map f es → flat_map (λ (e : K × List Z). e.1) (cond b ((e.0, zs) ∷ rest) rest) ≡ zs ++ flat_map f es
      at true zs is more = ap (λ l. zs ++ l) more
      at false [] is more = more
      at false (z ∷ zs) is more = cc

  module _ {R : Order K} where
    -- the lists that have something in them, by their keys
    kept : Table R X → Table R (List Z)
    kept t = retain (λ key. is_some (filled (made_at key (get t key)))) (mapped (λ key value. f (key, value)) t)

    get-kept : (t : Table R X) (key : K) → get (kept t) key ≡ filled (made_at key (get t key))
    unfolding kept
    get-kept t key =
        get-retain (λ key. is_some (filled (made_at key (get t key)))) (mapped (λ key value. f (key, value)) t) key
        ∙ ap (λ o. cond (is_some (filled (made_at key (get t key)))) o None) (get-mapped (λ key value. f (key, value)) t key)
        ∙ only_filled key (get t key)

    flat_map-kept : (t : Table R X) → flat_map (λ (e : K × List Z). e.1) (kept t).entries ≡ flat_map f t.entries
    unfolding kept retain mapped get
    flat_map-kept t =
        none_missed (λ key. is_some (filled (made_at key (get t key)))) R t.entries
        (all_more (λ (e : K × X). find R.compare e.0 t.entries ≡ Some e.1) (λ (e : K × X). is_some (filled (made_at e.0 (get t e.0))) ≡ is_some (filled (f e))) (λ e found. ap (λ o. is_some (filled (made_at e.0 o))) found) t.entries (all_found R t.entries t.sorted))

    -- tables of which the same is made at each key have the same made of all their entries
    flat_map-alike : (s t : Table R X) → ((key : K) → made_at key (get s key) ≡ made_at key (get t key)) → flat_map f s.entries ≡ flat_map f t.entries
    flat_map-alike s t alike =
        sym (flat_map-kept s)
        ∙ ap (λ k. flat_map (λ (e : K × List Z). e.1) k.entries) (same_table (kept s) (kept t) (λ key. get-kept s key ∙ ap filled (alike key) ∙ sym (get-kept t key)))
        ∙ flat_map-kept t

-- ---- the written blocks of a file

written_in : (n : ℕ) → List Mark → List (ℕ × ℕ)
written_in n cells = map (λ block. (n, block.0)) (filter (λ block. is_written block.1) (blocks_of cells))

no_payload : (mark : Mark) → is_base mark ≡ true → is_payload mark ≡ false
no_payload (Mark.Base n p) old = refl
no_payload Mark.Zero old = cc
no_payload (Mark.Payload e p) old = cc

no_zero : (mark : Mark) → is_base mark ≡ true → is_zero mark ≡ false
no_zero (Mark.Base n p) old = refl
no_zero Mark.Zero old = cc
no_zero (Mark.Payload e p) old = cc

-- each mark is a byte from before the log
abbrev AreOld : List Mark → Type 0
AreOld marks = AllByRecursion (λ mark. is_base mark ≡ true) marks

old_front : (count : ℕ) (marks : List Mark) → AreOld marks → AreOld (take count marks)
old_front zero marks old = tt
old_front (suc count) [] old = tt
old_front (suc count) (mark ∷ marks) old = (old.0, old_front count marks old.1)

old_behind : (count : ℕ) (marks : List Mark) → AreOld marks → AreOld (drop count marks)
old_behind zero marks old = old
old_behind (suc count) [] old = tt
old_behind (suc count) (mark ∷ marks) old = old_behind count marks old.1

each_old : (marks : List Mark) → ((place : ℕ) (mark : Mark) → slice_get marks place ≡ Some mark → is_base mark ≡ true) → AreOld marks
each_old [] old = tt
each_old (mark ∷ marks) old = (old 0 mark refl, each_old marks (λ place other is. old (suc place) other is))

none_passes : (test : Mark → Bool) → ((mark : Mark) → is_base mark ≡ true → test mark ≡ false) → (marks : List Mark) → AreOld marks → list_any test marks ≡ false
none_passes test fails [] old = refl
none_passes test fails (mark ∷ marks) old = at (test mark) (fails mark old.0) (none_passes test fails marks old.1)
  where
    at : (b : Bool) → b ≡ false → list_any test marks ≡ false → (b || list_any test marks) ≡ false
    at true is rest = cc
    at false is rest = rest

not_written : (marks : List Mark) → AreOld marks → is_written marks ≡ false
not_written marks old = at (list_any is_payload marks) (list_any is_zero marks) (none_passes is_payload no_payload marks old) (none_passes is_zero no_zero marks old)
  where
    at : (payload zeros : Bool) → payload ≡ false → zeros ≡ false → (payload || (zeros && list_any is_base marks)) ≡ false
    at true zeros is also = cc
    at false true is also = cc
    at false false is also = refl

none_chosen : (count first : ℕ) (marks : List Mark) → AreOld marks → filter (λ (block : ℕ × List Mark). is_written block.1) (blocks_from count first marks) ≡ []
none_chosen zero first marks old = refl
none_chosen (suc count) first marks old =
    at (is_written (take block_size marks)) (not_written (take block_size marks) (old_front block_size marks old)) (none_chosen count (first + 1) (drop block_size marks) (old_behind block_size marks old))
  where
    rest : List (ℕ × List Mark)
    rest = filter (λ (block : ℕ × List Mark). is_written block.1) (blocks_from count (first + 1) (drop block_size marks))

    at : (b : Bool) → b ≡ false → rest ≡ [] → cond b ((first, take block_size marks) ∷ rest) rest ≡ []
    at true is none = cc
    at false is none = none

-- a file of old bytes has no written block
none_written : (t : Tree Mark) (n : ℕ) → IsOld t n → written_in n (content_of (get t.nodes n)) ≡ []
unfolding written_in
none_written t n old =
    let cells = content_of (get t.nodes n) in
    ap (map (λ (block : ℕ × List Mark). (n, block.0))) (none_chosen (block_count (length cells)) 0 cells (each_old cells old))

-- ---- of trees

made_of : (n : ℕ) (found : Option (Node Mark)) → made_at (blocks_that is_written) n found ≡ written_in n (content_of found)
unfolding written_in
made_of n None = refl
made_of n (Some node) = refl

-- a tree of old bytes needs nothing
pub old_tree_needs_none : (t : Tree Mark) → ((n : ℕ) → IsOld t n) → need t ≡ 0
unfolding written_blocks get
old_tree_needs_none t old = ap length (flat_map-alike (blocks_that is_written) t.nodes empty (λ n. made_of n (get t.nodes n) ∙ none_written t n (old n)))

module _ (one other : Tree Mark) (files : (n : ℕ) → IsSameOrOld one other n) where
  alike_at : (n : ℕ) → written_in n (content_of (get one.nodes n)) ≡ written_in n (content_of (get other.nodes n))
  alike_at n = ⊎_elim (λ same. ap (written_in n) same) (λ old. none_written one n old.0 ∙ sym (none_written other n old.1)) (files n)

  same_written : written_blocks one ≡ written_blocks other
  unfolding written_blocks
  same_written = flat_map-alike (blocks_that is_written) one.nodes other.nodes (λ n. made_of n (get one.nodes n) ∙ alike_at n ∙ sym (made_of n (get other.nodes n)))

pub same_need : (client : Client) (one other : Tree ℕ) (entries : List Entry) → BothFit client one other entries → MarksEnd (λ after other_after. need after ≡ need other_after) client one other entries
same_need client one other entries fits held other_held alike =
    runs_end client one other entries fits held other_held alike (λ after other_after. need after ≡ need other_after) (λ after other_after files. ap length (same_written after other_after files))
