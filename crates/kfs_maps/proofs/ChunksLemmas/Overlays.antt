-- What an overlay shows over a table, and what its edits say.
use Rattle.std.proofs.Common.{◌≡◌, Bool, true, false, cond, List, [], ◌∷◌, map, Option, Some, None, refl, sym, ap, subst, ◌∙◌, arith}
use Rattle.std.proofs.lemmas.List.{get_or-map, length-map}
use Rattle.std.proofs.lemmas.Map.{lookup-none}
use Rattle.std.proofs.lemmas.Map.Entries.{none_past_head}
use Rattle.std.proofs.lemmas.Map.Keys.{IsDistinct-from_sorted, Less-from_sorted, sorted_tail}
use Rattle.std.specs.declared.cmp.Ordering.{Ordering}
use Rattle.std.specs.Ordering.{eq_by_cmp}
use Rattle.std.specs.Cmp.{IsTotalOrder, eq_by_cmp_equiv}
use Rattle.std.specs.List.Sorted.{IsStrictlySortedBy}
use Rattle.std.specs.Map.{lookup, keys_of}
use Rattle.std.specs.BTreeMap.{BTreeMap, get as get_slot, is_at}
use Rattle.kfs_model.specs.Table.{Order, Table, get, changed}
use Rattle.kfs_model.proofs.TableLaws.{same_table, get-changed}
use Rattle.kfs_maps.specs.declared.chunks.entries.KeyEdit.{KeyEdit}
use Rattle.kfs_maps.specs.Chunks.Edits.{edited, KeysAscend}
use Rattle.kfs_maps.specs.Chunks.Tables.{table_after}
use Rattle.kfs_maps.specs.Chunks.Overlays.{said_or, key_edits, overlaid, Say}
use Rattle.kfs_maps.proofs.ChunksLemmas.Tables.{get-table_after}

module _ {X : Type 0} where
  -- what is said now goes before what was said
  pub said_first : (b : Bool) (now : Option X) (said : Option (Option X)) (there : Option X) → said_or (cond b (Some now) said) there ≡ cond b now (said_or said there)
  said_first true now said there = refl
  said_first false now said there = refl

module _ {K X : Type 0} {cmp : K → K → Ordering} (total : IsTotalOrder cmp) where
  -- a key is said once
  pub nothing_more : (q : K) (e : K × Option X) (es : List (K × Option X)) → IsStrictlySortedBy cmp (keys_of (e ∷ es)) → eq_by_cmp cmp q e.0 ≡ true → lookup (is_at (cmp q)) es ≡ None
  nothing_more q e es sorted tied = lookup-none (is_at (cmp q)) es (none_past_head (eq_by_cmp_equiv total) q e es (IsDistinct-from_sorted cmp (keys_of (e ∷ es)) sorted) tied)

  -- the edits make of a key what was said of it
  pub key_edits_say : (es : List (K × Option X)) (q : K) (there : Option X) → IsStrictlySortedBy cmp (keys_of es) → edited cmp (key_edits es) q there ≡ said_or (lookup (is_at (cmp q)) es) there
  key_edits_say [] q there sorted = refl
  key_edits_say (e ∷ es) q there sorted =
      key_edits_say es q (cond (eq_by_cmp cmp q e.0) e.1 there) (sorted_tail cmp e.0 (keys_of es) sorted) ∙ at (eq_by_cmp cmp q e.0) refl
    where
      at : (b : Bool) → eq_by_cmp cmp q e.0 ≡ b → said_or (lookup (is_at (cmp q)) es) (cond b e.1 there) ≡ said_or (cond b (Some e.1) (lookup (is_at (cmp q)) es)) there
      at true tied = ap (λ said. said_or said e.1) (nothing_more q e es sorted tied)
      at false apart = refl

module _ {K X : Type 0} where
  keys_kept : (es : List (K × Option X)) → map (λ (e : KeyEdit K X). e.key) (key_edits es) ≡ keys_of es
  keys_kept [] = refl
  keys_kept (e ∷ es) = ap (λ keys. e.0 ∷ keys) (keys_kept es)

  pub key_edits_ascend : (cmp : K → K → Ordering) (es : List (K × Option X)) → IsStrictlySortedBy cmp (keys_of es) → KeysAscend cmp (key_edits es)
  key_edits_ascend cmp es sorted i j d less below =
      let key : KeyEdit K X → K = λ e. e.key in
      let edits = key_edits es in
      let at_i = get_or-map key edits i d d.key (omega (arith, less, below)) in
      let at_j = get_or-map key edits j d d.key below in
      let ordered = subst (IsStrictlySortedBy cmp) (sym (keys_kept es)) sorted in
      (λ k. cmp (sym at_i k) (sym at_j k)) ∙ Less-from_sorted cmp (map key edits) i j d.key ordered less (omega (arith, below, length-map edits key))

module _ {K X : Type 0} {R : Order K} where
  pub get-overlaid : (t : Table R X) (es : List (K × Option X)) (q : K) → get (overlaid t es) q ≡ said_or (lookup (is_at (R.compare q)) es) (get t q)
  unfolding overlaid
  get-overlaid t [] q = refl
  get-overlaid t (e ∷ es) q =
      get-changed (overlaid t es) e.0 e.1 q
      ∙ ap (cond (eq_by_cmp R.compare q e.0) e.1) (get-overlaid t es q)
      ∙ sym (said_first (eq_by_cmp R.compare q e.0) e.1 (lookup (is_at (R.compare q)) es) (get t q))

  -- where nothing was said, the table shows
  pub overlaid_none : (t : Table R X) (es : List (K × Option X)) → es ≡ [] → overlaid t es ≡ t
  unfolding overlaid
  overlaid_none t es none = ap (overlaid t) none

  -- what is said of a key is what stands there
  pub overlaid_set : (t : Table R X) (old new : BTreeMap K (Option X)) (k : K) (now : Option X)
      → ((q : K) → get_slot R.compare new q ≡ cond (eq_by_cmp R.compare q k) (Some now) (get_slot R.compare old q))
      → overlaid t new.entries ≡ changed (overlaid t old.entries) k now
  overlaid_set t old new k now said =
      same_table _ _ (λ q.
      get-overlaid t new.entries q
      ∙ ap (λ o. said_or o (get t q)) (said q)
      ∙ said_first (eq_by_cmp R.compare q k) now (get_slot R.compare old q) (get t q)
      ∙ ap (cond (eq_by_cmp R.compare q k) now) (sym (get-overlaid t old.entries q))
      ∙ sym (get-changed (overlaid t old.entries) k now q))

  -- a table that shows at each key what the overlay shows over another
  pub is_overlaid : (t new : Table R X) (es : List (K × Option X)) → ((q : K) → get new q ≡ said_or (lookup (is_at (R.compare q)) es) (get t q)) → new ≡ overlaid t es
  is_overlaid t new es shows = same_table _ _ (λ q. shows q ∙ sym (get-overlaid t es q))

  -- edits that say what was said make the table seen
  pub table_after_said : (t : Table R X) (edits : List (KeyEdit K X)) (latest : BTreeMap K (Option X)) → Say R.compare edits latest → table_after t edits ≡ overlaid t latest.entries
  table_after_said t edits latest says = is_overlaid t (table_after t edits) latest.entries (λ q. get-table_after t edits q ∙ says q (get t q))
