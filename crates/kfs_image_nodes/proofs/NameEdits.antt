-- What name rows make of the names and of the counts beside them: as the overlays show it, and as the
-- edits that say the same.
use Rattle.std.proofs.Common.{◌≡◌, ℕ, ◌+◌, ◌<◌, Bool, true, false, cond, ◌==◌, List, [], ◌∷◌, Option, Some, None, count_by, refl, sym, ap, subst, ◌∙◌, arith}
use Rattle.std.specs.Prelude.{unwrap_or}
use Rattle.std.proofs.lemmas.Bool.{eqb-true}
use Rattle.std.proofs.lemmas.Cmp.{tied_itself}
use Rattle.std.proofs.lemmas.List.Sums.{sum_by-cons}
use Rattle.std.specs.declared.cmp.Ordering.{Ordering}
use Rattle.std.specs.declared.cmp.Ordering.TheVariants.{Less, Equal, Greater}
use Rattle.std.specs.Ordering.{is_eq, eq_by_cmp}
use Rattle.std.specs.FinMap.Entries.{find}
use Rattle.std.specs.BTreeMap.{BTreeMap, get as get_slot}
use Rattle.kfs_model.specs.Table.{Order, Table, numbers, get}
use Rattle.kfs_model.specs.Tree.{NameTable, name_order, entry_count}
use Rattle.kfs_maps.specs.declared.pages.change.NumberEdit as numbered
use Rattle.kfs_maps.specs.Pages.Edits as numbered_edits
use Rattle.kfs_maps.specs.Pages.Edits.{AreEdits}
use Rattle.kfs_maps.proofs.PagesLemmas.Tables.{get-rewritten}
use Rattle.kfs_maps.specs.declared.chunks.entries.KeyEdit.{KeyEdit}
use Rattle.kfs_maps.specs.Chunks.Edits.{rewritten}
use Rattle.kfs_maps.specs.Chunks.Tables.{table}
use Rattle.kfs_maps.proofs.ChunksLemmas.Tables.{get-table, find-rewritten}
use Rattle.kfs_image_nodes.specs.Indexes.{IsCounted, AreInPages, ArePositive, by_node, count_at}
use Rattle.kfs_image_nodes.specs.NodeEdits.{IsNumber}
use Rattle.kfs_maps.specs.Chunks.Overlays.{said_or, overlaid, Say}
use Rattle.kfs_image_nodes.specs.Overlays.{SayOfNumbers}
use Rattle.kfs_image_nodes.proofs.Indexes.{counted_less, counted_more, still_positive}
use Rattle.kfs_image_nodes.proofs.NodeEdits.{number_or_not, edited_beside}
use Rattle.kfs_maps.proofs.ChunksLemmas.Overlays.{get-overlaid, overlaid_set, is_overlaid}

module _ {K X : Type 0} {R : Order K} where
  -- what was read is what the table seen has at the key
  pub read_seen : (t : Table R X) (said : BTreeMap K (Option X)) (k : K) (there : Option X) → there ≡ get t k → said_or (get_slot R.compare said k) there ≡ get (overlaid t said.entries) k
  read_seen t said k there found = ap (said_or (get_slot R.compare said k)) found ∙ sym (get-overlaid t said.entries k)

module _ {K : Type 0} {R : Order K} (t : Table R ℕ) (old new : BTreeMap K (Option ℕ)) (k : K) (now : Option ℕ) where
  -- a count that was set to one less
  pub seen_less : unwrap_or now 0 + 1 ≡ count_at (overlaid t old.entries) k
      → ((q : K) → get_slot R.compare new q ≡ cond (eq_by_cmp R.compare q k) (Some now) (get_slot R.compare old q))
      → (q : K) → count_at (overlaid t new.entries) q + cond (eq_by_cmp R.compare q k) 1 0 ≡ count_at (overlaid t old.entries) q
  seen_less less said q =
      ap (λ (u : Table R ℕ). count_at u q + cond (eq_by_cmp R.compare q k) 1 0) (overlaid_set t old new k now said) ∙ counted_less (overlaid t old.entries) k now less q

  -- a count that was set to so many more
  pub seen_more : (step : ℕ) → unwrap_or now 0 ≡ count_at (overlaid t old.entries) k + step
      → ((q : K) → get_slot R.compare new q ≡ cond (eq_by_cmp R.compare q k) (Some now) (get_slot R.compare old q))
      → (q : K) → count_at (overlaid t new.entries) q ≡ count_at (overlaid t old.entries) q + cond (eq_by_cmp R.compare q k) step 0
  seen_more step more said q = ap (λ (u : Table R ℕ). count_at u q) (overlaid_set t old new k now said) ∙ counted_more (overlaid t old.entries) k now step more q

  -- counts seen are above 0 where one was set that is
  pub seen_positive : ((count : ℕ) → now ≡ Some count → 0 < count)
      → ((q : K) → get_slot R.compare new q ≡ cond (eq_by_cmp R.compare q k) (Some now) (get_slot R.compare old q))
      → ArePositive (overlaid t old.entries)
      → ArePositive (overlaid t new.entries)
  seen_positive positive said all = subst (λ (u : Table R ℕ). ArePositive u) (sym (overlaid_set t old new k now said)) (still_positive (overlaid t old.entries) k now positive all)

module _ {K X : Type 0} (R : Order K) where
  -- edits that say what was said make the table seen
  pub edited_seen : (xs : List (K × X)) (edits : List (KeyEdit K X)) (latest : BTreeMap K (Option X)) → Say R.compare edits latest → table R (rewritten R xs edits) ≡ overlaid (table R xs) latest.entries
  edited_seen xs edits latest says =
      is_overlaid (table R xs) (table R (rewritten R xs edits)) latest.entries (λ q.
      get-table R (rewritten R xs edits) q
      ∙ find-rewritten R xs edits q
      ∙ says q (find R.compare q xs)
      ∙ ap (said_or (get_slot R.compare latest q)) (sym (get-table R xs q)))

module _ {K X : Type 0} (R : Order K) (p : K → Bool) where
  -- no entry's key passes a test where nothing stands at each that does
  no_entries : (es : List (K × X)) → ((key : K) → p key ≡ true → find R.compare key es ≡ None) → count_by (λ (e : K × X). p e.0) es ≡ 0
  no_entries [] none = refl
  no_entries (e ∷ es) none = sum_by-cons (λ (x : K × X). cond (p x.0) 1 0) e es ∙ at (p e.0) refl (no_entries es (λ key is. behind key (R.compare key e.0) (none key is)))
    where
      behind : (key : K) (o : Ordering) → cond (is_eq o) (Some e.1) (find R.compare key es) ≡ None → find R.compare key es ≡ None
      behind key Less is = is
      behind key Equal is = cc
      behind key Greater is = is

      here : (o : Ordering) → o ≡ Equal → cond (is_eq o) (Some e.1) (find R.compare e.0 es) ≡ None → ⊥
      here Less tied is = cc
      here Equal tied is = cc
      here Greater tied is = cc

      at : (b : Bool) → p e.0 ≡ b → count_by (λ (x : K × X). p x.0) es ≡ 0 → cond b 1 0 + count_by (λ (x : K × X). p x.0) es ≡ 0
      at true is rest = absurd (here (R.compare e.0 e.0) (tied_itself R.total e.0) (none e.0 is))
      at false is rest = omega (arith, rest)

-- a directory that pages don't have counts no name
pub none_out_of_pages : (names : NameTable) → AreInPages names → (d : ℕ) → (IsNumber d → ⊥) → entry_count names d ≡ 0
unfolding get
none_out_of_pages names within d out = no_entries name_order (λ key. key.0 == d) names.entries (λ key is. at key (get names key) refl is)
  where
    at : (key : ℕ × List ℕ) (o : Option ℕ) → get names key ≡ o → (key.0 == d) ≡ true → o ≡ None
    at key None found is = refl
    at key (Some n) found is = absurd (out (subst IsNumber (eqb-true key.0 d is) (within key n found)))

-- edits that say what was said make counts of the names seen
pub counted_edits : (names : NameTable) (counts : Table numbers ℕ) (ways : Table by_node ℕ) → IsCounted names counts ways
    → (names_now : NameTable) (ways_now : Table by_node ℕ) (said : BTreeMap ℕ (Option ℕ)) → IsCounted names_now (overlaid counts said.entries) ways_now
    → (edits : List (numbered.NumberEdit ℕ)) → AreEdits edits → SayOfNumbers edits said
    → AreInPages names
    → AreInPages names_now
    → IsCounted names_now (numbered_edits.rewritten counts edits) ways_now
counted_edits names counts ways before names_now ways_now said now edits are says within within_now =
    record {
      positive = now.positive;
      counts = λ d.
          ap (λ o. unwrap_or o 0) (get-rewritten counts edits d)
          ∙ number_or_not d
          (λ is. ap (λ o. unwrap_or o 0) (says d (get counts d) is ∙ sym (get-overlaid counts said.entries d)) ∙ now.counts d)
          (λ out.
          ap (λ o. unwrap_or o 0) (edited_beside edits d (get counts d) are.range out)
          ∙ before.counts d
          ∙ none_out_of_pages names within d out
          ∙ sym (none_out_of_pages names_now within_now d out));
      uplinks = now.uplinks;
    }
