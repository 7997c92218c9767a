-- What a checkpoint under way goes on to be: with the record of a group, with the bytes of a step, and once all is written.
use Rattle.std.proofs.Common.{◌≡◌, inl, inr, ℕ, ◌+◌, ◌-◌, ◌<◌, ◌≤◌, ◌^◌, min, Vec, List, [], ◌∷◌, ◌++◌, length, take, drop, Option, Some, None, Ok, refl, sym, ap, subst, ◌∙◌, append_assoc, arith, length-append, length-take, length-drop}
use Rattle.std.specs.Prelude.{IfSome}
use Rattle.std.specs.List.{AllByRecursion}
use Rattle.std.proofs.Math.Seq.{take-add}
use Rattle.std.proofs.lemmas.List.{drop-drop, drop_at, flat_map_more, take-append-le, take_all, take_min}
use Rattle.kfs_model.specs.Judgement.{State}
use Rattle.kfs_journal.specs.declared.journal.Journal.{Journal}
use Rattle.kfs_journal.specs.declared.journal.draft.Draft.{Draft}
use Rattle.kfs_journal.specs.Disk.{Files}
use Rattle.kfs_journal.specs.Draft.{HasDraft, IsWhole}
use Rattle.kfs_journal.specs.Format.{meaning, record_bytes, records_bytes}
use Rattle.kfs_journal.specs.Journal.{IsOneOf}
use Rattle.kfs_call_desk.specs.Restore.Restored.{RestoreAnswer}
use Rattle.kfs_kept.specs.Calls.Leads.{GroupLeads}
use Rattle.kfs_kept.specs.Renewing.{IsUnderWay, KeepsAll, StaysOrEnds, whole_of}
use Rattle.kfs_kept.specs.Keeping.{Stands}
use Rattle.kfs_kept.specs.Standing.{StandFor}
use Rattle.kfs_kept.specs.declared.kept.Kept.{Kept}
use Rattle.kfs_kept.specs.declared.renewal.Renewal.{Renewal}
use Rattle.kfs_kept.proofs.Meant.{groups_more, same_stand, stand_for}

-- ---- the bytes of a step

-- what stands from a place on goes on with what stands before it
part_more : (n m : ℕ) (xs part : List ℕ) → part ≡ take m (drop n xs) → take (n + length part) xs ≡ take n xs ++ part
part_more n m xs part is =
    let len : length part ≡ min m (length (drop n xs)) = ap length is ∙ length-take m (drop n xs) in
    take-add n (length part) xs ∙ ap (λ (l : List ℕ). take n xs ++ l) (ap (λ (k : ℕ). take k (drop n xs)) len ∙ take_min m (drop n xs) ∙ sym is)

-- bytes of the state, and bytes of the records behind it
module _ (state records : List ℕ) (done : ℕ) (part : List ℕ) (most : ℕ) where
  pub state_parts : done < length state → part ≡ take most (drop done state) → take (done + length part) (state ++ records) ≡ take done (state ++ records) ++ part
  state_parts before is =
      let len : length part ≡ min most (length state - done) = ap length is ∙ length-take most (drop done state) ∙ ap (λ (k : ℕ). min most k) (length-drop done state) in
      let within : done + length part ≤ length state = omega (arith, len, before) in
      let le : done ≤ length state = omega (arith, before) in
      take-append-le (done + length part) state records within ∙ part_more done most state part is ∙ ap (λ (l : List ℕ). l ++ part) (sym (take-append-le done state records le))

  pub records_parts : length state ≤ done → part ≡ take most (drop (done - length state) records) → take (done + length part) (state ++ records) ≡ take done (state ++ records) ++ part
  records_parts behind is =
      let at : done ≡ length state + (done - length state) = omega (arith, behind) in
      let rest : drop done (state ++ records) ≡ drop (done - length state) records =
      ap (λ (n : ℕ). drop n (state ++ records)) at ∙ sym (drop-drop (done - length state) (length state) (state ++ records)) ∙ ap (λ (l : List ℕ). drop (done - length state) l) (drop_at state records (length state) refl) in
      part_more done most (state ++ records) part (is ∙ ap (λ (l : List ℕ). take most l) (sym rest))

-- ---- a group more

records_more : (groups : List (List ℕ)) (group : List ℕ) → records_bytes (groups ++ group ∷ []) ≡ records_bytes groups ++ record_bytes group
records_more groups group = sym (flat_map_more record_bytes [] groups group)

fit_more : (groups : List (List ℕ)) (group : List ℕ) → AllByRecursion (λ g. length g < 2 ^ 32) groups → length group < 2 ^ 32 → AllByRecursion (λ g. length g < 2 ^ 32) (groups ++ group ∷ [])
fit_more [] group fit fits = (fits, tt)
fit_more (first ∷ groups) group fit fits = (fit.0, fit_more groups group fit.1 fits)

-- the same lists are the same bytes
pub same_whole : {A : Type 0} (old new : Renewal A) → new.state ≡ old.state → new.records ≡ old.records → whole_of new ≡ whole_of old
same_whole old new state records = λ i. (state i).items ++ (records i).items

module _ {A : Type 0} (files : Files) (journal : Journal) where
  pub begun : (draft : Draft) (state records : Vec ℕ A) (s : State) → RestoreAnswer state.items (Ok s) → records.items ≡ [] → HasDraft files journal draft [] → draft.state_len ≡ length state.items → length state.items < 2 ^ 64
      → IsUnderWay {A = A} files journal (record { draft = draft; state = state; records = records; done = 0; known = 0 }) s
  begun draft state records s restored none written len fits = record {
    first = s;
    restored = restored;
    groups = [];
    records = none;
    fit = tt;
    lead = refl;
    written = written;
    within = omega arith;
    state_len = len;
    state_fits = fits;
  }

  pub one_more : (r : Renewal A) (records : Vec ℕ A) (s t : State) (group : List ℕ) → IsUnderWay files journal r s → GroupLeads s group t → length group < 2 ^ 32 → records.items ≡ r.records.items ++ record_bytes group
      → IsUnderWay {A = A} files journal (record { draft = r.draft; state = r.state; records = records; done = r.done; known = r.known }) t
  one_more r records s t group u leads fits is =
      let more : r.state.items ++ records.items ≡ whole_of r ++ record_bytes group = ap (λ (l : List ℕ). r.state.items ++ l) is ∙ sym (append_assoc r.state.items r.records.items (record_bytes group)) in
      let front : take r.done (r.state.items ++ records.items) ≡ take r.done (whole_of r) = ap (λ (l : List ℕ). take r.done l) more ∙ take-append-le r.done (whole_of r) (record_bytes group) u.within in
      record {
        first = u.first;
        restored = u.restored;
        groups = u.groups ++ group ∷ [];
        records = is ∙ ap (λ (l : List ℕ). l ++ record_bytes group) u.records ∙ sym (records_more u.groups group);
        fit = fit_more u.groups group u.fit fits;
        lead = groups_more u.first s t u.groups group u.lead leads;
        written = subst (λ (bytes : List ℕ). HasDraft files journal r.draft bytes) (sym front) u.written;
        within = omega (arith, u.within, ap length more, length-append (whole_of r) (record_bytes group));
        state_len = u.state_len;
        state_fits = u.state_fits;
      }

  -- ---- a step

  pub step_more : (r : Renewal A) (draft : Draft) (known : ℕ) (s : State) (state records part : List ℕ) (new : Files) → state ≡ r.state.items → records ≡ r.records.items → IsUnderWay files journal r s
      → take (r.done + length part) (state ++ records) ≡ take r.done (state ++ records) ++ part → r.done + length part ≤ length state + length records
      → ((body : List ℕ) → HasDraft files journal r.draft body → HasDraft new journal draft (body ++ part)) → draft.state_len ≡ r.draft.state_len
      → IsUnderWay {A = A} new journal (record { draft = draft; state = r.state; records = r.records; done = r.done + length part; known = known }) s
  step_more r draft known s state records part new state_is records_is u parts within longer len =
      let whole : state ++ records ≡ whole_of r = λ i. state_is i ++ records_is i in
      let next : take r.done (whole_of r) ++ part ≡ take (r.done + length part) (whole_of r) =
      subst (λ (l : List ℕ). take r.done l ++ part ≡ take (r.done + length part) l) whole (sym parts) in
      record {
        first = u.first;
        restored = u.restored;
        groups = u.groups;
        records = u.records;
        fit = u.fit;
        lead = u.lead;
        written = subst (λ (bytes : List ℕ). HasDraft new journal draft bytes) next (longer (take r.done (whole_of r)) u.written);
        within = omega (arith, within, ap length whole, length-append state records);
        state_len = len ∙ u.state_len;
        state_fits = u.state_fits;
      }

  -- ---- all is written

  pub is_whole : (r : Renewal A) (s : State) (u : IsUnderWay files journal r s) → r.done ≡ length (whole_of r) → IsWhole files journal r.draft r.state.items u.groups
  is_whole r s u all = record {
    stands = subst (λ (bytes : List ℕ). HasDraft files journal r.draft bytes) (take_all r.done (whole_of r) (omega (arith, all)) ∙ ap (λ (l : List ℕ). r.state.items ++ l) u.records) u.written;
    state_len = u.state_len;
    state_fits = u.state_fits;
    groups_fit = u.fit;
  }

  -- the file that counts then stands for the same
  pub finish_stand : (r : Renewal A) (s : State) (u : IsUnderWay files journal r s) (c : Files) → meaning c ≡ Some (r.state.items, u.groups) → StandFor c s
  finish_stand r s u c means = stand_for c (Some (r.state.items, u.groups)) s means (u.first, u.restored, u.lead)

  pub finish_moment : (r : Renewal A) (s : State) (u : IsUnderWay files journal r s) → StandFor files s → (c : Files) → IsOneOf (meaning files) (Some (r.state.items, u.groups)) c → StandFor c s
  finish_moment r s u stand c (inl same) = same_stand files c s same stand
  finish_moment r s u stand c (inr means) = finish_stand r s u c means

  pub keeps_all : (old r : Renewal A) (s : State) (u : IsUnderWay files journal r s) (found : Option (List ℕ × List (List ℕ))) → r.state ≡ old.state → r.records ≡ old.records → found ≡ Some (r.state.items, u.groups) → KeepsAll old found
  keeps_all old r s u found state records means =
      let kept : KeepsAll old (Some (r.state.items, u.groups)) = (ap (λ (v : Vec ℕ A). v.items) state, sym u.records ∙ ap (λ (v : Vec ℕ A). v.items) records) in
      subst (λ (m : Option (List ℕ × List (List ℕ))). KeepsAll old m) (sym means) kept

-- ---- a checkpoint that may be under way

pub at_some : {R : Type 0} (P : R → Type 0) (found : Option R) (r : R) → found ≡ Some r → IfSome found P → P r
at_some P found r is holds = subst (λ o. IfSome o P) is holds

-- that of a kept desk
pub of_kept : {A D : Type 0} (seen : D → Files) (may_leave : D → Files → Type 0) (kept : Kept A D) (r : Renewal A) → kept.renewal ≡ Some r → Stands seen may_leave kept → IsUnderWay (seen kept.disk) kept.journal r kept.desk.state
of_kept seen may_leave kept r is stands = at_some (λ r. IsUnderWay (seen kept.disk) kept.journal r kept.desk.state) kept.renewal r is stands.renewal

-- where journal, disk and checkpoint are as they were
pub still_stands : {A D : Type 0} (seen : D → Files) (may_leave : D → Files → Type 0) (kept : Kept A D) (journal : Journal) (disk : D) (renewal : Option (Renewal A))
    → journal ≡ kept.journal → disk ≡ kept.disk → renewal ≡ kept.renewal → Stands seen may_leave kept
    → Stands seen may_leave (record { desk = kept.desk; journal = journal; disk = disk; is_open = kept.is_open; renewal = renewal })
still_stands {A} {D} seen may_leave kept journal disk renewal same_journal same_disk same stands =
    subst (λ (k : Kept A D). Stands seen may_leave k)
    (λ i. record { desk = kept.desk; journal = sym same_journal i; disk = sym same_disk i; is_open = kept.is_open; renewal = sym same i }) stands

pub stays : {A : Type 0} (found : Option (Renewal A)) → StaysOrEnds found found
stays None = tt
stays (Some r) = (refl, refl, refl)

-- it is where its draft is
pub moved : {A : Type 0} (files new : Files) (journal new_journal : Journal) (s : State) (found other : Option (Renewal A)) → other ≡ found
    → ((draft : Draft) (bytes : List ℕ) → HasDraft files journal draft bytes → HasDraft new new_journal draft bytes)
    → IfSome found (λ r. IsUnderWay files journal r s) → IfSome other (λ r. IsUnderWay new new_journal r s)
moved {A} files new journal new_journal s found other is keeps holds = subst (λ (o : Option (Renewal A)). IfSome o (λ r. IsUnderWay new new_journal r s)) (sym is) (by_case found holds)
  where
    by_case : (o : Option (Renewal A)) → IfSome o (λ r. IsUnderWay files journal r s) → IfSome o (λ r. IsUnderWay new new_journal r s)
    by_case None holds = tt
    by_case (Some r) u = record {
      first = u.first;
      restored = u.restored;
      groups = u.groups;
      records = u.records;
      fit = u.fit;
      lead = u.lead;
      written = keeps r.draft (take r.done (whole_of r)) u.written;
      within = u.within;
      state_len = u.state_len;
      state_fits = u.state_fits;
    }
