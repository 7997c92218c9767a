-- What a crash leaves while the next file is written in parts, and what it says then.
use Rattle.std.proofs.Common.{◌≡◌, inl, inr, ℕ, ◌+◌, ◌<◌, ◌≤◌, ◌^◌, List, [], ◌∷◌, ◌++◌, length, take, drop, Some, None, refl, sym, ap, subst, ◌∙◌, append_assoc, arith, length-append, take-append-drop}
use Rattle.std.specs.Int.{w32, w64, to_be_bytes}
use Rattle.std.specs.List.{AllByRecursion}
use Rattle.std.proofs.lemmas.Bool.{cases_eq}
use Rattle.std.proofs.lemmas.List.{append-nil, take_all, drop_all, take_at, take-take}
use Rattle.std.proofs.lemmas.List.Sums.{sum_by-cons}
use Rattle.kfs_journal.specs.declared.disk.File.{File}
use Rattle.kfs_journal.specs.declared.disk.File.TheVariants.{First, Second}
use Rattle.kfs_journal.specs.declared.journal.Journal.{Journal}
use Rattle.kfs_journal.specs.declared.journal.draft.Draft.{Draft}
use Rattle.kfs_journal.specs.Disk.{Files, content, other, In, Only, Torn, Holds}
use Rattle.kfs_journal.specs.Draft.{HasDraft}
use Rattle.kfs_journal.specs.Format.{said_by, meaning, AreRecords, recovered, before_gate, behind_gate, record_bytes, records_bytes, records_len}
use Rattle.kfs_journal.specs.Journal.{Says, IsBehind, IsLess, IsSettled, IsOneOf}
use Rattle.kfs_journal.proofs.Changes.{flipped_behind}
use Rattle.kfs_journal.proofs.Gates.{torn_gate, written_gate}
use Rattle.kfs_journal.proofs.Meaning.{said, counts, none_behind, front_behind, says_more}
use Rattle.kfs_journal.proofs.Puts.{says_closed, settled_says, settled_means, record_are}
use Rattle.kfs_journal.proofs.Renewal.{fresh_says, gate_shut, gate_size}

-- ---- bytes

pub appended : (at : ℕ) (bytes old new : List ℕ) → at ≡ length old → Holds at bytes old new → new ≡ old ++ bytes
appended at bytes old new size holds =
    holds
    ∙ ap (λ (l : List ℕ). l ++ bytes ++ drop (at + length bytes) old) (take_all at old (omega (arith, size)))
    ∙ ap (λ (l : List ℕ). old ++ bytes ++ l) (drop_all (at + length bytes) old (omega (arith, size)))
    ∙ append-nil (old ++ bytes)

pub closed_size : (number : ℕ) (bytes : List ℕ) → bytes ≡ before_gate number ++ 0 ∷ [] → 13 ≡ length bytes
closed_size number bytes is = omega (arith, ap length is, length-append (before_gate number) (0 ∷ []), gate_size number)

-- a closed gate stays where a write behind it is torn
pub still_shut : (number at n : ℕ) (rest old c : List ℕ) → old ≡ before_gate number ++ 0 ∷ rest → 13 ≤ at → Torn at n old c → said_by c ≡ None
still_shut number at n rest old c is behind torn =
    let gate = before_gate number ++ 0 ∷ [] in
    let thirteen : length gate ≡ 13 = omega (arith, length-append (before_gate number) (0 ∷ []), gate_size number) in
    let was : take 13 old ≡ gate = ap (λ (l : List ℕ). take 13 l) (is ∙ sym (append_assoc (before_gate number) (0 ∷ []) rest)) ∙ take_at gate rest 13 thirteen in
    let front : take 13 c ≡ gate = sym (take-take 13 at c behind) ∙ ap (λ (l : List ℕ). take 13 l) torn.before ∙ take-take 13 at old behind ∙ was in
    let parts : c ≡ before_gate number ++ 0 ∷ drop 13 c =
    sym (take-append-drop 13 c) ∙ ap (λ (l : List ℕ). l ++ drop 13 c) front ∙ append_assoc (before_gate number) (0 ∷ []) (drop 13 c) in
    ap (λ (l : List ℕ). said_by l) parts ∙ gate_shut number 0 (drop 13 c) (omega arith)

records_are : (groups : List (List ℕ)) → AllByRecursion (λ group. length group < 2 ^ 32) groups → AreRecords (records_bytes groups) groups
records_are [] fit more = refl
records_are (group ∷ groups) fit more =
    ap (λ (l : List ℕ). recovered l) (append_assoc (record_bytes group) (records_bytes groups) more) ∙ record_are group fit.0 (records_bytes groups ++ more) ∙ ap (λ (gs : List (List ℕ)). group ∷ gs) (records_are groups fit.1 more)

records_size : (groups : List (List ℕ)) → length (records_bytes groups) ≡ records_len groups
records_size [] = refl
records_size (group ∷ groups) = omega (arith, records_size groups, length-append (record_bytes group) (records_bytes groups), length-append (to_be_bytes w32 (length group)) group, sum_by-cons (λ (g : List ℕ). length g + 5) group groups)

-- ---- files

other_twice : (file : File) → other (other file) ≡ file
other_twice First = refl
other_twice Second = refl

-- a step of the other file leaves this one
pub stays_of : (file new_file : File) (c d : Files) → new_file ≡ other file → content (other new_file) c ≡ content (other new_file) d → content file c ≡ content file d
stays_of file new_file c d is stays = subst (λ (f : File). content f c ≡ content f d) (ap other is ∙ other_twice file) stays

module _ (seen : Files) (may_leave : Files → Type 0) (journal : Journal) (s : IsSettled seen may_leave journal) (new_file : File) (is : new_file ≡ other journal.file) where
  abbrev file : File
  file = journal.file

  -- the other file is behind
  abbrev Behind : List ℕ → Type 0
  Behind bytes = IsBehind file journal.number bytes

  behind : (c : Files) → Behind (content new_file c) → Behind (content (other file) c)
  behind c older = subst (λ (f : File). Behind (content f c)) is older

  still_says : (c : Files) → content (other new_file) c ≡ content (other new_file) seen → said_by (content file c) ≡ Some (said journal.number s.state s.groups)
  still_says c stays = ap (λ (l : List ℕ). said_by l) (stays_of file new_file c seen is stays) ∙ settled_says seen may_leave journal s

  pub still_means : (c : Files) → content (other new_file) c ≡ content (other new_file) seen → Behind (content new_file c) → meaning c ≡ meaning seen
  still_means c stays older = counts file c journal.number s.state s.groups (still_says c stays) (behind c older) ∙ sym (settled_means seen may_leave journal s)

  pub shut_means : (c : Files) → content (other new_file) c ≡ content (other new_file) seen → said_by (content new_file c) ≡ None → meaning c ≡ meaning seen
  shut_means c stays none = still_means c stays (none_behind file journal.number (content new_file c) none)

  pub still_settled : (c : Files) (may_leave_c : Files → Type 0) → content (other new_file) c ≡ content (other new_file) seen → said_by (content new_file c) ≡ None → Only c may_leave_c → IsSettled c may_leave_c journal
  still_settled c may_leave_c stays none durable = record {
    front = s.front;
    state = s.state;
    groups = s.groups;
    file = stays_of file new_file c seen is stays ∙ s.file;
    says = s.says;
    end = s.end;
    state_len = s.state_len;
    len = s.len;
    older = behind c (none_behind file journal.number (content new_file c) none);
    durable = durable;
  }

  -- ---- as a draft

  pub draft_is : (files : Files) (draft : Draft) (bytes : List ℕ) → HasDraft files journal draft bytes → content new_file files ≡ before_gate (journal.number + 1) ++ 0 ∷ (to_be_bytes w64 draft.state_len ++ bytes)
  draft_is files draft bytes d = subst (λ (f : File). content f files ≡ before_gate (journal.number + 1) ++ 0 ∷ (to_be_bytes w64 draft.state_len ++ bytes)) (sym is) d.file

  pub draft_size : (files : Files) (draft : Draft) (bytes : List ℕ) → HasDraft files journal draft bytes → draft.end ≡ length (content new_file files)
  draft_size files draft bytes d =
      let number = journal.number + 1 in
      let len8 = to_be_bytes w64 draft.state_len in
      omega (arith, d.end, ap length (draft_is files draft bytes d), length-append (before_gate number) (0 ∷ (len8 ++ bytes)), gate_size number, length-append len8 bytes)

  pub has_draft : (draft : Draft) (bytes rest : List ℕ) (files : Files) → journal.number + 1 < 2 ^ 64 → content new_file files ≡ before_gate (journal.number + 1) ++ 0 ∷ rest
      → rest ≡ to_be_bytes w64 draft.state_len ++ bytes → draft.end ≡ 21 + length bytes → HasDraft files journal draft bytes
  has_draft draft bytes rest files number file rest_is end = record {
    number = number;
    file = subst (λ (f : File). content f files ≡ before_gate (journal.number + 1) ++ 0 ∷ (to_be_bytes w64 draft.state_len ++ bytes)) is (file ∙ ap (λ (l : List ℕ). before_gate (journal.number + 1) ++ 0 ∷ l) rest_is);
    end = end;
  }

  -- ---- begun

  pub less_means : (c : Files) → In new_file IsLess seen c → meaning c ≡ meaning seen
  less_means c less = still_means c less.stays (by_case less.changed)
    where
      was : Behind (content new_file seen)
      was = subst (λ (f : File). Behind (content f seen)) (sym is) s.older

      by_case : IsLess (content new_file seen) (content new_file c) → Behind (content new_file c)
      by_case (inl cut) = subst (λ (l : List ℕ). Behind l) (sym cut.1) (front_behind file journal.number (content new_file seen) cut.0 was)
      by_case (inr none) = none_behind file journal.number (content new_file c) none

  -- ---- written behind the closed gate

  module _ (number : ℕ) (rest : List ℕ) (old : Files) (old_is : content new_file old ≡ before_gate number ++ 0 ∷ rest) (old_stays : content (other new_file) old ≡ content (other new_file) seen) where
    pub behind_means : (at n : ℕ) (c : Files) → 13 ≤ at → In new_file (Torn at n) old c → meaning c ≡ meaning seen
    behind_means at n c le torn = shut_means c (torn.stays ∙ old_stays) (still_shut number at n rest (content new_file old) (content new_file c) old_is le torn.changed)

    module _ (at : ℕ) (bytes : List ℕ) (new : Files) (size : at ≡ length (content new_file old)) (written : In new_file (Holds at bytes) old new) where
      pub longer : content new_file new ≡ before_gate number ++ 0 ∷ (rest ++ bytes)
      longer = appended at bytes (content new_file old) (content new_file new) size written.changed ∙ ap (λ (l : List ℕ). l ++ bytes) old_is ∙ append_assoc (before_gate number) (0 ∷ rest) bytes

      none : said_by (content new_file new) ≡ None
      none = ap (λ (l : List ℕ). said_by l) longer ∙ gate_shut number 0 (rest ++ bytes) (omega arith)

      pub longer_means : meaning new ≡ meaning seen
      longer_means = shut_means new (written.stays ∙ old_stays) none

      pub longer_settled : (may_leave_new : Files → Type 0) → Only new may_leave_new → IsSettled new may_leave_new journal
      longer_settled may_leave_new durable = still_settled new may_leave_new (written.stays ∙ old_stays) none durable

  -- ---- finished

  module _ (number : ℕ) (number_fits : number < 2 ^ 64) (is_next : number ≡ journal.number + 1) (state : List ℕ) (groups : List (List ℕ)) (len : ℕ) (len_is : len ≡ length state) (state_fits : length state < 2 ^ 64) (fit : AllByRecursion (λ group. length group < 2 ^ 32) groups) where
    abbrev front : List ℕ
    front = (before_gate number ++ 1 ∷ behind_gate state) ++ records_bytes groups

    abbrev body : List ℕ
    body = (to_be_bytes w64 len ++ (state ++ records_bytes groups)) ++ 0 ∷ []

    says : Says front number state groups
    says = says_more (before_gate number ++ 1 ∷ behind_gate state) number state [] (records_bytes groups) groups (fresh_says number state number_fits state_fits) (records_are groups fit)

    parts : before_gate number ++ 1 ∷ body ≡ front ++ 0 ∷ []
    parts =
        sym (ap (λ (l : List ℕ). l ++ 0 ∷ []) (append_assoc (before_gate number) (1 ∷ behind_gate state) (records_bytes groups))
        ∙ append_assoc (before_gate number) (1 ∷ (behind_gate state ++ records_bytes groups)) (0 ∷ [])
        ∙ ap (λ (l : List ℕ). before_gate number ++ 1 ∷ (l ++ 0 ∷ [])) (append_assoc (to_be_bytes w64 (length state)) state (records_bytes groups))
        ∙ ap (λ (k : ℕ). before_gate number ++ 1 ∷ ((to_be_bytes w64 k ++ (state ++ records_bytes groups)) ++ 0 ∷ [])) (sym len_is))

    open_says : (c : Files) → content new_file c ≡ before_gate number ++ 1 ∷ body → said_by (content new_file c) ≡ Some (said number state groups)
    open_says c c_is = ap (λ (l : List ℕ). said_by l) (c_is ∙ parts) ∙ says_closed front number state groups 0 [] says (omega arith)

    older : (c : Files) → content (other new_file) c ≡ content (other new_file) seen → IsBehind new_file number (content (other new_file) c)
    older c stays =
        let it : IsBehind (other file) (journal.number + 1) (content (other (other file)) c) = flipped_behind file c (said journal.number s.state s.groups) (still_says c stays) in
        let there : IsBehind new_file (journal.number + 1) (content (other new_file) c) = subst (λ (f : File). IsBehind f (journal.number + 1) (content (other f) c)) (sym is) it in
        subst (λ (n : ℕ). IsBehind new_file n (content (other new_file) c)) (sym is_next) there

    open_means : (c : Files) → content (other new_file) c ≡ content (other new_file) seen → content new_file c ≡ before_gate number ++ 1 ∷ body → meaning c ≡ Some (state, groups)
    open_means c stays c_is = counts new_file c number state groups (open_says c c_is) (older c stays)

    module _ (old : Files) (old_is : content new_file old ≡ before_gate number ++ 0 ∷ body) (old_stays : content (other new_file) old ≡ content (other new_file) seen) where
      pub finish_moment : (c : Files) → In new_file (Torn 12 1) old c → IsOneOf (meaning seen) (Some (state, groups)) c
      finish_moment c torn =
          let gate = torn_gate (before_gate number) 12 (gate_size number) body (content new_file c) (subst (λ (l : List ℕ). Torn 12 1 l (content new_file c)) old_is torn.changed) in
          elim (cases_eq gate.0 1) [
            | inl is_open ↦ inr (open_means c (torn.stays ∙ old_stays) (gate.1 ∙ ap (λ (g : ℕ). before_gate number ++ g ∷ body) is_open))
            | inr shut ↦ inl (shut_means c (torn.stays ∙ old_stays) (ap (λ (l : List ℕ). said_by l) gate.1 ∙ gate_shut number gate.0 body shut))
          ]

      module _ (new : Files) (written : In new_file (Holds 12 (1 ∷ [])) old new) where
        opened : content new_file new ≡ before_gate number ++ 1 ∷ body
        opened = written_gate (before_gate number) 12 (gate_size number) body (content new_file new) (subst (λ (l : List ℕ). Holds 12 (1 ∷ []) l (content new_file new)) old_is written.changed)

        pub finish_means : meaning new ≡ Some (state, groups)
        finish_means = open_means new (written.stays ∙ old_stays) opened

        pub finish_settled : (end : ℕ) (may_leave_new : Files → Type 0) → end ≡ 21 + length (state ++ records_bytes groups) → Only new may_leave_new → IsSettled new may_leave_new (record { file = new_file; number = number; state_len = len; end = end })
        finish_settled end may_leave_new size durable = record {
          front = front;
          state = state;
          groups = groups;
          file = opened ∙ parts;
          says = says;
          end = omega (arith, size, length-append state (records_bytes groups), length-append (before_gate number ++ 1 ∷ behind_gate state) (records_bytes groups), length-append (before_gate number) (1 ∷ behind_gate state), gate_size number, length-append (to_be_bytes w64 (length state)) state);
          state_len = len_is;
          len = omega (arith, size, length-append state (records_bytes groups), records_size groups);
          older = older new (written.stays ∙ old_stays);
          durable = durable;
        }
