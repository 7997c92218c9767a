-- The cells that checks and entries look at, one after another.
use Rattle.std.specs.Prelude.{◌≡◌, ℕ, false, List, [], ◌∷◌, ◌++◌, Contains, Option, Some, None, refl}
use Rattle.std.proofs.Common.{ap, sym, subst, append-nil, append_assoc, ◌∙◌}
use Rattle.kfs_model.specs.Access.{Client}
use Rattle.kfs_model.specs.Entry.{Entry}
use Rattle.kfs_model.specs.Sight.{Sight, ClientSight, Cell, HeaderOf, NameIn}
use Rattle.kfs_model.specs.Check.{EntryContext, Check, Reason, fault, cells, checks_of, first_failing, first_fault, looked}
use Rattle.kfs_model.specs.Run.{created_by}
use Rattle.kfs_model.specs.SeenAfter.{seen_after}
use Rattle.kfs_model.specs.Looked.{looked_from, looked_cells}
use Rattle.kfs_model.proofs.CleanIsAllowed.{AllPass}
use Rattle.kfs_judge_reads.specs.declared.draft.draft.Draft.{Draft}
use Rattle.kfs_judge_reads.specs.declared.reads.Read.{Read}
use Rattle.kfs_judge_reads.specs.declared.reads.ReadAnswer.{ReadAnswer}
use Rattle.kfs_judge_reads.specs.Draft.Overlay.{over, has_created, entry_context_of, ChangesAreAmong, AreCreated}
use Rattle.kfs_judge_reads.specs.Reads.{Always, Grows, IsPart, Within}
use Rattle.kfs_judge.proofs.CheckLemmas.Entering.{same_context}
use Rattle.kfs_judge.proofs.CheckLemmas.Failing.{failing-passes, failing-fails}
use Rattle.kfs_judge_reads.proofs.Recording.{within_same, within_then, within_wider, part_of_itself, left_is_part, right_is_part, both_are_part, none_is_part}

-- ---- checks

module _ (p : EntryContext) where
  by_fault : (check : Check) (checks : List Check) (found : Option Reason) → fault p check ≡ found → looked p (check ∷ checks) ≡ cells p check ++ elim found [ None ↦ looked p checks | Some reason ↦ [] ]
  unfolding looked
  by_fault check checks found is = ap (λ (f : Option Reason). cells p check ++ elim f as (λ _. List Cell) [ None ↦ looked p checks | Some reason ↦ [] ]) is

  pub looks_here : (check : Check) (checks : List Check) → IsPart (cells p check) (looked p (check ∷ checks))
  unfolding looked
  looks_here check checks = left_is_part (cells p check) _

  pub looks_behind : (check : Check) (checks : List Check) → fault p check ≡ None → IsPart (looked p checks) (looked p (check ∷ checks))
  looks_behind check checks pass = subst (IsPart (looked p checks)) (sym (by_fault check checks None pass)) (right_is_part (cells p check) (looked p checks))

  pub looks_at : (front : List Check) (check : Check) (back : List Check) → AllPass p (front ++ (check ∷ back)) → IsPart (cells p check) (looked p (front ++ (check ∷ back)))
  looks_at [] check back pass cell there = looks_here check back cell there
  looks_at (first ∷ front) check back pass cell there = looks_behind first (front ++ (check ∷ back)) pass.0 cell (looks_at front check back pass.1 cell there)

  -- the first group's cells, and behind them those of the second where no check of the first fails
  pub looked_groups : (front back : List Check) → looked p (front ++ back) ≡ looked p front ++ elim (first_failing p front) [ None ↦ looked p back | Some reason ↦ [] ]
  unfolding looked first_failing
  looked_groups [] back = refl
  looked_groups (check ∷ front) back = by_first (looked_groups front back) (fault p check) refl
    where
      behind : Option Reason → List Cell
      behind found = elim found [ None ↦ looked p back | Some reason ↦ [] ]

      both : List Check → List Cell
      both checks = looked p checks ++ behind (first_failing p checks)

      by_first : looked p (front ++ back) ≡ both front → (found : Option Reason) → fault p check ≡ found → looked p (check ∷ (front ++ back)) ≡ both (check ∷ front)
      by_first rest None is =
          by_fault check (front ++ back) None is ∙ ap (λ cs. cells p check ++ cs) rest ∙ sym (append_assoc (cells p check) (looked p front) (behind (first_failing p front)))
          ∙ (λ i. sym (by_fault check front None is) i ++ behind (sym (failing-passes p check front is) i))
      by_first rest (Some reason) is =
          by_fault check (front ++ back) (Some reason) is ∙ sym (append-nil (cells p check ++ []))
          ∙ (λ i. sym (by_fault check front (Some reason) is) i ++ behind (sym (failing-fails p check front reason is) i))

  pub front_is_looked : (front back : List Check) → IsPart (looked p front) (looked p (front ++ back))
  front_is_looked front back = subst (IsPart (looked p front)) (sym (looked_groups front back)) (left_is_part (looked p front) _)

  pub back_is_looked : (front back : List Check) → first_failing p front ≡ None → IsPart (looked p back) (looked p (front ++ back))
  back_is_looked front back pass = subst (IsPart (looked p back)) (sym (looked_groups front back ∙ ap (λ (found : Option Reason). looked p front ++ elim found as (λ _. List Cell) [ None ↦ looked p back | Some reason ↦ [] ]) pass)) (right_is_part (looked p front) (looked p back))

-- ---- entries

module _ {A : Type 0} where
  -- what the draft has written stays among more cells
  pub written_wider : (draft : Draft A) (few many : List Cell) → IsPart few many → ChangesAreAmong draft few → ChangesAreAmong draft many
  written_wider draft few many part written = record {
    names = λ key value is. part (NameIn key.0 key.1) (written.names key value is);
    heads = λ n value is. part (HeaderOf n) (written.heads n value is);
  }

module _ {A : Type 0} (client : Client) where
  -- in a state, what is left of the entries looks at no more than all of them, and what was read and written so far is among that
  pub record LooksAt (first reads : List (Read × ReadAnswer)) (draft : Draft A) (rest all : List Cell) : Type 0 where
    pub rest_among : IsPart rest all
    pub reads_among : Within first reads all
    pub written_among : ChangesAreAmong draft all

  pub record LooksOn (draft : Draft A) (first reads : List (Read × ReadAnswer)) (entries rest : List Entry) : Type 0 where
    pub numbers : List ℕ
    pub created : AreCreated draft numbers
    pub looks : Always reads (λ state. LooksAt first reads draft (looked_from client state numbers (over draft state.sight) rest) (looked_cells client state entries))

  module _ (draft : Draft A) (state : ClientSight) (numbers : List ℕ) (created : AreCreated draft numbers) where
    by_first : (entry : Entry) (entries : List Entry) (found : Option Reason) → first_fault (entry_context_of client draft state) entry ≡ found
        → looked_from client state numbers (over draft state.sight) (entry ∷ entries) ≡ looked (entry_context_of client draft state) (checks_of (entry_context_of client draft state) entry) ++ elim found [ None ↦ looked_from client state (created_by entry numbers) (seen_after client (over draft state.sight) entry) entries | Some reason ↦ [] ]
    unfolding looked_from
    by_first entry entries found is = ap (λ p. looked p (checks_of p entry) ++ at (first_fault p entry)) (sym (same_context client draft state numbers created)) ∙ ap (λ f. looked (entry_context_of client draft state) (checks_of (entry_context_of client draft state) entry) ++ at f) is
      where
        at : Option Reason → List Cell
        at f = elim f [ None ↦ looked_from client state (created_by entry numbers) (seen_after client (over draft state.sight) entry) entries | Some reason ↦ [] ]

    -- the cells of the entry are among those of it and all behind it
    entry_among : (entry : Entry) (entries : List Entry) → IsPart (looked (entry_context_of client draft state) (checks_of (entry_context_of client draft state) entry)) (looked_from client state numbers (over draft state.sight) (entry ∷ entries))
    entry_among entry entries = subst (IsPart (looked (entry_context_of client draft state) (checks_of (entry_context_of client draft state) entry))) (sym (by_first entry entries (first_fault (entry_context_of client draft state) entry) refl)) (left_is_part _ _)

  pub looks_first : (draft : Draft A) (reads : List (Read × ReadAnswer)) (entries : List Entry) → ((s : Sight) → over draft s ≡ s) → ((n : ℕ) → has_created draft n ≡ false) → ChangesAreAmong draft [] → LooksOn draft reads reads entries entries
  looks_first draft reads entries shown created written = record {
    numbers = [];
    created = created;
    looks = λ state agrees. record {
      rest_among = subst (λ s. IsPart (looked_from client state [] s entries) (looked_cells client state entries)) (sym (shown state.sight)) (part_of_itself (looked_cells client state entries));
      reads_among = within_same reads (looked_cells client state entries);
      written_among = written_wider draft [] (looked_cells client state entries) (none_is_part (looked_cells client state entries)) written;
    };
  }

  -- the entry passes
  pub looks_next : (old new : Draft A) (first before after : List (Read × ReadAnswer)) (entries rest : List Entry) (entry : Entry)
      → LooksOn old first before entries (entry ∷ rest)
      → Grows before after
      → Always after (λ state. first_fault (entry_context_of client old state) entry ≡ None)
      → Always after (λ state. Within before after (looked (entry_context_of client old state) (checks_of (entry_context_of client old state) entry)))
      → Always after (λ state. over new state.sight ≡ seen_after client (over old state.sight) entry)
      → ((numbers : List ℕ) → AreCreated old numbers → AreCreated new (created_by entry numbers))
      → Always after (λ state. (among : List Cell) → ChangesAreAmong old among → ChangesAreAmong new (looked (entry_context_of client old state) (checks_of (entry_context_of client old state) entry) ++ among))
      → LooksOn new first after entries rest
  looks_next old new first before after entries rest entry on grows clean read shown created written = record {
    numbers = created_by entry on.numbers;
    created = created on.numbers on.created;
    looks = λ state agrees.
        let all = looked_cells client state entries in
        let looked_here = looked (entry_context_of client old state) (checks_of (entry_context_of client old state) entry) in
        let so_far = on.looks state (grows state agrees) in
        let here : IsPart looked_here all = λ cell there. so_far.rest_among cell (entry_among old state on.numbers on.created entry rest cell there) in
        let behind = subst (λ cells. IsPart cells all) (by_first old state on.numbers on.created entry rest None (clean state agrees)) so_far.rest_among in
        record {
          rest_among = λ cell there. behind cell (right_is_part looked_here _ cell (subst (λ s. Contains (looked_from client state (created_by entry on.numbers) s rest) cell) (shown state agrees) there));
          reads_among = within_then so_far.reads_among (within_wider here (read state agrees));
          written_among = written_wider new (looked_here ++ all) all (both_are_part looked_here all all here (part_of_itself all)) (written state agrees all so_far.written_among);
        };
  }

  -- the entry is the first bad one
  pub looks_fails : (old : Draft A) (first before after : List (Read × ReadAnswer)) (entries rest : List Entry) (entry : Entry)
      → LooksOn old first before entries (entry ∷ rest)
      → Grows before after
      → Always after (λ state. Within before after (looked (entry_context_of client old state) (checks_of (entry_context_of client old state) entry)))
      → Always after (λ state. Within first after (looked_cells client state entries))
  looks_fails old first before after entries rest entry on grows read state agrees =
      let so_far = on.looks state (grows state agrees) in
      within_then so_far.reads_among (within_wider (λ cell there. so_far.rest_among cell (entry_among old state on.numbers on.created entry rest cell there)) (read state agrees))
