-- What a crash leaves while the other file gets a new head.
use Rattle.std.proofs.Common.{◌≡◌, inl, inr, ℕ, ◌+◌, ◌<◌, List, [], length, take, Option, Some, None, refl, sym, ap, subst, ◌∙◌, arith}
use Rattle.std.specs.Prelude.{IfSome}
use Rattle.kfs_journal.specs.declared.disk.File.{File}
use Rattle.kfs_journal.specs.declared.disk.File.TheVariants.{First, Second}
use Rattle.kfs_journal.specs.declared.journal.Journal.{Journal}
use Rattle.kfs_journal.specs.Disk.{Files, content, other, In, Only}
use Rattle.kfs_journal.specs.Format.{Said, said_behind, said_by, newer, pair_of, meaning}
use Rattle.kfs_journal.specs.Journal.{IsBehind, IsSettled, IsFresh, IsRenewed, IsOneOf, AreEmpty}
use Rattle.kfs_journal.proofs.Heads.{head_short}
use Rattle.kfs_journal.proofs.Meaning.{said, counts, none_behind, said_is_behind, front_behind}
use Rattle.kfs_journal.proofs.Puts.{says_closed, settled_says, settled_means}

pub current_stays : (file : File) (step : List ℕ → List ℕ → Type 0) (old new : Files) → In (other file) step old new → content file new ≡ content file old
current_stays First step old new moved = moved.stays
current_stays Second step old new moved = moved.stays

pub flipped_behind : (file : File) (files : Files) (s : Said) → said_by (content file files) ≡ Some s → IsBehind (other file) (s.number + 1) (content (other (other file)) files)
flipped_behind First files s is = said_is_behind Second (s.number + 1) files.0 s is (omega arith)
flipped_behind Second files s is = said_is_behind First (s.number + 1) files.1 s is (omega arith)

-- a journal that begins with this state in this file
abbrev pub fresh_journal : File → ℕ → List ℕ → Journal
fresh_journal file number state = record { file = file; number = number; state_len = length state; end = 21 + length state }

pub fresh_settled : (file : File) (number : ℕ) (state : List ℕ) (new : Files) (may_leave : Files → Type 0) → IsFresh number state (content file new) → IsBehind file number (content (other file) new) → Only new may_leave → IsSettled new may_leave (fresh_journal file number state)
fresh_settled file number state new may_leave fresh older durable = record {
  front = fresh.front;
  state = state;
  groups = [];
  file = fresh.parts;
  says = fresh.says;
  end = sym fresh.size;
  state_len = refl;
  len = omega arith;
  older = older;
  durable = durable;
}

pub fresh_means : (file : File) (number : ℕ) (state : List ℕ) (new : Files) → IsFresh number state (content file new) → IsBehind file number (content (other file) new) → meaning new ≡ Some (state, [])
fresh_means file number state new fresh older =
    counts file new number state [] (ap (λ (l : List ℕ). said_by l) fresh.parts ∙ says_closed fresh.front number state [] 0 [] fresh.says (omega arith)) older

module _ (seen : Files) (may_leave : Files → Type 0) (journal : Journal) (s : IsSettled seen may_leave journal) (state : List ℕ) where
  abbrev file : File
  file = journal.file

  still_says : (step : List ℕ → List ℕ → Type 0) (c : Files) → In (other file) step seen c → said_by (content file c) ≡ Some (said journal.number s.state s.groups)
  still_says step c moved = ap (λ (l : List ℕ). said_by l) (current_stays file step seen c moved) ∙ settled_says seen may_leave journal s

  pub change_moment : (new_file : File) → new_file ≡ other file → (c : Files) → In new_file (IsRenewed (journal.number + 1) state) seen c → IsOneOf (meaning seen) (Some (state, [])) c
  change_moment new_file is c renewing = by_case moved.changed
    where
      moved : In (other file) (IsRenewed (journal.number + 1) state) seen c
      moved = subst (λ f. In f (IsRenewed (journal.number + 1) state) seen c) is renewing

      before : IsBehind file journal.number (content (other file) c) → IsOneOf (meaning seen) (Some (state, [])) c
      before older = inl (counts file c journal.number s.state s.groups (still_says _ c moved) older ∙ sym (settled_means seen may_leave journal s))

      by_case : IsRenewed (journal.number + 1) state (content (other file) seen) (content (other file) c) → IsOneOf (meaning seen) (Some (state, [])) c
      by_case (inl (inl cut)) = before (subst (λ (l : List ℕ). IsBehind file journal.number l) (sym cut.1) (front_behind file journal.number (content (other file) seen) cut.0 s.older))
      by_case (inl (inr none)) = before (none_behind file journal.number (content (other file) c) none)
      by_case (inr some) = inr (counts (other file) c (journal.number + 1) state [] some (flipped_behind file c (said journal.number s.state s.groups) (still_says _ c moved)))

  pub change_settled : (new_file : File) → new_file ≡ other file → (new : Files) (may_leave_new : Files → Type 0) → In new_file (λ old new. IsFresh (journal.number + 1) state new) seen new → Only new may_leave_new → IsSettled new may_leave_new (fresh_journal new_file (journal.number + 1) state)
  change_settled new_file is new may_leave_new renewed durable =
      let moved = subst (λ f. In f (λ old new. IsFresh (journal.number + 1) state new) seen new) is renewed in
      let it : IsSettled new may_leave_new (fresh_journal (other file) (journal.number + 1) state) =
      fresh_settled (other file) (journal.number + 1) state new may_leave_new moved.changed (flipped_behind file new (said journal.number s.state s.groups) (still_says _ new moved)) durable in
      subst (λ f. IsSettled new may_leave_new (fresh_journal f (journal.number + 1) state)) (sym is) it

  pub change_means : (new_file : File) → new_file ≡ other file → (new : Files) → In new_file (λ old new. IsFresh (journal.number + 1) state new) seen new → meaning new ≡ Some (state, [])
  change_means new_file is new renewed =
      let moved = subst (λ f. In f (λ old new. IsFresh (journal.number + 1) state new) seen new) is renewed in
      fresh_means (other file) (journal.number + 1) state new moved.changed (flipped_behind file new (said journal.number s.state s.groups) (still_says _ new moved))

-- ---- empty files

said_empty : said_by [] ≡ None
said_empty = ap said_behind (head_short [] (omega arith))

below_none : (o : Option Said) → IfSome o (λ s. s.number < 0) → o ≡ None
below_none None below = refl
below_none (Some s) below = absurd (omega arith)

module _ (seen : Files) (empty : AreEmpty seen) (state : List ℕ) where
  both_none : (said_by seen.0 ≡ None) × (said_by seen.1 ≡ None)
  both_none = (ap (λ (files : Files). said_by files.0) empty ∙ said_empty, ap (λ (files : Files). said_by files.1) empty ∙ said_empty)

  pub empty_means : meaning seen ≡ None
  empty_means = λ i. pair_of (newer (both_none.0 i) (both_none.1 i))

  pub create_moment : (c : Files) → In First (IsRenewed 0 state) seen c → IsOneOf None (Some (state, [])) c
  create_moment c moved = by_case moved.changed
    where
      second : said_by c.1 ≡ None
      second = ap (λ (l : List ℕ). said_by l) moved.stays ∙ both_none.1

      before : said_by c.0 ≡ None → IsOneOf None (Some (state, [])) c
      before first = inl (λ i. pair_of (newer (first i) (second i)))

      by_case : IsRenewed 0 state seen.0 c.0 → IsOneOf None (Some (state, [])) c
      by_case (inl (inl cut)) = before (ap (λ (l : List ℕ). said_by l) cut.1 ∙ below_none (said_by (take cut.0 seen.0)) (front_behind Second 0 seen.0 cut.0 (none_behind Second 0 seen.0 both_none.0)))
      by_case (inl (inr none)) = before none
      by_case (inr some) = inr (counts First c 0 state [] some (none_behind First 0 c.1 second))

  pub create_settled : (new : Files) (may_leave : Files → Type 0) → In First (λ old new. IsFresh 0 state new) seen new → Only new may_leave → IsSettled new may_leave (fresh_journal First 0 state)
  create_settled new may_leave moved durable =
      fresh_settled First 0 state new may_leave moved.changed (none_behind First 0 new.1 (ap (λ (l : List ℕ). said_by l) moved.stays ∙ both_none.1)) durable

  pub create_means : (new : Files) → In First (λ old new. IsFresh 0 state new) seen new → meaning new ≡ Some (state, [])
  create_means new moved = fresh_means First 0 state new moved.changed (none_behind First 0 new.1 (ap (λ (l : List ℕ). said_by l) moved.stays ∙ both_none.1))
