-- Writes one behind another, as one write.
use Rattle.std.proofs.Common.{◌≡◌, ℕ, ◌+◌, ◌-◌, ◌≤◌, List, ◌++◌, length, take, drop, sym, ap, ◌∙◌, append_assoc, arith, length-append, length-take}
use Rattle.std.proofs.lemmas.List.{take-take, drop-drop, take_at}
use Rattle.std.proofs.lemmas.Slice.{drop-append-drop}
use Rattle.kfs_journal.specs.declared.disk.File.{File}
use Rattle.kfs_journal.specs.Disk.{Files, content, other, In, Only, Torn, Holds, Follows, Elapses, LeavesOnly}
use Rattle.kfs_journal.proofs.Moments.{started, goes_on}

-- a write of nothing that a crash cuts short, wherever and however long
pub torn_none : (file : File) (at n : ℕ) (old c : Files) → c ≡ old → In file (Torn at n) old c
torn_none file at n old c is = record {
  changed = record {
    before = ap (λ (f : Files). take at (content file f)) is;
    after = ap (λ (f : Files). drop (at + n) (content file f)) is;
    no_shorter = omega (arith, ap (λ (f : Files). length (content file f)) is);
    no_longer = omega (arith, ap (λ (f : Files). length (content file f)) is);
  };
  stays = ap (λ (f : Files). content (other file) f) is;
}

-- a torn write within the range of another
torn_more : (at n at' n' : ℕ) (old d c : List ℕ) → at ≤ at' → at' + n' ≤ at + n → Torn at n old d → Torn at' n' d c → Torn at n old c
torn_more at n at' n' old d c low high first second = record {
  before = sym (take-take at at' c low) ∙ ap (λ (l : List ℕ). take at l) second.before ∙ take-take at at' d low ∙ first.before;
  after = sym (behind c) ∙ ap (λ (l : List ℕ). drop (at + n - (at' + n')) l) second.after ∙ behind d ∙ first.after;
  no_shorter = omega (arith, first.no_shorter, second.no_shorter);
  no_longer = omega (arith, first.no_longer, second.no_longer, high);
}
  where
    behind : (l : List ℕ) → drop (at + n - (at' + n')) (drop (at' + n') l) ≡ drop (at + n) l
    behind l = drop-drop (at + n - (at' + n')) (at' + n') l ∙ ap (λ (k : ℕ). drop k l) (omega (arith, high))

pub torn_then : (file : File) (at n at' n' : ℕ) (old d c : Files) → at ≤ at' → at' + n' ≤ at + n → In file (Torn at n) old d → In file (Torn at' n') d c → In file (Torn at n) old c
torn_then file at n at' n' old d c low high first second = record {
  changed = torn_more at n at' n' (content file old) (content file d) (content file c) low high first.changed second.changed;
  stays = second.stays ∙ first.stays;
}

-- bytes behind others
holds_more : (at : ℕ) (front back old mid new : List ℕ) → at ≤ length old → Holds at front old mid → Holds (at + length front) back mid new → Holds at (front ++ back) old new
holds_more at front back old mid new within first second =
    let written = take at old ++ front in
    let size : length written ≡ at + length front = omega (arith, within, length-take at old, length-append (take at old) front) in
    let parts : mid ≡ written ++ drop (at + length front) old = first in
    let before : take (at + length front) mid ≡ written = ap (λ (l : List ℕ). take (at + length front) l) parts ∙ take_at written (drop (at + length front) old) (at + length front) size in
    let after : drop (at + length front + length back) mid ≡ drop (at + length front + length back) old =
    ap (λ (l : List ℕ). drop (at + length front + length back) l) parts ∙ drop-append-drop (at + length front) old written (at + length front + length back) (omega arith) size in
    let end : drop (at + length front + length back) old ≡ drop (at + length (front ++ back)) old = ap (λ (k : ℕ). drop k old) (omega (arith, length-append front back)) in
    second
    ∙ ap (λ (l : List ℕ). l ++ back ++ drop (at + length front + length back) mid) before
    ∙ ap (λ (l : List ℕ). written ++ back ++ l) (after ∙ end)
    ∙ ap (λ (l : List ℕ). l ++ drop (at + length (front ++ back)) old) (append_assoc (take at old) front back)

pub holds_then : (file : File) (at : ℕ) (front back : List ℕ) (old mid new : Files) → at ≤ length (content file old) → In file (Holds at front) old mid → In file (Holds (at + length front) back) mid new → In file (Holds at (front ++ back)) old new
holds_then file at front back old mid new within first second = record {
  changed = holds_more at front back (content file old) (content file mid) (content file new) within first.changed second.changed;
  stays = second.stays ∙ first.stays;
}

-- what was written is there
pub holds_size : (at : ℕ) (bytes old new : List ℕ) → at ≤ length old → Holds at bytes old new → at + length bytes ≤ length new
holds_size at bytes old new within holds =
    omega (arith, within, ap length holds, length-append (take at old ++ bytes) (drop (at + length bytes) old), length-append (take at old) bytes, length-take at old)

-- ---- and what a crash leaves of them

module _ {D : Type 0} (moment : D → ℕ) (left_since : D → ℕ → Files → Type 0) (file : File) (at n : ℕ) (start : Files) (old : D) where
  -- a crash after the writes so far, and one at each moment of them, leaves one torn write
  abbrev pub TornSoFar : D → (Files → Type 0) → Type 0
  TornSoFar mid may_leave = LeavesOnly moment left_since old mid (In file (Torn at n) start) × ((c : Files) → may_leave c → In file (Torn at n) start c)

  pub none_torn : (may_leave : Files → Type 0) → Only start may_leave → ((c : Files) → left_since old (moment old) c → may_leave c) → TornSoFar old may_leave
  none_torn may_leave only only_now = (started moment left_since old (In file (Torn at n) start) (λ c left. torn_none file at n start c (only c (only_now c left))), λ c left. torn_none file at n start c (only c left))

  pub one_torn_more : (mid new : D) (before after : Files → Type 0) (at' n' : ℕ) → at ≤ at' → at' + n' ≤ at + n → TornSoFar mid before
      → Follows (In file (Torn at' n')) before after → Elapses (moment mid) (moment new) (left_since mid) (left_since new) after → TornSoFar new after
  one_torn_more mid new before after at' n' low high so_far follows time =
      let left : (c : Files) → after c → In file (Torn at n) start c = λ c now.
      let from = follows c now in
      torn_then file at n at' n' start from.0 c low high (so_far.1 from.0 from.1) from.2 in
      (goes_on moment left_since old mid new (In file (Torn at n) start) after so_far.0 time left, left)
