-- One more call joins those that two files in memory have had.
use Rattle.std.proofs.Common.{◌≡◌, inl, inr, ℕ, ◌≤◌, ltb, List, [], ◌∷◌, ◌++◌, length, refl, sym, ap, subst, ◌∙◌, arith, length-append}
use Rattle.std.specs.Prelude.{Vec}
use Rattle.std.specs.declared.alloc.Global.{Global}
use Rattle.std.proofs.lemmas.Bool.{cases_lt, cond-false, le-ltb}
use Rattle.std.proofs.lemmas.List.{take_all, take-append-le}
use Rattle.kfs_journal.specs.declared.disk.File.{File}
use Rattle.kfs_journal.specs.declared.disk.File.TheVariants.{First, Second}
use Rattle.kfs_journal.specs.declared.call.Call.{Call}
use Rattle.kfs_journal.specs.declared.call.Call.TheVariants as calls
use Rattle.kfs_journal.specs.declared.memory.MemoryDisk.{MemoryDisk}
use Rattle.kfs_journal.specs.Disk.{Files, content, other, In, Holds, Torn, Cut, Elapses}
use Rattle.kfs_journal.specs.Memory.{file_of, changed, with_content, made, after, MayLeave, Reaches, Since, memory_start, memory_seen, memory_may_leave}

pub content_with : (file : File) (bytes : List ℕ) (files : Files) → content file (with_content file bytes files) ≡ bytes
content_with First bytes files = refl
content_with Second bytes files = refl

pub other_with : (file : File) (bytes : List ℕ) (files : Files) → content (other file) (with_content file bytes files) ≡ content (other file) files
other_with First bytes files = refl
other_with Second bytes files = refl

pub with_same : (file : File) (files : Files) → with_content file (content file files) files ≡ files
with_same First files = refl
with_same Second files = refl

pub after_last : (files : Files) (calls : List Call) (call : Call) → after files (calls ++ call ∷ []) ≡ made call (after files calls)
after_last files [] call = refl
after_last files (first ∷ calls) call = after_last (made first files) calls call

-- what is left after one call more was left before it, and that call may leave it
pub last_call : (there old : Files) (calls : List Call) (call : Call) (c : Files) → Reaches there old (calls ++ call ∷ []) c → (d : Files) × Reaches there old calls d × MayLeave call (after there calls) d c
last_call there old [] call c reaches = (old, refl, subst (λ (e : Files). MayLeave call there old e) (sym reaches.2) reaches.1)
last_call there old (first ∷ calls) call c reaches =
    let rest = last_call (made first there) reaches.0 calls call c reaches.2 in
    (rest.0, (reaches.0, reaches.1, rest.1), rest.2)

-- and the other way round
pub call_more : (there old : Files) (calls : List Call) (call : Call) (d c : Files) → Reaches there old calls d → MayLeave call (after there calls) d c → Reaches there old (calls ++ call ∷ []) c
call_more there old [] call d c reaches leaves = (c, subst (λ (e : Files). MayLeave call there e c) reaches leaves, refl)
call_more there old (first ∷ calls) call d c reaches leaves = (reaches.0, reaches.1, call_more (made first there) reaches.0 calls call d c reaches.2 leaves)

-- ---- the moments

pub nothing_made : (start : Files) (calls : List Call) (may_leave : Files → Type 0) → Elapses (length calls) (length calls) (Since start calls) (Since start calls) may_leave
nothing_made start calls may_leave = record { later = omega arith; nothing_else = λ t c le since. inl since; keeps = λ t c le since. since }

pub one_made : (start : Files) (calls : List Call) (call : Call) → Elapses (length calls) (length (calls ++ call ∷ [])) (Since start calls) (Since start (calls ++ call ∷ [])) (Reaches start start (calls ++ call ∷ []))
one_made start calls call = record {
  later = omega (arith, length-append calls (call ∷ []));
  nothing_else = λ t c le since. elim (cases_lt (length calls) since.0) [
    | inl all ↦ inr (subst (λ (l : List Call). Reaches start start l c) (take_all since.0 (calls ++ call ∷ []) (omega (arith, all, length-append calls (call ∷ [])))) since.3)
    | inr some ↦ inl (since.0, since.1, some, subst (λ (l : List Call). Reaches start start l c) (take-append-le since.0 calls (call ∷ []) some) since.3)
  ];
  keeps = λ t c le since. (since.0, since.1, omega (arith, since.2, length-append calls (call ∷ [])), subst (λ (l : List Call). Reaches start start l c) (sym (take-append-le since.0 calls (call ∷ []) since.2)) since.3);
}

-- ---- a disk that had a call, and one that had none

module _ (old new : MemoryDisk) (start : memory_start new ≡ memory_start old) (call : Call) (is : new.calls.items ≡ old.calls.items ++ call ∷ []) where
  pub seen_more : memory_seen new ≡ made call (memory_seen old)
  seen_more = ap (λ (s : Files). after s new.calls.items) start ∙ ap (λ (l : List Call). after (memory_start old) l) is ∙ after_last (memory_start old) old.calls.items call

  pub crash_more : (c : Files) → memory_may_leave new c → (d : Files) × memory_may_leave old d × MayLeave call (memory_seen old) d c
  crash_more c left =
      let from : Reaches (memory_start old) (memory_start old) new.calls.items c = subst (λ (s : Files). Reaches s s new.calls.items c) start left in
      last_call (memory_start old) (memory_start old) old.calls.items call c (subst (λ (l : List Call). Reaches (memory_start old) (memory_start old) l c) is from)

  pub time_more : Elapses (length old.calls.items) (length new.calls.items) (Since (memory_start old) old.calls.items) (Since (memory_start new) new.calls.items) (memory_may_leave new)
  time_more =
      let it : Elapses (length old.calls.items) (length new.calls.items) (Since (memory_start new) old.calls.items) (Since (memory_start new) new.calls.items) (memory_may_leave new) =
      subst (λ (l : List Call). Elapses (length old.calls.items) (length l) (Since (memory_start new) old.calls.items) (Since (memory_start new) l) (Reaches (memory_start new) (memory_start new) l)) (sym is) (one_made (memory_start new) old.calls.items call) in
      subst (λ (s : Files). Elapses (length old.calls.items) (length new.calls.items) (Since s old.calls.items) (Since (memory_start new) new.calls.items) (memory_may_leave new)) start it

module _ (old new : MemoryDisk) (start : memory_start new ≡ memory_start old) (same : new.calls.items ≡ old.calls.items) where
  pub seen_same : memory_seen new ≡ memory_seen old
  seen_same = ap (λ (s : Files). after s new.calls.items) start ∙ ap (λ (l : List Call). after (memory_start old) l) same

  pub crash_same : (c : Files) → memory_may_leave new c → memory_may_leave old c
  crash_same c left = subst (λ (l : List Call). Reaches (memory_start old) (memory_start old) l c) same (subst (λ (s : Files). Reaches s s new.calls.items c) start left)

  pub time_same : Elapses (length old.calls.items) (length new.calls.items) (Since (memory_start old) old.calls.items) (Since (memory_start new) new.calls.items) (memory_may_leave new)
  time_same =
      let it : Elapses (length old.calls.items) (length new.calls.items) (Since (memory_start new) old.calls.items) (Since (memory_start new) new.calls.items) (memory_may_leave new) =
      subst (λ (l : List Call). Elapses (length l) (length new.calls.items) (Since (memory_start new) l) (Since (memory_start new) new.calls.items) (memory_may_leave new)) same (nothing_made (memory_start new) new.calls.items (memory_may_leave new)) in
      subst (λ (s : Files). Elapses (length old.calls.items) (length new.calls.items) (Since s old.calls.items) (Since (memory_start new) new.calls.items) (memory_may_leave new)) start it

-- ---- what a call does, and what it may have done where it wasn't made

pub made_changes : (call : Call) (files new : Files) → new ≡ made call files → In (file_of call) (λ old new. new ≡ changed call old) files new
made_changes call files new is = record {
  changed = ap (λ (f : Files). content (file_of call) f) is ∙ content_with (file_of call) (changed call (content (file_of call) files)) files;
  stays = ap (λ (f : Files). content (other (file_of call)) f) is ∙ other_with (file_of call) (changed call (content (file_of call) files)) files;
}

pub write_changes : (file : File) (at : ℕ) (copy : Vec ℕ Global) (bytes : List ℕ) → copy.items ≡ bytes → (files new : Files) → at ≤ length (content file files) → new ≡ made (calls.Write file at copy) files → In file (Holds at bytes) files new
write_changes file at copy bytes same files new within is =
    let moved = made_changes (calls.Write file at copy) files new is in
    let holds : Holds at copy.items (content file files) (content file new) = moved.changed ∙ cond-false (ltb (length (content file files)) at) _ _ (le-ltb _ _ within) in
    record { changed = subst (λ (l : List ℕ). Holds at l (content file files) (content file new)) same holds; stays = moved.stays }

pub torn_same : (at n : ℕ) (old : List ℕ) → Torn at n old old
torn_same at n old = record { before = refl; after = refl; no_shorter = omega arith; no_longer = omega arith }

pub cut_same : (n : ℕ) (old : List ℕ) → Cut n old old
cut_same n old = record { no_shorter = omega arith; front = take_all (length old) old (omega arith) }

-- a disk that failed may have had the call in part, or not
pub torn_nothing : (file : File) (at n : ℕ) (old : Files → Type 0) (c : Files) → old c → (d : Files) × old d × In file (Torn at n) d c
torn_nothing file at n old c left = (c, left, record { changed = torn_same at n (content file c); stays = refl })

pub cut_nothing : (file : File) (n : ℕ) (old : Files → Type 0) (c : Files) → old c → (d : Files) × old d × In file (Cut n) d c
cut_nothing file n old c left = (c, left, record { changed = cut_same n (content file c); stays = refl })
