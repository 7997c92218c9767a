-- What a disk in memory tears is an outcome that it may leave.
use Rattle.std.proofs.Common.{◌≡◌, ◌⊎◌, inl, inr, ℕ, ◌+◌, ◌<◌, ◌≤◌, min, ltb, List, [], ◌∷◌, ◌++◌, length, take, drop, get_or, refl, sym, ap, subst, ◌∙◌, arith, length-append, length-take, length-drop, append_assoc}
use Rattle.std.proofs.lemmas.Bool.{cases_lt, cond-true, cond-false, le-ltb, lt-ltb}
use Rattle.std.proofs.lemmas.List.{take_at, take_min, take_more}
use Rattle.std.proofs.lemmas.Slice.{drop-append-drop}
use Rattle.kfs_journal.specs.declared.disk.File.{File}
use Rattle.kfs_journal.specs.declared.disk.File.TheVariants.{First, Second}
use Rattle.kfs_journal.specs.declared.call.Call.{Call}
use Rattle.kfs_journal.specs.declared.call.Call.TheVariants as calls
use Rattle.kfs_journal.specs.Disk.{Files, content, other, In, Torn, Cut}
use Rattle.kfs_journal.specs.Memory.{file_of, written, changed, with_content, made, MayLeave, Reaches, Since}
use Rattle.kfs_journal.specs.Tear.{Tears, IsMixed, AreReplayed}
use Rattle.kfs_journal.proofs.Moments.{same_files}
use Rattle.kfs_journal.proofs.MadeCalls.{content_with, other_with, after_last, call_more, torn_same, made_changes}

-- ---- one file

-- a write of at most n bytes is a torn one of n
pub torn_written : (at n : ℕ) (bytes old new : List ℕ) → length bytes ≤ n → new ≡ written at bytes old → Torn at n old new
torn_written at n bytes old new fits is = elim (cases_lt (length old) at) [
  | inl short ↦ subst (λ (l : List ℕ). Torn at n old l) (sym (is ∙ cond-true (ltb (length old) at) _ _ (lt-ltb _ _ short))) (torn_same at n old)
  | inr within ↦ subst (λ (l : List ℕ). Torn at n old l) (sym (is ∙ cond-false (ltb (length old) at) _ _ (le-ltb _ _ within))) (over within)
]
  where
    over : at ≤ length old → Torn at n old (take at old ++ bytes ++ drop (at + length bytes) old)
    over within =
        let back = drop (at + length bytes) old in
        let front : length (take at old) ≡ at = omega (arith, length-take at old, within) in
        let both : length (take at old ++ bytes) ≡ at + length bytes = omega (arith, length-append (take at old) bytes, front) in
        let size : length (take at old ++ bytes ++ back) ≡ at + (length bytes + length back) = omega (arith, length-append (take at old ++ bytes) back, both) in
        record {
          before = ap (λ (l : List ℕ). take at l) (append_assoc (take at old) bytes back) ∙ take_at (take at old) (bytes ++ back) at front;
          after = drop-append-drop (at + length bytes) old (take at old ++ bytes) (at + n) (omega (arith, fits)) both;
          no_shorter = omega (arith, size, length-drop (at + length bytes) old);
          no_longer = omega (arith, size, length-drop (at + length bytes) old, fits);
        }

-- so is one of some of them
pub torn_taken : (at k : ℕ) (bytes old new : List ℕ) → new ≡ written at (take k bytes) old → Torn at (length bytes) old new
torn_taken at k bytes old new is = torn_written at (length bytes) (take k bytes) old new (omega (arith, length-take k bytes)) is

pub cut_taken : (n k : ℕ) (old new : List ℕ) → n ≤ k → new ≡ take k old → Cut n old new
cut_taken n k old new le is = subst (λ (l : List ℕ). Cut n old l) (sym is) (record {
  no_shorter = omega (arith, length-take k old, le);
  front = ap (λ (m : ℕ). take m old) (length-take k old) ∙ take_min k old;
})

-- what a crash may leave of the one file that a call is for
abbrev Leaves : Call → List ℕ → List ℕ → List ℕ → Type 0
Leaves (calls.Write file at bytes) there old new = Torn at (length bytes.items) old new
Leaves (calls.Cut file len) there old new = Cut len old new
Leaves (calls.Sync file) there old new = (new ≡ old) × (old ≡ there)

-- a file that is whole or torn after a call was whole or torn before it
one_file : (call : Call) (whole torn torn_new new : List ℕ) → Tears call whole torn torn_new → (new ≡ changed call whole) ⊎ (new ≡ torn_new) → (old : List ℕ) × ((old ≡ whole) ⊎ (old ≡ torn)) × Leaves call whole old new
one_file (calls.Write file at bytes) whole torn torn_new new tears (inl is) = (whole, inl refl, torn_written at (length bytes.items) bytes.items whole new (omega arith) is)
one_file (calls.Write file at bytes) whole torn torn_new new tears (inr is) = (torn, inr refl, subst (λ (l : List ℕ). Torn at (length bytes.items) torn l) (sym is) tears)
one_file (calls.Cut file len) whole torn torn_new new tears (inl is) = (whole, inl refl, cut_taken len len whole new (omega arith) is)
one_file (calls.Cut file len) whole torn torn_new new tears (inr is) = (torn, inr refl, subst (λ (l : List ℕ). Cut len torn l) (sym is) tears)
one_file (calls.Sync file) whole torn torn_new new tears (inl is) = (whole, inl refl, (is, refl))
one_file (calls.Sync file) whole torn torn_new new tears (inr is) = (whole, inl refl, (is ∙ tears, refl))

-- ---- both files

both_files : (call : Call) (there old new : Files) → Leaves call (content (file_of call) there) (content (file_of call) old) (content (file_of call) new) → content (other (file_of call)) new ≡ content (other (file_of call)) old → MayLeave call there old new
both_files (calls.Write file at bytes) there old new leaves stays = record { changed = leaves; stays = stays }
both_files (calls.Cut file len) there old new leaves stays = record { changed = leaves; stays = stays }
both_files (calls.Sync file) there old new leaves stays = (same_files file new old leaves.0 stays, leaves.1)

this_or_other : (file g : File) → (g ≡ file) ⊎ (g ≡ other file)
this_or_other First First = inl refl
this_or_other First Second = inr refl
this_or_other Second First = inr refl
this_or_other Second Second = inl refl

pub none_replayed : (start : Files) → AreReplayed start [] start start
none_replayed start = record { there = refl; left = λ c mixed. same_files First c start (one First c mixed) (one Second c mixed) }
  where
    one : (file : File) (c : Files) → IsMixed start start c → content file c ≡ content file start
    one file c mixed = elim (mixed file) [ inl is ↦ is | inr is ↦ is ]

module _ (start : Files) (so_far : List Call) (whole torn : Files) (replayed : AreReplayed start so_far whole torn) (call : Call) (whole_new torn_new : Files) (whole_is : whole_new ≡ made call whole) (torn_is : In (file_of call) (Tears call (content (file_of call) whole)) torn torn_new) where
  abbrev file : File
  file = file_of call

  whole_changes : In file (λ old new. new ≡ changed call old) whole whole_new
  whole_changes = made_changes call whole whole_new whole_is

  mixed_before : (c : Files) → IsMixed whole_new torn_new c → (old : List ℕ) → (old ≡ content file whole) ⊎ (old ≡ content file torn) → IsMixed whole torn (with_content file old c)
  mixed_before c mixed old from g = elim (this_or_other file g) [
    | inl this ↦ subst (λ (h : File). (content h (with_content file old c) ≡ content h whole) ⊎ (content h (with_content file old c) ≡ content h torn)) (sym this) (elim from [
      | inl is ↦ inl (content_with file old c ∙ is)
      | inr is ↦ inr (content_with file old c ∙ is)
    ])
    | inr that ↦ subst (λ (h : File). (content h (with_content file old c) ≡ content h whole) ⊎ (content h (with_content file old c) ≡ content h torn)) (sym that) (elim (mixed (other file)) [
      | inl is ↦ inl (other_with file old c ∙ is ∙ whole_changes.stays)
      | inr is ↦ inr (other_with file old c ∙ is ∙ torn_is.stays)
    ])
  ]

  left_more : (c : Files) → IsMixed whole_new torn_new c → Reaches start start (so_far ++ call ∷ []) c
  left_more c mixed =
      let now : (content file c ≡ changed call (content file whole)) ⊎ (content file c ≡ content file torn_new) = elim (mixed file) [ inl is ↦ inl (is ∙ whole_changes.changed) | inr is ↦ inr is ] in
      let from = one_file call (content file whole) (content file torn) (content file torn_new) (content file c) torn_is.changed now in
      let before = with_content file from.0 c in
      let leaves : Leaves call (content file whole) (content file before) (content file c) = subst (λ (l : List ℕ). Leaves call (content file whole) l (content file c)) (sym (content_with file from.0 c)) from.2 in
      let step : MayLeave call whole before c = both_files call whole before c leaves (sym (other_with file from.0 c)) in
      call_more start start so_far call before c (replayed.left before (mixed_before c mixed from.0 from.1)) (subst (λ (f : Files). MayLeave call f before c) (sym replayed.there) step)

  pub replayed_more : AreReplayed start (so_far ++ call ∷ []) whole_new torn_new
  replayed_more = record {
    there = after_last start so_far call ∙ ap (made call) replayed.there ∙ sym whole_is;
    left = left_more;
  }

-- the law: both files torn are an outcome
pub torn_is_left : (start : Files) (so_far : List Call) (whole torn : Files) → AreReplayed start so_far whole torn → Reaches start start so_far torn
torn_is_left start so_far whole torn replayed = replayed.left torn (λ file. inr refl)

-- ---- the loop over the calls

pub replay_begun : (start whole torn : Files) → whole ≡ start → torn ≡ start → AreReplayed start [] whole torn
replay_begun start whole torn whole_is torn_is = subst (λ (w : Files). AreReplayed start [] w torn) (sym whole_is) (subst (λ (t : Files). AreReplayed start [] start t) (sym torn_is) (none_replayed start))

pub replayed_next : (start : Files) (all : List Call) (i : ℕ) (call : Call) (whole torn whole_new torn_new : Files) → i < length all → call ≡ get_or all i call → AreReplayed start (take i all) whole torn
    → whole_new ≡ made call whole → In (file_of call) (Tears call (content (file_of call) whole)) torn torn_new → AreReplayed start (take (i + 1) all) whole_new torn_new
replayed_next start all i call whole torn whole_new torn_new lt is replayed whole_is torn_is =
    let one_more : take (i + 1) all ≡ take i all ++ call ∷ [] = take_more all i call lt ∙ ap (λ (last : Call). take i all ++ last ∷ []) (sym is) in
    subst (λ (made_calls : List Call). AreReplayed start made_calls whole_new torn_new) (sym one_more) (replayed_more start (take i all) whole torn replayed call whole_new torn_new whole_is torn_is)

-- an outcome at a moment is one since each earlier moment
pub left_since : (start : Files) (all : List Call) (moment : ℕ) (c : Files) → Reaches start start (take moment all) c → (t : ℕ) → t ≤ min moment (length all) → Since start all t c
left_since start all moment c left t le = (min moment (length all), le, omega arith, subst (λ (l : List Call). Reaches start start l c) (sym (take_min moment all)) left)
