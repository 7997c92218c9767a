-- The mark of a byte that a log changed: of the last entry that covers it, or zero where its file grew.
use Rattle.std.proofs.Common.{◌≡◌, ℕ, ◌+◌, ◌-◌, Bool, true, false, cond, ◌==◌, ◌&&◌, ltb, leb, List, [], ◌∷◌, length, Option, Some, None, unwrap_or, Ok, refl, ap, subst, ◌∙◌}
use Rattle.kfs_model.specs.Access.{Client}
use Rattle.kfs_model.specs.Entry.{Entry, Create, Write, Truncate, Link, Unlink, Rename, Chmod, Regroup}
use Rattle.kfs_model.specs.LastCover.{file_size, covered_by, last_cover, start_mark}
use Rattle.kfs_model.specs.Plan.{mark_at}
use Rattle.kfs_model.specs.Run.{Mark, Base, Zero, Payload, over_marks, marked, run}
use Rattle.kfs_model.specs.Sight.{ClientSight, sight}
use Rattle.kfs_model.specs.Table.{option_or}
use Rattle.kfs_model.specs.Tree.{Tree}
use Rattle.kfs_model.proofs.Cut.{changed_mark}
use Rattle.kfs_model.proofs.LastCover.{mark_is}

-- what the growth of a file makes of a byte: it is zero behind the file's old end
abbrev pub growth_mark : {B : Type 0} → Tree B → (number place : ℕ) → Option Mark
growth_mark before number place = cond (ltb place (file_size before number)) None (Some Zero)

-- what an entry makes of a byte isn't as before
changed_of : (o : Option Mark) → Type 0
changed_of o = (m : Mark) → o ≡ Some m → changed_mark (Some m) ≡ Some m

changed_cond : (b : Bool) (m : Mark) → changed_mark (Some m) ≡ Some m → changed_of (cond b (Some m) None)
unfolding changed_of
changed_cond true m h k e = let same : m ≡ k = cc in subst (λ m. changed_mark (Some m) ≡ Some m) same h
changed_cond false m h k e = cc

changed_none : changed_of None
unfolding changed_of
changed_none m e = cc

changed_covered : (index : ℕ) (entry : Entry) (k place : ℕ) → changed_of (covered_by index entry k place)
unfolding covered_by
changed_covered index (Create d m n kind mode) k place = changed_none
changed_covered index (Write n offset payload) k place = changed_cond ((k == n) && leb offset place && ltb place (offset + length payload)) (Payload index (place - offset)) refl
changed_covered index (Truncate n size) k place = changed_cond ((k == n) && leb size place) Zero refl
changed_covered index (Link n d m) k place = changed_none
changed_covered index (Unlink d m kind) k place = changed_none
changed_covered index (Rename d m e l) k place = changed_none
changed_covered index (Chmod n mode) k place = changed_none
changed_covered index (Regroup n group) k place = changed_none

changed_or : (a b : Option Mark) → changed_of a → changed_of b → changed_of (option_or a b)
changed_or None b h i = i
changed_or (Some x) b h i = h

changed_last : (index : ℕ) (entries : List Entry) (k place : ℕ) → changed_of (last_cover index entries k place)
unfolding last_cover
changed_last index [] k place = changed_none
changed_last index (entry ∷ entries) k place = changed_or (last_cover (index + 1) entries k place) (covered_by index entry k place) (changed_last (index + 1) entries k place) (changed_covered index entry k place)

module _ (client : Client) (seen : ClientSight) (before : Tree ℕ) (entries : List Entry) (after : Tree Mark) (opens : seen.sight ≡ sight before) (ran : run over_marks client seen (marked before) entries ≡ Ok after) where
  -- the mark of a byte that the log changed: that of the last entry which covers it, and else what the growth of its file made
  pub changed_mark_is : (k place : ℕ) → changed_mark (mark_at after k place) ≡ cond (ltb place (file_size after k)) (option_or (last_cover 0 entries k place) (growth_mark before k place)) None
  unfolding changed_of
  changed_mark_is k place = ap changed_mark (mark_is client seen before entries after opens ran k place) ∙ at_end (ltb place (file_size after k))
    where
      at_start : (c : Bool) → changed_mark (Some (cond c (Base k place) Zero)) ≡ cond c None (Some Zero)
      at_start true = refl
      at_start false = refl

      at_cover : (o : Option Mark) → ((m : Mark) → o ≡ Some m → changed_mark (Some m) ≡ Some m) → changed_mark (Some (unwrap_or o (start_mark before k place))) ≡ option_or o (growth_mark before k place)
      at_cover None changed = at_start (ltb place (file_size before k))
      at_cover (Some m) changed = changed m refl

      at_end : (b : Bool) → changed_mark (cond b (Some (unwrap_or (last_cover 0 entries k place) (start_mark before k place))) None) ≡ cond b (option_or (last_cover 0 entries k place) (growth_mark before k place)) None
      at_end true = at_cover (last_cover 0 entries k place) (changed_last 0 entries k place)
      at_end false = refl
