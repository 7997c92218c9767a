-- Sights that answer alike at a cell still do after a clean entry, where what the entry looked at was alike too.
use Rattle.std.proofs.Common.{◌≡◌, ℕ, ◌+◌, ◌==◌, Bool, true, false, cond, ℤ, pos, negsuc, ◌+ℤ◌, List, Option, Some, None, option_map, option_and_then, refl, sym, ap, subst, ◌∙◌, eqb-true}
use Rattle.kfs_model.specs.Header.{Kind, File, Directory, Header}
use Rattle.kfs_model.specs.Access.{Client}
use Rattle.kfs_model.specs.Entry.{Entry, Create, Write, Truncate, Link, Unlink, Rename, Chmod, Regroup}
use Rattle.kfs_model.specs.Sight.{Sight, Cell, HeaderOf, NameIn, CountOf, ParentOf, LeaseOn, Head, Number, Count, answer, kind_shown}
use Rattle.kfs_model.specs.FirstWrong.{same_place}
use Rattle.kfs_model.specs.SeenAfter.{put_at, put_name, put_header, put_parent, shifted, unlinked, new_header, written_size, seen_without, seen_moved, seen_renamed, seen_unlinked, seen_after}

-- what is alike at a place stays alike there
pub record Follows (now other next other_next : Sight) : Type 0 where
  pub heads : (k : ℕ) → now.head k ≡ other.head k → next.head k ≡ other_next.head k
  pub names : (d : ℕ) (m : List ℕ) → now.name d m ≡ other.name d m → next.name d m ≡ other_next.name d m
  pub counts : (d : ℕ) → now.count d ≡ other.count d → next.count d ≡ other_next.count d
  pub parents : (k : ℕ) → now.parent k ≡ other.parent k → next.parent k ≡ other_next.parent k

pub follows_cells : (held other_held : ℕ → Bool) (now other next other_next : Sight) → Follows now other next other_next → (cell : Cell)
    → answer (record { sight = now; held = held }) cell ≡ answer (record { sight = other; held = other_held }) cell
    → answer (record { sight = next; held = held }) cell ≡ answer (record { sight = other_next; held = other_held }) cell
follows_cells held other_held now other next other_next f (HeaderOf n) same = ap Head (f.heads n cc)
follows_cells held other_held now other next other_next f (NameIn d m) same = ap Number (f.names d m cc)
follows_cells held other_held now other next other_next f (CountOf d) same = ap Count (f.counts d cc)
follows_cells held other_held now other next other_next f (ParentOf n) same = ap Number (f.parents n cc)
follows_cells held other_held now other next other_next f (LeaseOn n) same = same

-- ---- the parts of a change

module _ {X : Type 0} (n k : ℕ) (x y : X) (f g : ℕ → X) where
  put_at_alike : (k ≡ n → x ≡ y) → f k ≡ g k → put_at n x f k ≡ put_at n y g k
  put_at_alike here there = at (k == n) refl
    where
      at : (b : Bool) → (k == n) ≡ b → cond b x (f k) ≡ cond b y (g k)
      at true same = here (eqb-true k n same)
      at false other = there

put_header_alike : (n : ℕ) (change : Option Header → Option Header) (f g : ℕ → Option Header) (k : ℕ) → f k ≡ g k → put_at n (change (f n)) f k ≡ put_at n (change (g n)) g k
put_header_alike n change f g k same = put_at_alike n k (change (f n)) (change (g n)) f g (λ is. ap change (ap f (sym is) ∙ same ∙ ap g is)) same

put_name_alike : (d : ℕ) (m : List ℕ) (number : Option ℕ) (f g : ℕ → List ℕ → Option ℕ) (e : ℕ) (k : List ℕ) → f e k ≡ g e k → put_name d m number f e k ≡ put_name d m number g e k
put_name_alike d m number f g e k same = ap (λ o. cond (same_place (e, k) (d, m)) number o) same

shifted_alike : (d : ℕ) (by : ℤ) (f g : ℕ → ℤ) (e : ℕ) → f e ≡ g e → shifted d by f e ≡ shifted d by g e
shifted_alike d by f g e same = ap (λ c. cond (e == d) (c +ℤ by) c) same

put_parent_alike : (kind : Kind) (n d : ℕ) (f g : ℕ → Option ℕ) (k : ℕ) → f k ≡ g k → put_parent kind n d f k ≡ put_parent kind n d g k
put_parent_alike File n d f g k same = same
put_parent_alike Directory n d f g k same = put_at_alike n k (Some d) (Some d) f g (λ is. refl) same

module _ (now other : Sight) where
  follows_itself : Follows now other now other
  follows_itself = record { heads = λ k same. same; names = λ d m same. same; counts = λ d same. same; parents = λ k same. same }

  header_follows : (n : ℕ) (change : Header → Header) → Follows now other (record now { head = put_header n change now.head }) (record other { head = put_header n change other.head })
  header_follows n change = record {
    heads = put_header_alike n (option_map change) now.head other.head;
    names = λ d m same. same;
    counts = λ d same. same;
    parents = λ k same. same;
  }

  without_follows : (d : ℕ) (m : List ℕ) (t : ℕ) → Follows now other (seen_without d m t now) (seen_without d m t other)
  without_follows d m t = record {
    heads = put_header_alike t (option_and_then unlinked) now.head other.head;
    names = put_name_alike d m None now.name other.name;
    counts = shifted_alike d (negsuc 0) now.count other.count;
    parents = λ k same. put_at_alike t k None None now.parent other.parent (λ is. refl) same;
  }

  moved_follows : (d : ℕ) (m : List ℕ) (e : ℕ) (k : List ℕ) (n : ℕ) → now.head n ≡ other.head n → Follows now other (seen_moved d m e k n now) (seen_moved d m e k n other)
  moved_follows d m e k n shown = record {
    heads = λ x same. same;
    names = λ f l same. put_name_alike e k (Some n) (put_name d m None now.name) (put_name d m None other.name) f l (put_name_alike d m None now.name other.name f l same);
    counts = λ f same. shifted_alike e (pos 1) (shifted d (negsuc 0) now.count) (shifted d (negsuc 0) other.count) f (shifted_alike d (negsuc 0) now.count other.count f same);
    parents = λ x same. put_parent_alike (kind_shown (now.head n)) n e now.parent other.parent x same ∙ ap (λ h. put_parent (kind_shown h) n e other.parent x) shown;
  }

follows_then : (now other next other_next last other_last : Sight) → Follows now other next other_next → Follows next other_next last other_last → Follows now other last other_last
follows_then now other next other_next last other_last first second = record {
  heads = λ k same. second.heads k (first.heads k same);
  names = λ d m same. second.names d m (first.names d m same);
  counts = λ d same. second.counts d (first.counts d same);
  parents = λ k same. second.parents k (first.parents k same);
}

-- ---- the entries

-- the header of the node that a Rename moves is alike, where one is moved
abbrev pub MovedAlike : Sight → Sight → Option ℕ → Option ℕ → Type 0
MovedAlike now other None there = Unit {0}
MovedAlike now other (Some n) None = now.head n ≡ other.head n
MovedAlike now other (Some n) (Some t) = (t == n) ≡ false → now.head n ≡ other.head n

module _ (client : Client) (now other : Sight) where
  renamed_follows : (d : ℕ) (m : List ℕ) (e : ℕ) (k : List ℕ) (o there : Option ℕ) → MovedAlike now other o there → Follows now other (seen_renamed d m e k o there now) (seen_renamed d m e k o there other)
  renamed_follows d m e k None there moved = follows_itself now other
  renamed_follows d m e k (Some n) None moved = moved_follows now other d m e k n moved
  renamed_follows d m e k (Some n) (Some t) moved = at (t == n) moved
    where
      at : (b : Bool) → (b ≡ false → now.head n ≡ other.head n)
          → Follows now other (cond b now (seen_moved d m e k n (seen_without e k t now))) (cond b other (seen_moved d m e k n (seen_without e k t other)))
      at true moved = follows_itself now other
      at false moved =
          let first = without_follows now other e k t in
          follows_then now other (seen_without e k t now) (seen_without e k t other) (seen_moved d m e k n (seen_without e k t now)) (seen_moved d m e k n (seen_without e k t other)) first
          (moved_follows (seen_without e k t now) (seen_without e k t other) d m e k n (first.heads n (moved refl)))

  unlinked_follows : (d : ℕ) (m : List ℕ) (o : Option ℕ) → Follows now other (seen_unlinked d m o now) (seen_unlinked d m o other)
  unlinked_follows d m None = follows_itself now other
  unlinked_follows d m (Some t) = without_follows now other d m t

  -- what must be alike for an entry's change to be alike
  abbrev pub ReadsAlike : Entry → Type 0
  ReadsAlike (Create d m n kind mode) = Unit {0}
  ReadsAlike (Write n offset payload) = Unit {0}
  ReadsAlike (Truncate n size) = Unit {0}
  ReadsAlike (Link n d m) = Unit {0}
  ReadsAlike (Unlink d m kind) = now.name d m ≡ other.name d m
  ReadsAlike (Rename d m e k) = (now.name d m ≡ other.name d m) × (now.name e k ≡ other.name e k) × MovedAlike now other (now.name d m) (now.name e k)
  ReadsAlike (Chmod n mode) = Unit {0}
  ReadsAlike (Regroup n group) = Unit {0}

  pub entry_follows : (entry : Entry) → ReadsAlike entry → Follows now other (seen_after client now entry) (seen_after client other entry)
  unfolding seen_after
  entry_follows (Create d m n kind mode) reads = record {
    heads = λ k same. put_at_alike n k (Some (new_header client kind mode)) (Some (new_header client kind mode)) now.head other.head (λ is. refl) same;
    names = put_name_alike d m (Some n) now.name other.name;
    counts = shifted_alike d (pos 1) now.count other.count;
    parents = put_parent_alike kind n d now.parent other.parent;
  }
  entry_follows (Write n offset payload) reads = header_follows now other n (λ h. record h { size = written_size offset payload h.size })
  entry_follows (Truncate n size) reads = header_follows now other n (λ h. record h { size = size })
  entry_follows (Link n d m) reads = record {
    heads = put_header_alike n (option_map (λ (h : Header). record h { links = h.links + 1 })) now.head other.head;
    names = put_name_alike d m (Some n) now.name other.name;
    counts = shifted_alike d (pos 1) now.count other.count;
    parents = λ k same. same;
  }
  entry_follows (Unlink d m kind) reads = subst (λ o. Follows now other (seen_unlinked d m (now.name d m) now) (seen_unlinked d m o other)) reads (unlinked_follows d m (now.name d m))
  entry_follows (Rename d m e k) reads =
      subst (λ o. Follows now other (seen_renamed d m e k (now.name d m) (now.name e k) now) (seen_renamed d m e k o (other.name e k) other)) reads.0
      (subst (λ there. Follows now other (seen_renamed d m e k (now.name d m) (now.name e k) now) (seen_renamed d m e k (now.name d m) there other)) reads.1
      (renamed_follows d m e k (now.name d m) (now.name e k) reads.2))
  entry_follows (Chmod n mode) reads = header_follows now other n (λ h. record h { mode = mode })
  entry_follows (Regroup n group) reads = header_follows now other n (λ h. record h { gid = group })
