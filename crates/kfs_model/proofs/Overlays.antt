-- The overlay after an entry shows what the entry's change of cells shows.
use Rattle.std.proofs.Common.{◌≡◌, ℕ, ◌+◌, ◌==◌, Bool, true, false, cond, ℤ, pos, negsuc, ◌+ℤ◌, List, Option, Some, None, option_map, option_and_then, unwrap_or, refl, ap, subst, ◌∙◌, arith}
use Rattle.std.proofs.lemmas.Int.{ints}
use Rattle.kfs_model.specs.Header.{Kind, File, Directory, Header}
use Rattle.kfs_model.specs.Access.{Client}
use Rattle.kfs_model.specs.Entry.{Entry, Create, Write, Truncate, Link, Unlink, Rename, Chmod, Regroup}
use Rattle.kfs_model.specs.Sight.{Sight, kind_shown}
use Rattle.kfs_model.specs.FirstWrong.{same_place}
use Rattle.kfs_model.specs.SeenAfter.{put_at, put_name, put_header, put_of_directory, shifted, unlinked, seen_without, seen_moved, seen_renamed, seen_unlinked, seen_after, new_header, written_size}
use Rattle.kfs_model.proofs.Overlay.{Overlay, nothing_put, over, laid_header, laid_without, laid_moved, laid_renamed, laid_unlinked, laid_after}

-- ---- one cell put

module _ {X : Type 0} where
  over_put : (n : ℕ) (x : X) (f : ℕ → Option X) (g : ℕ → X) (k : ℕ) → unwrap_or (put_at n (Some x) f k) (g k) ≡ put_at n x (λ k. unwrap_or (f k) (g k)) k
  over_put n x f g k = at (k == n)
    where
      at : (b : Bool) → unwrap_or (cond b (Some x) (f k)) (g k) ≡ cond b x (unwrap_or (f k) (g k))
      at true = refl
      at false = refl

  over_put_name : (d : ℕ) (m : List ℕ) (x : X) (f : ℕ → List ℕ → Option X) (g : ℕ → List ℕ → X) (e : ℕ) (k : List ℕ) → unwrap_or (put_name d m (Some x) f e k) (g e k) ≡ put_name d m x (λ e k. unwrap_or (f e k) (g e k)) e k
  over_put_name d m x f g e k = at (same_place (e, k) (d, m))
    where
      at : (b : Bool) → unwrap_or (cond b (Some x) (f e k)) (g e k) ≡ cond b x (unwrap_or (f e k) (g e k))
      at true = refl
      at false = refl

  over_put_of_directory : (kind : Kind) (n : ℕ) (x : X) (f : ℕ → Option X) (g : ℕ → X) (k : ℕ) → unwrap_or (put_of_directory kind n (Some x) f k) (g k) ≡ put_of_directory kind n x (λ k. unwrap_or (f k) (g k)) k
  over_put_of_directory File n x f g k = refl
  over_put_of_directory Directory n x f g k = over_put n x f g k

sum_over : (a b c : ℤ) → a +ℤ (b +ℤ c) ≡ (a +ℤ b) +ℤ c
sum_over a b c = omega (arith, ints)

over_shifted : (d : ℕ) (by : ℤ) (shift count : ℕ → ℤ) (e : ℕ) → count e +ℤ shifted d by shift e ≡ shifted d by (λ d. count d +ℤ shift d) e
over_shifted d by shift count e = at (e == d)
  where
    at : (b : Bool) → count e +ℤ cond b (shift e +ℤ by) (shift e) ≡ cond b ((count e +ℤ shift e) +ℤ by) (count e +ℤ shift e)
    at true = sum_over (count e) (shift e) by
    at false = refl

-- ---- the parts of a change

module _ (o : Overlay) (s : Sight) where
  over_header : (n : ℕ) (change : Header → Header) → over (laid_header n change (over o s) o) s ≡ record (over o s) { head = put_header n change (over o s).head }
  over_header n change = λ i. record (over o s) { head = λ k. over_put n (option_map change ((over o s).head n)) o.heads s.head k i }

  over_without : (d : ℕ) (m : List ℕ) (t : ℕ) → over (laid_without d m t (over o s) o) s ≡ seen_without d m t (over o s)
  over_without d m t = λ i. record {
    head = λ k. over_put t (option_and_then unlinked ((over o s).head t)) o.heads s.head k i;
    name = λ e k. over_put_name d m None o.names s.name e k i;
    count = λ e. over_shifted d (negsuc 0) o.shift s.count e i;
    parent = λ k. over_put t None o.parents s.parent k i;
  }

  over_moved : (d : ℕ) (m : List ℕ) (e : ℕ) (k : List ℕ) (n : ℕ) → over (laid_moved d m e k n (over o s) o) s ≡ seen_moved d m e k n (over o s)
  over_moved d m e k n = λ i. record {
    head = (over o s).head;
    name = λ f l. (over_put_name e k (Some n) (put_name d m (Some None) o.names) s.name f l ∙ ap (λ x. cond (same_place (f, l) (e, k)) (Some n) x) (over_put_name d m None o.names s.name f l)) i;
    count = λ f. (over_shifted e (pos 1) (shifted d (negsuc 0) o.shift) s.count f ∙ ap (λ count. shifted e (pos 1) count f) (λ i f. over_shifted d (negsuc 0) o.shift s.count f i)) i;
    parent = λ x. over_put_of_directory (kind_shown ((over o s).head n)) n (Some e) o.parents s.parent x i;
  }

pub over_nothing_put : (s : Sight) → over nothing_put s ≡ s
over_nothing_put s = λ i. record { head = s.head; name = s.name; count = λ d. plus_none (s.count d) i; parent = s.parent }
  where
    plus_none : (a : ℤ) → a +ℤ pos 0 ≡ a
    plus_none a = omega (arith, ints)

-- ---- the entries

module _ (o : Overlay) (s : Sight) where
  over_renamed : (d : ℕ) (m : List ℕ) (e : ℕ) (k : List ℕ) (from to : Option ℕ) → over (laid_renamed d m e k from to (over o s) o) s ≡ seen_renamed d m e k from to (over o s)
  over_renamed d m e k None to = refl
  over_renamed d m e k (Some n) None = over_moved o s d m e k n
  over_renamed d m e k (Some n) (Some t) = at (t == n)
    where
      second : over (laid_moved d m e k n (seen_without e k t (over o s)) (laid_without e k t (over o s) o)) s ≡ seen_moved d m e k n (seen_without e k t (over o s))
      second =
          let first = over_without o s e k t in
          subst (λ now. over (laid_moved d m e k n now (laid_without e k t (over o s) o)) s ≡ seen_moved d m e k n now) first (over_moved (laid_without e k t (over o s) o) s d m e k n)

      at : (b : Bool) → over (cond b o (laid_moved d m e k n (seen_without e k t (over o s)) (laid_without e k t (over o s) o))) s ≡ cond b (over o s) (seen_moved d m e k n (seen_without e k t (over o s)))
      at true = refl
      at false = second

  over_unlinked : (d : ℕ) (m : List ℕ) (t : Option ℕ) → over (laid_unlinked d m t (over o s) o) s ≡ seen_unlinked d m t (over o s)
  over_unlinked d m None = refl
  over_unlinked d m (Some t) = over_without o s d m t

  pub over_laid : (client : Client) (entry : Entry) → over (laid_after client entry (over o s) o) s ≡ seen_after client (over o s) entry
  unfolding laid_after seen_after
  over_laid client (Create d m n kind mode) = λ i. record {
    head = λ k. over_put n (Some (new_header client kind mode)) o.heads s.head k i;
    name = λ e k. over_put_name d m (Some n) o.names s.name e k i;
    count = λ e. over_shifted d (pos 1) o.shift s.count e i;
    parent = λ k. over_put_of_directory kind n (Some d) o.parents s.parent k i;
  }
  over_laid client (Write n offset payload) = over_header o s n (λ h. record h { size = written_size offset payload h.size })
  over_laid client (Truncate n size) = over_header o s n (λ h. record h { size = size })
  over_laid client (Link n d m) = λ i. record {
    head = λ k. over_put n (option_map (λ (h : Header). record h { links = h.links + 1 }) ((over o s).head n)) o.heads s.head k i;
    name = λ e k. over_put_name d m (Some n) o.names s.name e k i;
    count = λ e. over_shifted d (pos 1) o.shift s.count e i;
    parent = (over o s).parent;
  }
  over_laid client (Unlink d m kind) = over_unlinked d m ((over o s).name d m)
  over_laid client (Rename d m e k) = over_renamed d m e k ((over o s).name d m) ((over o s).name e k)
  over_laid client (Chmod n mode) = over_header o s n (λ h. record h { mode = mode })
  over_laid client (Regroup n group) = over_header o s n (λ h. record h { gid = group })
