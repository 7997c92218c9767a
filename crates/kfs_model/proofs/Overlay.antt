-- What the entries of a log so far have put into cells, laid over what the cells showed before.
use Rattle.std.specs.Prelude.{ℕ, ◌+◌, ◌==◌, ℤ, pos, negsuc, ◌+ℤ◌, List, Option, Some, None, option_map, option_and_then, unwrap_or, if◌then◌else◌}
use Rattle.kfs_model.specs.Header.{Header}
use Rattle.kfs_model.specs.Access.{Client}
use Rattle.kfs_model.specs.Entry.{Entry, Create, Write, Truncate, Link, Unlink, Rename, Chmod, Regroup}
use Rattle.kfs_model.specs.Sight.{Sight, kind_shown}
use Rattle.kfs_model.specs.SeenAfter.{put_at, put_name, put_of_directory, shifted, new_header, unlinked, written_size, seen_without}

-- none where nothing was put
pub record Overlay : Type 0 where
  pub heads : ℕ → Option (Option Header)
  pub names : ℕ → List ℕ → Option (Option ℕ)
  -- how many names a directory has more than before
  pub shift : ℕ → ℤ
  pub parents : ℕ → Option (Option ℕ)

abbrev pub nothing_put : Overlay
nothing_put = record { heads = λ n. None; names = λ d m. None; shift = λ d. pos 0; parents = λ n. None }

-- what shows now
abbrev pub over : Overlay → Sight → Sight
over o s = record {
  head = λ n. unwrap_or (o.heads n) (s.head n);
  name = λ d m. unwrap_or (o.names d m) (s.name d m);
  count = λ d. s.count d +ℤ o.shift d;
  parent = λ n. unwrap_or (o.parents n) (s.parent n);
}

-- ---- the overlay after an entry, by what shows now

abbrev pub laid_header : (number : ℕ) → (Header → Header) → Sight → Overlay → Overlay
laid_header n change now o = record o { heads = put_at n (Some (option_map change (now.head n))) o.heads }

-- without the name, which leads to this node
abbrev pub laid_without : (directory : ℕ) (name : List ℕ) (number : ℕ) → Sight → Overlay → Overlay
laid_without d m t now o = record {
  heads = put_at t (Some (option_and_then unlinked (now.head t))) o.heads;
  names = put_name d m (Some None) o.names;
  shift = shifted d (negsuc 0) o.shift;
  parents = put_at t (Some None) o.parents;
}

abbrev pub laid_moved : (d : ℕ) (m : List ℕ) (e : ℕ) (k : List ℕ) (number : ℕ) → Sight → Overlay → Overlay
laid_moved d m e k n now o = record {
  heads = o.heads;
  names = put_name e k (Some (Some n)) (put_name d m (Some None) o.names);
  shift = shifted e (pos 1) (shifted d (negsuc 0) o.shift);
  parents = put_of_directory (kind_shown (now.head n)) n (Some (Some e)) o.parents;
}

abbrev pub laid_renamed : (d : ℕ) (m : List ℕ) (e : ℕ) (k : List ℕ) → Option ℕ → Option ℕ → Sight → Overlay → Overlay
laid_renamed d m e k None there now o = o
laid_renamed d m e k (Some n) None now o = laid_moved d m e k n now o
laid_renamed d m e k (Some n) (Some t) now o = if t == n then o else laid_moved d m e k n (seen_without e k t now) (laid_without e k t now o)

abbrev pub laid_unlinked : (directory : ℕ) (name : List ℕ) → Option ℕ → Sight → Overlay → Overlay
laid_unlinked d m None now o = o
laid_unlinked d m (Some t) now o = laid_without d m t now o

unfoldable pub laid_after : Client → Entry → Sight → Overlay → Overlay
laid_after client (Create d m n kind mode) now o = record {
  heads = put_at n (Some (Some (new_header client kind mode))) o.heads;
  names = put_name d m (Some (Some n)) o.names;
  shift = shifted d (pos 1) o.shift;
  parents = put_of_directory kind n (Some (Some d)) o.parents;
}
laid_after client (Write n offset payload) now o = laid_header n (λ h. record h { size = written_size offset payload h.size }) now o
laid_after client (Truncate n size) now o = laid_header n (λ h. record h { size = size }) now o
laid_after client (Link n d m) now o = record {
  heads = put_at n (Some (option_map (λ (h : Header). record h { links = h.links + 1 }) (now.head n))) o.heads;
  names = put_name d m (Some (Some n)) o.names;
  shift = shifted d (pos 1) o.shift;
  parents = o.parents;
}
laid_after client (Unlink d m kind) now o = laid_unlinked d m (now.name d m) now o
laid_after client (Rename d m e k) now o = laid_renamed d m e k (now.name d m) (now.name e k) now o
laid_after client (Chmod n mode) now o = laid_header n (λ h. record h { mode = mode }) now o
laid_after client (Regroup n group) now o = laid_header n (λ h. record h { gid = group }) now o
