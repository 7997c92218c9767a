-- What an entry without a failed check does to the cells, one by one, and the run of a log over cells
-- alone. It is defined for any cells, also for some that no tree has.
use Rattle.std.specs.Prelude.{ℕ, ◌+◌, ◌-◌, ◌==◌, nat_le, max, ℤ, pos, negsuc, ◌+ℤ◌, List, [], ◌∷◌, length, Option, Some, None, option_map, option_and_then, Result, Ok, Err, if◌then◌else◌}
use Rattle.kfs_model.specs.Header.{Kind, File, Directory, Header}
use Rattle.kfs_model.specs.Access.{Client}
use Rattle.kfs_model.specs.Entry.{Entry, Create, Write, Truncate, Link, Unlink, Rename, Chmod, Regroup}
use Rattle.kfs_model.specs.Tree.{Tree}
use Rattle.kfs_model.specs.Sight.{Sight, ClientSight, sight, kind_shown}
use Rattle.kfs_model.specs.Check.{first_fault}
use Rattle.kfs_model.specs.FirstWrong.{same_place}
use Rattle.kfs_model.specs.Run.{EntryFault, entry_context, created_by}

-- ---- a cell with another answer

abbrev pub put_at : {X : Type 0} → (number : ℕ) → X → (ℕ → X) → ℕ → X
put_at n x f k = if k == n then x else f k

abbrev pub put_name : {X : Type 0} → (directory : ℕ) (name : List ℕ) → X → (ℕ → List ℕ → X) → ℕ → List ℕ → X
put_name d m x names e k = if same_place (e, k) (d, m) then x else names e k

-- the counts, with this much added for one directory
abbrev pub shifted : (directory : ℕ) → ℤ → (ℕ → ℤ) → ℕ → ℤ
shifted d by count e = if e == d then count e +ℤ by else count e

-- the headers, with one changed where there is such a node
abbrev pub put_header : (number : ℕ) → (Header → Header) → (ℕ → Option Header) → ℕ → Option Header
put_header n change head = put_at n (option_map change (head n)) head

-- ---- the parts of an entry's change

abbrev pub new_header : Client → Kind → (mode : ℕ) → Header
new_header client kind mode = record { kind = kind; mode = mode; uid = client.uid; gid = client.gid; links = 1; size = 0 }

-- the values, with one changed at the number where that is a directory
abbrev pub put_of_directory : {X : Type 0} → Kind → (number : ℕ) → X → (ℕ → X) → ℕ → X
put_of_directory File n x f = f
put_of_directory Directory n x f = put_at n x f

-- the parents, with this one for the node where that is a directory
abbrev pub put_parent : Kind → (number directory : ℕ) → (ℕ → Option ℕ) → ℕ → Option ℕ
put_parent kind n d parent = put_of_directory kind n (Some d) parent

-- the header after the node lost a name; none where it goes, as a directory does, or a file with its
-- last name
abbrev pub unlinked : Header → Option Header
unlinked h = of_kind h.kind
  where
    of_kind : Kind → Option Header
    of_kind File = if nat_le h.links 1 then None else Some (record h { links = h.links - 1 })
    of_kind Directory = None

abbrev pub written_size : (offset : ℕ) → (payload : List ℕ) → (size : ℕ) → ℕ
written_size offset [] size = size
written_size offset (b ∷ bs) size = max size (offset + length (b ∷ bs))

-- the cells without this name, which led to the node
abbrev pub seen_without : (directory : ℕ) (name : List ℕ) (number : ℕ) → Sight → Sight
seen_without d m t s = record {
  head = put_at t (option_and_then unlinked (s.head t)) s.head;
  name = put_name d m None s.name;
  count = shifted d (negsuc 0) s.count;
  parent = put_at t None s.parent;
}

-- the cells with the node's name moved; the new name led to nothing before
abbrev pub seen_moved : (d : ℕ) (m : List ℕ) (e : ℕ) (k : List ℕ) (number : ℕ) → Sight → Sight
seen_moved d m e k n s = record {
  head = s.head;
  name = put_name e k (Some n) (put_name d m None s.name);
  count = shifted e (pos 1) (shifted d (negsuc 0) s.count);
  parent = put_parent (kind_shown (s.head n)) n e s.parent;
}

-- the cells after a Rename: nothing changes where both names lead to one node; a node that is replaced
-- loses its name first
abbrev pub seen_renamed : (d : ℕ) (m : List ℕ) (e : ℕ) (k : List ℕ) → Option ℕ → Option ℕ → Sight → Sight
seen_renamed d m e k None there s = s
seen_renamed d m e k (Some n) None s = seen_moved d m e k n s
seen_renamed d m e k (Some n) (Some t) s = if t == n then s else seen_moved d m e k n (seen_without e k t s)

abbrev pub seen_unlinked : (directory : ℕ) (name : List ℕ) → Option ℕ → Sight → Sight
seen_unlinked d m None s = s
seen_unlinked d m (Some t) s = seen_without d m t s

-- ---- an entry, and a log

unfoldable pub seen_after : Client → Sight → Entry → Sight
seen_after client s (Create d m n kind mode) = record {
  head = put_at n (Some (new_header client kind mode)) s.head;
  name = put_name d m (Some n) s.name;
  count = shifted d (pos 1) s.count;
  parent = put_parent kind n d s.parent;
}
seen_after client s (Write n offset payload) = record s { head = put_header n (λ h. record h { size = written_size offset payload h.size }) s.head }
seen_after client s (Truncate n size) = record s { head = put_header n (λ h. record h { size = size }) s.head }
seen_after client s (Link n d m) = record s {
  head = put_header n (λ h. record h { links = h.links + 1 }) s.head;
  name = put_name d m (Some n) s.name;
  count = shifted d (pos 1) s.count;
}
seen_after client s (Unlink d m kind) = seen_unlinked d m (s.name d m) s
seen_after client s (Rename d m e k) = seen_renamed d m e k (s.name d m) (s.name e k) s
seen_after client s (Chmod n mode) = record s { head = put_header n (λ h. record h { mode = mode }) s.head }
seen_after client s (Regroup n group) = record s { head = put_header n (λ h. record h { gid = group }) s.head }

module _ (client : Client) (before : ClientSight) where
  -- the run over cells, from the entry with this index on
  unfoldable pub seen_run_from : (index : ℕ) → (created : List ℕ) → Sight → List Entry → Result Sight EntryFault
  seen_run_from index created now [] = Ok now
  seen_run_from index created now (entry ∷ entries) = elim (first_fault (entry_context client before now created) entry) [
    | None ↦ seen_run_from (index + 1) (created_by entry created) (seen_after client now entry) entries
    | Some reason ↦ Err (record { entry = index; reason = reason })
  ]

-- the outcome of a run over trees, as cells
abbrev pub shown_run : {B : Type 0} → Result (Tree B) EntryFault → Result Sight EntryFault
shown_run (Ok t) = Ok (sight t)
shown_run (Err fault) = Err fault
