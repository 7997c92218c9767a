-- What a draft shows over a state: the cells that entries have written, and the state's own cells
-- elsewhere.
use Rattle.std.specs.Prelude.{◌≡◌, ℕ, ◌-◌, Bool, ℤ, pos, negsuc, neg_ℤ, ◌+ℤ◌, ◌≤ℤ◌, List, Contains, Option, Some, None, IsTrue, unwrap_or, ◌==◌, ◌+◌, true, nat_lt}
use Rattle.std.specs.Option.{option_map, is_some}
use Rattle.std.specs.declared.cmp.Ordering.{Ordering}
use Rattle.std.specs.Ordering.{nat_cmp}
use Rattle.std.specs.BTreeMap.{BTreeMap, get}
use Rattle.std.specs.List.{list_any}
use Rattle.kfs_model.specs.Header.{Header, Kind}
use Rattle.kfs_model.specs.Access.{Client}
use Rattle.kfs_model.specs.SeenAfter.{put_at, put_name, shifted, put_parent}
use Rattle.kfs_model.specs.Tree.{name_order}
use Rattle.kfs_model.specs.Sight.{Sight, ClientSight, Cell, NameIn, HeaderOf}
use Rattle.kfs_model.specs.Check.{EntryContext, is_some_and}
use Rattle.kfs_model.specs.Limits.{link_limit}
use Rattle.kfs_types.specs.Views.{header_of}
use Rattle.kfs_types.specs.declared.entry.Header.{Header as CodeHeader}
use Rattle.kfs_judge_reads.specs.declared.draft.draft.Draft.{Draft}
use Rattle.kfs_judge_reads.specs.Draft.Created.{is_created}
use Rattle.kfs_judge_reads.specs.Draft.Few.{found_in, PutsIn}
use Rattle.kfs_judge_reads.specs.Draft.Shifts.{shift_in}

module _ {A : Type 0} where
  -- by how much a directory's count of names has changed
  abbrev pub shift_of : Draft A → ℕ → ℤ
  shift_of draft d = shift_in draft.shifts d

  -- the cells over a state: what the draft has written, and elsewhere what the state has
  abbrev pub over : Draft A → Sight → Sight
  over draft s = record {
    head = λ n. unwrap_or (option_map (option_map header_of) (found_in nat_cmp draft.heads n)) (s.head n);
    name = λ d m. unwrap_or (found_in name_order.compare draft.names (d, m)) (s.name d m);
    count = λ d. s.count d +ℤ shift_of draft d;
    parent = λ n. unwrap_or (get nat_cmp draft.parents.map n) (s.parent n);
  }

  abbrev pub has_created : Draft A → ℕ → Bool
  has_created draft n = is_created draft.created n

  -- whether an entry has written the header of the number
  abbrev pub has_header : Draft A → ℕ → Bool
  has_header draft n = is_some (found_in nat_cmp draft.heads n)

  -- each header that was written before is written now
  abbrev pub KeepsHeaders : (old new : Draft A) → Type 0
  KeepsHeaders old new = (n : ℕ) → IsTrue (has_header old n) → IsTrue (has_header new n)

  -- the log has created the same numbers in both
  abbrev pub KeepsCreated : (old new : Draft A) → Type 0
  KeepsCreated old new = (n : ℕ) → has_created new n ≡ has_created old n

  -- the log has created exactly these numbers
  abbrev pub AreCreated : Draft A → List ℕ → Type 0
  AreCreated draft numbers = (n : ℕ) → has_created draft n ≡ list_any (λ c. c == n) numbers

  -- the point at which an entry is judged, given what the client saw before the log
  abbrev pub entry_context_of : Client → Draft A → ClientSight → EntryContext
  entry_context_of client draft before = record {
    client = client;
    before = before;
    now = over draft before.sight;
    created = has_created draft;
  }

-- the new map has this value at the key, and elsewhere what the old one has
abbrev pub PutsAt : {K X : Type 0} → (K → K → Ordering) → BTreeMap K X → BTreeMap K X → K → X → Type 0
PutsAt {K} cmp old new key value = PutsIn cmp old.entries new.entries key value

-- ---- the cells with one changed

abbrev pub with_header : (number : ℕ) → Option Header → Sight → Sight
with_header n header s = record s { head = put_at n header s.head }

abbrev pub with_target : (directory : ℕ) (name : List ℕ) → Option ℕ → Sight → Sight
with_target d m target s = record s { name = put_name d m target s.name }

-- the cells with so many more names in the directory
abbrev pub with_more_names : (directory : ℕ) → ℤ → Sight → Sight
with_more_names d by s = record s { count = shifted d by s.count }

abbrev pub with_parent : (number : ℕ) → Option ℕ → Sight → Sight
with_parent n parent s = record s { parent = put_at n parent s.parent }

-- the cells in which the node, if it is a directory, has this parent
abbrev pub with_directory_in : Kind → (number directory : ℕ) → Sight → Sight
with_directory_in kind n d s = record s { parent = put_parent kind n d s.parent }

-- ---- the cells after a change of names

-- the cells with a new node and its name
abbrev pub with_node : (directory : ℕ) (name : List ℕ) (number : ℕ) → Header → Sight → Sight
with_node d m n header s = record {
  head = put_at n (Some header) s.head;
  name = put_name d m (Some n) s.name;
  count = shifted d (pos 1) s.count;
  parent = put_parent header.kind n d s.parent;
}

-- the cells with one more name of a node, whose header is this
abbrev pub with_name : (directory : ℕ) (name : List ℕ) (number : ℕ) → Option Header → Sight → Sight
with_name d m n header s = record {
  head = put_at n header s.head;
  name = put_name d m (Some n) s.name;
  count = shifted d (pos 1) s.count;
  parent = s.parent;
}

-- the header has one link more, if there is room for it
abbrev pub IsLinked : (before after : Option Header) → Type 0
IsLinked before after = is_some_and before (λ h. nat_lt h.links link_limit) ≡ true → after ≡ option_map (λ (h : Header). record h { links = h.links + 1 }) before

-- the cells with one name of a node fewer, whose header is this, or which is gone
abbrev pub without_name : (directory : ℕ) (name : List ℕ) (number : ℕ) → Option Header → Sight → Sight
without_name d m n header s = record {
  head = put_at n header s.head;
  name = put_name d m None s.name;
  count = shifted d (negsuc 0) s.count;
  parent = put_at n None s.parent;
}

-- the cells with a node of this kind moved from the first name to the second
abbrev pub with_name_moved : (d : ℕ) (m : List ℕ) (e : ℕ) (k : List ℕ) (number : ℕ) → Kind → Sight → Sight
with_name_moved d m e k n kind s = record {
  head = s.head;
  name = put_name e k (Some n) (put_name d m None s.name);
  count = shifted e (pos 1) (shifted d (negsuc 0) s.count);
  parent = put_parent kind n e s.parent;
}

module _ {A : Type 0} where
  -- no count has changed by more than `most`, up or down
  pub record ShiftsBy (most : ℕ) (draft : Draft A) : Type 0 where
    pub above : (d : ℕ) → shift_of draft d ≤ℤ pos most
    pub below : (d : ℕ) → neg_ℤ (pos most) ≤ℤ shift_of draft d

  -- after so many more changes of one name each, every count's change still fits 32 bits
  abbrev pub HasRoom : (changes : ℕ) → Draft A → Type 0
  HasRoom changes draft = ShiftsBy (2147483647 - changes) draft

  -- no count's change is larger than before
  abbrev pub KeepsShifts : (old new : Draft A) → Type 0
  KeepsShifts old new = (most : ℕ) → ShiftsBy most old → ShiftsBy most new

  -- no count's change is larger than before by more than so many names
  abbrev pub ShiftsFurther : (names : ℕ) → (old new : Draft A) → Type 0
  ShiftsFurther names old new = (most : ℕ) → ShiftsBy most old → ShiftsBy (most + names) new

  -- each name and header that the draft has written is among these cells
  pub record ChangesAreAmong (draft : Draft A) (among : List Cell) : Type 0 where
    pub names : (key : ℕ × List ℕ) (value : Option ℕ) → found_in name_order.compare draft.names key ≡ Some value → Contains among (NameIn key.0 key.1)
    pub heads : (n : ℕ) (value : Option CodeHeader) → found_in nat_cmp draft.heads n ≡ Some value → Contains among (HeaderOf n)

  -- each name and header in the new draft was in the old one, or is this name or this header
  abbrev pub WritesNameAndHeader : (old new : Draft A) (directory : ℕ) (name : List ℕ) (number : ℕ) → Type 0
  WritesNameAndHeader old new d m n = (among : List Cell) → ChangesAreAmong old among → Contains among (NameIn d m) → Contains among (HeaderOf n) → ChangesAreAmong new among

  -- each name and header in the new draft was in the old one, or is one of these two names
  abbrev pub WritesTwoNames : (old new : Draft A) (d : ℕ) (m : List ℕ) (e : ℕ) (k : List ℕ) → Type 0
  WritesTwoNames old new d m e k = (among : List Cell) → ChangesAreAmong old among → Contains among (NameIn d m) → Contains among (NameIn e k) → ChangesAreAmong new among
