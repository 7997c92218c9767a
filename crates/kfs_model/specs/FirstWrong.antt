-- The first wrong row of a plan: names before nodes before pieces.
use Rattle.std.specs.Prelude.{ℕ, zero, suc, ◌+◌, ◌==◌, ◌&&◌, ◌||◌, not, Bool, true, false, nat_lt, List, [], ◌∷◌, length, map, filter, flat_map, Option, Some, None, option_map, nat_eq}
use Rattle.std.specs.List.{list_any, last_or}
use Rattle.std.specs.Cmp.Lexicographic.{pointwise}
use Rattle.kfs_model.specs.Header.{Header, Kind, File, Directory}
use Rattle.kfs_model.specs.Table.{Order, Table, numbers, get, retain, mapped, united}
use Rattle.kfs_model.specs.Tree.{Tree, Node, NameTable, headers, content_of}
use Rattle.kfs_model.specs.Check.{is_some_and}
use Rattle.kfs_model.specs.Run.{Mark}
use Rattle.kfs_model.specs.FirstAnswer.{first_answer}
use Rattle.kfs_model.specs.PlanRow.{NameRow, NodeRow, Piece, Plan}
use Rattle.kfs_model.specs.Plan.{number_now, header_now, keyed_name, keyed_node, mark_at, mark_of_source, is_base, end_of, covers}

pub data RowFault : Type 0 where
  Names Nodes Pieces : (index : ℕ) → RowFault
  deriving Discrete as RowFault-discrete

-- ---- tests of equality

abbrev pub same_option : {X : Type 0} → (X → X → Bool) → Option X → Option X → Bool
same_option same None None = true
same_option same None (Some y) = false
same_option same (Some x) None = false
same_option same (Some x) (Some y) = same x y

abbrev pub same_kind : Kind → Kind → Bool
same_kind File File = true
same_kind File Directory = false
same_kind Directory File = false
same_kind Directory Directory = true

abbrev pub same_header : Header → Header → Bool
same_header g h = same_kind g.kind h.kind && (g.mode == h.mode) && (g.uid == h.uid) && (g.gid == h.gid) && (g.links == h.links) && (g.size == h.size)

abbrev pub same_headers : Option Header → Option Header → Bool
same_headers = same_option same_header

abbrev pub same_place : ℕ × List ℕ → ℕ × List ℕ → Bool
same_place a b = (a.0 == b.0) && pointwise nat_eq a.1 b.1

abbrev pub same_pair : {K X : Type 0} → (K → K → Bool) → (X → X → Bool) → K × X → K × X → Bool
same_pair same_key same_value a b = same_key a.0 b.0 && same_value a.1 b.1

abbrev pub same_mark : Mark → Mark → Bool
same_mark (Mark.Base n i) (Mark.Base k j) = (n == k) && (i == j)
same_mark (Mark.Base n i) Mark.Zero = false
same_mark (Mark.Base n i) (Mark.Payload e j) = false
same_mark Mark.Zero (Mark.Base k j) = false
same_mark Mark.Zero Mark.Zero = true
same_mark Mark.Zero (Mark.Payload e j) = false
same_mark (Mark.Payload e i) (Mark.Base k j) = false
same_mark (Mark.Payload e i) Mark.Zero = false
same_mark (Mark.Payload e i) (Mark.Payload f j) = (e == f) && (i == j)

-- ---- names and nodes

-- the keys at which two tables differ, each with what the second one has there
abbrev pub differences : {K X Y : Type 0} {R : Order K} → (X → X → Bool) → (Option X → Y) → Table R X → Table R X → Table R Y
differences same now before after =
    mapped (λ key _. now (get after key)) (retain (λ key. not (same_option same (get before key) (get after key))) (united before after))

-- the index of the first difference of two lists; where one is a prefix of the other, the shorter
-- length
abbrev pub first_difference : {X : Type 0} → (X → X → Bool) → List X → List X → Option ℕ
first_difference same [] [] = None
first_difference same [] (y ∷ ys) = Some 0
first_difference same (x ∷ xs) [] = Some 0
first_difference same (x ∷ xs) (y ∷ ys) = elim (same x y) [ true ↦ option_map (λ i. i + 1) (first_difference same xs ys) | false ↦ Some 0 ]

abbrev pub first_wrong_name : NameTable → NameTable → List NameRow → Option ℕ
first_wrong_name before after rows = first_difference (same_pair same_place nat_eq) (map keyed_name rows) (differences nat_eq number_now before after).entries

abbrev pub first_wrong_node : Table numbers Header → Table numbers Header → List NodeRow → Option ℕ
first_wrong_node before after rows = first_difference (same_pair nat_eq same_headers) (map keyed_node rows) (differences same_header header_now before after).entries

-- ---- pieces

-- the places of the elements that pass the test, counted from the given place on
abbrev pub places_where : {X : Type 0} → (X → Bool) → ℕ → List X → List ℕ
places_where test place [] = []
places_where test place (x ∷ xs) = elim (test x) [ true ↦ place ∷ places_where test (place + 1) xs | false ↦ places_where test (place + 1) xs ]

abbrev pub changed_places : ℕ × Node Mark → List (ℕ × ℕ)
changed_places entry = map (λ place. (entry.0, place)) (places_where (λ mark. not (is_base mark)) 0 (content_of (Some entry.1)))

-- all bytes that the log wrote or made zero, ascending by file number and place
unfoldable pub changed_bytes : Tree Mark → List (ℕ × ℕ)
changed_bytes t = flat_map changed_places t.nodes.entries

abbrev pub lies_before : (byte : ℕ × ℕ) → (number place : ℕ) → Bool
lies_before byte number place = nat_lt byte.0 number || ((byte.0 == number) && nat_lt byte.1 place)

-- whether one of these bytes lies in no piece
abbrev pub is_missed : List Piece → List (ℕ × ℕ) → Bool
is_missed pieces bytes = list_any (λ byte. not (list_any (covers byte.0 byte.1) pieces)) bytes

-- whether `count` bytes of the piece, from this distance on, have the marks that the piece says
abbrev pub holds_along : Tree Mark → Piece → (distance count : ℕ) → Bool
holds_along t p distance zero = true
holds_along t p distance (suc count) =
    elim (same_option same_mark (mark_at t p.number (p.start + distance)) (Some (mark_of_source p.source distance))) [ true ↦ holds_along t p (distance + 1) count | false ↦ false ]

-- whether the piece begins before an earlier piece ends
abbrev pub begins_early : (above : List Piece) → Piece → Bool
begins_early above p = is_some_and (last_or None above) (λ q. lies_before (p.number, p.start) q.number (end_of q))

-- whether a piece is wrong after the pieces before it: it is empty, begins before they end, has a byte
-- outside its file or with another mark, or leaves out a changed byte in front of it
unfoldable pub is_wrong : Tree Mark → (above : List Piece) → Piece → Bool
is_wrong after above p =
    (p.length == 0) || begins_early above p || not (holds_along after p 0 p.length)
    || is_missed above (filter (λ byte. lies_before byte p.number p.start) (changed_bytes after))

-- the piece's index, where the piece is wrong after those before it
abbrev pub wrong_below : Tree Mark → (above : List Piece) → Piece → Option ℕ
wrong_below after above p = elim (is_wrong after above p) [ true ↦ Some (length above) | false ↦ None ]

-- the number of pieces, where they leave out a changed byte
abbrev pub missed_by : Tree Mark → List Piece → Option ℕ
missed_by after pieces = elim (is_missed pieces (changed_bytes after)) [ true ↦ Some (length pieces) | false ↦ None ]

-- the index of the first wrong piece; if all are right but leave out a byte, the number of pieces
abbrev pub first_wrong_piece : Tree Mark → List Piece → Option ℕ
first_wrong_piece after pieces = elim (first_answer (wrong_below after) pieces) [ Some index ↦ Some index | None ↦ missed_by after pieces ]

-- ---- the whole plan

abbrev pub or_else : {X : Type 0} → (ℕ → X) → Option ℕ → Option X → Option X
or_else name None next = next
or_else name (Some index) next = Some (name index)

unfoldable pub first_wrong_row : {B : Type 0} → (before : Tree B) (after : Tree Mark) → Plan → Option RowFault
first_wrong_row before after plan =
    or_else Names (first_wrong_name before.names after.names plan.names)
    (or_else Nodes (first_wrong_node (headers before) (headers after) plan.nodes)
    (or_else Pieces (first_wrong_piece after plan.pieces) None))
