-- The blocks of all files are those of the first file's pieces, and those of the pieces behind them.
use Rattle.std.proofs.Common.{◌≡◌, ℕ, suc, ◌+◌, ◌*◌, ◌<◌, ◌≤◌, ◌==◌, ◌++◌, Bool, true, false, cond, T, List, [], ◌∷◌, length, take, drop, map, Option, Some, None, slice_get, get_or, refl, sym, ap, subst, ◌∙◌, arith, eqb-true}
use Rattle.std.specs.List.{AllByRecursion}
use Rattle.std.specs.FinMap.Entries.{find, is_sorted}
use Rattle.std.specs.Ordering.{eq_by_cmp}
use Rattle.std.proofs.lemmas.Bool.{eq-eqb, ne_eqb, eqb-false, both_ways}
use Rattle.std.proofs.lemmas.List.{append-nil, map-append, take-append-drop}
use Rattle.std.proofs.lemmas.List.Elements.{filter-append}
use Rattle.kfs_pieces.proofs.Lists.{all_at, all_drop}
use Rattle.kfs_pieces.specs.TouchedBlocks.{counted, touches, of_file, node_blocks, counted_files}
use Rattle.kfs_model.specs.LastCover.{file_size}
use Rattle.kfs_model.specs.Placement.{need}
use Rattle.kfs_model.specs.Plan.{mark_of_source, ArePieces, IsTrueOf}
use Rattle.kfs_model.specs.PlanRow.{Piece}
use Rattle.kfs_model.specs.Run.{Mark}
use Rattle.kfs_model.specs.Table.{numbers, get}
use Rattle.kfs_model.specs.Tree.{Tree, Node, content_of}
use Rattle.kfs_model.proofs.NameTable.{ties_decide}
use Rattle.kfs_pieces.proofs.NeedCounted.{need_is_counted}
use Rattle.kfs_model.proofs.Tables.{find_below, left_part, right_part}
use Rattle.kfs_types.specs.Views.{piece_of}
use Rattle.kfs_types.specs.declared.plan.Piece.{Piece as CodePiece}
use Rattle.kfs_pieces.specs.declared.log.FileSize.{FileSize}
use Rattle.kfs_pieces.specs.Parts.{AreByNumber, front_len}
use Rattle.kfs_pieces.specs.Sizes.{length_after}

-- ---- the front

abbrev pub AreOf : (number : ℕ) → List CodePiece → Type 0
AreOf n ps = AllByRecursion (λ (p : CodePiece). p.number ≡ n) ps

pub front_within : (n : ℕ) (ps : List CodePiece) → front_len n ps ≤ length ps
front_within n [] = let none : 0 ≤ 0 = omega arith in none
front_within n (p ∷ ps) = at (p.number == n) (front_within n ps)
  where
    at : (b : Bool) → front_len n ps ≤ length ps → cond b (suc (front_len n ps)) 0 ≤ suc (length ps)
    at true within = omega arith
    at false within = omega arith

pub front_is_of : (n : ℕ) (ps : List CodePiece) → AreOf n (take (front_len n ps) ps)
front_is_of n [] = tt
front_is_of n (p ∷ ps) = at (p.number == n) refl (front_is_of n ps)
  where
    at : (b : Bool) → (p.number == n) ≡ b → AreOf n (take (front_len n ps) ps) → AreOf n (take (cond b (suc (front_len n ps)) 0) (p ∷ ps))
    at true is more = (eqb-true p.number n is, more)
    at false is more = tt

pub behind_front : (n : ℕ) (ps : List CodePiece) → AreByNumber n ps → AreByNumber (n + 1) (drop (front_len n ps) ps)
behind_front n [] order = tt
behind_front n (p ∷ ps) order = at (p.number == n) refl (λ same. behind_front n ps (subst (λ m. AreByNumber m ps) same order.1))
  where
    at : (b : Bool) → (p.number == n) ≡ b → (p.number ≡ n → AreByNumber (n + 1) (drop (front_len n ps) ps)) → AreByNumber (n + 1) (drop (cond b (suc (front_len n ps)) 0) (p ∷ ps))
    at true is more = more (eqb-true p.number n is)
    at false is more =
        let low = order.0 in
        let apart = eqb-false p.number n is in
        ((let above : n + 1 ≤ p.number = omega arith in above), order.1)

pub not_of : (n least : ℕ) (ps : List CodePiece) → n < least → AreByNumber least ps → of_file n (map piece_of ps) ≡ []
not_of n least [] below order = refl
not_of n least (p ∷ ps) below order =
    let low = order.0 in
    ap (λ b. cond b (piece_of p ∷ of_file n (map piece_of ps)) (of_file n (map piece_of ps))) (ne_eqb p.number n (λ same. let b : ⊥ = omega arith in b))
    ∙ not_of n p.number ps (omega arith) order.1

all_of : (n : ℕ) (ps : List CodePiece) → AreOf n ps → of_file n (map piece_of ps) ≡ map piece_of ps
all_of n [] are = refl
all_of n (p ∷ ps) are =
    ap (λ b. cond b (piece_of p ∷ of_file n (map piece_of ps)) (of_file n (map piece_of ps))) (eq-eqb p.number n are.0)
    ∙ ap (λ rs. piece_of p ∷ rs) (all_of n ps are.1)

none_of : (n k : ℕ) (ps : List CodePiece) → (n ≡ k → ⊥) → AreOf n ps → of_file k (map piece_of ps) ≡ []
none_of n k [] apart are = refl
none_of n k (p ∷ ps) apart are =
    ap (λ b. cond b (piece_of p ∷ of_file k (map piece_of ps)) (of_file k (map piece_of ps))) (ne_eqb p.number k (λ same. apart (sym are.0 ∙ same)))
    ∙ none_of n k ps apart are.1

-- ---- one file's part

module _ (n : ℕ) (part behind : List CodePiece) (are : AreOf n part) (order : AreByNumber (n + 1) behind) where
  abbrev both : List Piece
  both = map piece_of part ++ map piece_of behind

  -- another file has its pieces behind the part
  other_file : (k : ℕ) → (n ≡ k → ⊥) → of_file k both ≡ of_file k (map piece_of behind)
  other_file k apart = filter-append (λ (r : Piece). r.number == k) (map piece_of part) (map piece_of behind) ∙ ap (λ rs. rs ++ of_file k (map piece_of behind)) (none_of n k part apart are)

  own_file : of_file n both ≡ map piece_of part
  own_file =
      filter-append (λ (r : Piece). r.number == n) (map piece_of part) (map piece_of behind)
      ∙ (λ i. all_of n part are i ++ not_of n (n + 1) behind (let below : n < n + 1 = omega arith in below) order i)
      ∙ append-nil (map piece_of part)

  others : (es : List (ℕ × Node Mark)) → find numbers.compare n es ≡ None → counted_files both es ≡ counted_files (map piece_of behind) es
  unfolding counted_files
  others [] none = refl
  others (e ∷ es) none = at (eq_by_cmp numbers.compare n e.0) refl none (others es)
    where
      at : (b : Bool) → eq_by_cmp numbers.compare n e.0 ≡ b → cond b (Some e.1) (find numbers.compare n es) ≡ None
          → (find numbers.compare n es ≡ None → counted_files both es ≡ counted_files (map piece_of behind) es) → node_blocks both e + counted_files both es ≡ node_blocks (map piece_of behind) e + counted_files (map piece_of behind) es
      at true is none more = cc
      at false is none more =
          let apart : n ≡ e.0 → ⊥ = λ same. both_ways _ is ((ties_decide numbers n e.0).1 same) in
          λ i. counted 0 (touches (length (content_of (Some e.1))) 0 (other_file e.0 apart i)) + more none i

  -- the file of the part is a node, and its blocks are the part's
  one_part : (es : List (ℕ × Node Mark)) → T (is_sorted numbers.compare es) → (node : Node Mark) → find numbers.compare n es ≡ Some node
      → counted_files both es ≡ counted 0 (touches (length (content_of (Some node))) 0 (map piece_of part)) + counted_files (map piece_of behind) es
  unfolding counted_files counted touches
  one_part [] sorted node found = cc
  one_part (e ∷ es) sorted node found = at (eq_by_cmp numbers.compare n e.0) refl found (one_part es (right_part _ _ sorted) node)
    where
      own : ℕ
      own = counted 0 (touches (length (content_of (Some node))) 0 (map piece_of part))

      later : ℕ
      later = counted_files (map piece_of behind) es

      at : (b : Bool) → eq_by_cmp numbers.compare n e.0 ≡ b → cond b (Some e.1) (find numbers.compare n es) ≡ Some node
          → (find numbers.compare n es ≡ Some node → counted_files both es ≡ own + later) → node_blocks both e + counted_files both es ≡ own + (node_blocks (map piece_of behind) e + later)
      at true is found more =
          let same = (ties_decide numbers n e.0).0 is in
          let value : e.1 ≡ node = cc in
          let none : find numbers.compare n es ≡ None = subst (λ k. find numbers.compare k es ≡ None) (sym same) (find_below numbers e.0 es (left_part _ _ sorted)) in
          let nothing : of_file e.0 (map piece_of behind) ≡ [] = ap (λ k. of_file k (map piece_of behind)) (sym same) ∙ not_of n (n + 1) behind (let below : n < n + 1 = omega arith in below) order in
          let zero_here : node_blocks (map piece_of behind) e ≡ 0 = ap (λ rs. counted 0 (touches (length (content_of (Some e.1))) 0 rs)) nothing in
          let plus : own + later ≡ own + (0 + later) = omega arith in
          (λ i. counted 0 (touches (length (content_of (Some (value i)))) 0 ((ap (λ k. of_file k both) (sym same) ∙ own_file) i)) + others es none i)
          ∙ plus ∙ ap (λ z. own + (z + later)) (sym zero_here)
      at false is found more =
          let apart : n ≡ e.0 → ⊥ = λ same. both_ways _ is ((ties_decide numbers n e.0).1 same) in
          let here = node_blocks (map piece_of behind) e in
          let turned : here + (own + later) ≡ own + (here + later) = omega arith in
          (λ i. counted 0 (touches (length (content_of (Some e.1))) 0 (other_file e.0 apart i)) + more found i) ∙ turned

-- ---- a piece's file is there, and its size is listed

module _ (after : Tree Mark) (sizes : List FileSize) where
  abbrev pub IsListed : CodePiece → Type 0
  IsListed p = (node : Node Mark) × (get after.nodes p.number ≡ Some node) × (length_after sizes p.number ≡ length (content_of (Some node)))

  pieces_listed : (ps : List CodePiece) → AllByRecursion (IsTrueOf after) (map piece_of ps) → AllByRecursion (λ (p : Piece). length_after sizes p.number ≡ file_size after p.number) (map piece_of ps) → AllByRecursion IsListed ps
  pieces_listed [] true_of long = tt
  pieces_listed (p ∷ ps) true_of long = (at (get after.nodes p.number) refl (true_of.0.said 0 true_of.0.filled) long.0, pieces_listed ps true_of.1 long.1)
    where
      at : (o : Option (Node Mark)) → get after.nodes p.number ≡ o → slice_get (content_of o) (p.start + 0) ≡ Some (mark_of_source (piece_of p).source 0) → length_after sizes p.number ≡ length (content_of o) → IsListed p
      at None is stands size = cc
      at (Some node) is stands size = (node, is, size)

nothing_counted : (es : List (ℕ × Node Mark)) → counted_files [] es ≡ 0
unfolding counted_files counted touches
nothing_counted [] = refl
nothing_counted (e ∷ es) = ap (λ n. 0 + n) (nothing_counted es)

-- ---- what the loop keeps

-- so much is counted, and the rest is what is left to count
abbrev pub Counts : (sizes : List FileSize) (pieces : List CodePiece) (total : ℕ) (rest : List CodePiece) → Type 0
Counts sizes pieces total rest = (after : Tree Mark) → ArePieces after (map piece_of pieces) → AllByRecursion (λ (p : Piece). length_after sizes p.number ≡ file_size after p.number) (map piece_of pieces)
    → (total + counted_files (map piece_of rest) after.nodes.entries ≡ counted_files (map piece_of pieces) after.nodes.entries) × AllByRecursion (IsListed after sizes) rest

-- the numbers of the rest are at least one above which so much isn't counted
abbrev pub IsLow : (total : ℕ) (rest : List CodePiece) → Type 0
IsLow total rest = (k : ℕ) × (k ≤ 4294967296) × AreByNumber k rest × (total ≤ k * 2097152)

pub counts_first : (sizes : List FileSize) (pieces : List CodePiece) → Counts sizes pieces 0 pieces
counts_first sizes pieces after are long =
    let none : 0 + counted_files (map piece_of pieces) after.nodes.entries ≡ counted_files (map piece_of pieces) after.nodes.entries = omega arith in
    (none, pieces_listed after sizes pieces are.said long)

pub counts_last : (sizes : List FileSize) (pieces : List CodePiece) (total : ℕ) (rest : List CodePiece) → rest ≡ [] → Counts sizes pieces total rest
    → (after : Tree Mark) → ArePieces after (map piece_of pieces) → AllByRecursion (λ (p : Piece). length_after sizes p.number ≡ file_size after p.number) (map piece_of pieces) → total ≡ need after
counts_last sizes pieces total rest empty counts after are long =
    let none : total ≡ total + 0 = omega arith in
    none
    ∙ ap (λ n. total + n) (sym (nothing_counted after.nodes.entries))
    ∙ ap (λ rs. total + counted_files (map piece_of rs) after.nodes.entries) (sym empty)
    ∙ (counts after are long).0
    ∙ sym (need_is_counted after (map piece_of pieces) are)

from_first : (k : ℕ) (rest : List CodePiece) (d : CodePiece) → 0 < length rest → get_or rest 0 d ≡ d → AreByNumber k rest → (k ≤ d.number) × AreByNumber d.number rest
from_first k [] d some is order = absurd (omega arith)
from_first k (p ∷ ps) d some is order =
    let number = ap (λ (p : CodePiece). p.number) is in
    subst (λ n. (k ≤ n) × ((n ≤ p.number) × AreByNumber p.number ps)) number (order.0, ((let same : p.number ≤ p.number = omega arith in same), order.1))

module _ (rest : List CodePiece) (d : CodePiece) (some : 0 < length rest) (is : get_or rest 0 d ≡ d) where
  pub front_some : 1 ≤ front_len d.number rest
  front_some = at rest some is
    where
      at : (ps : List CodePiece) → 0 < length ps → get_or ps 0 d ≡ d → 1 ≤ front_len d.number ps
      at [] some is = absurd (omega arith)
      at (p ∷ ps) some is = subst (λ n. 1 ≤ n) (sym (ap (λ b. cond b (suc (front_len d.number ps)) 0) (eq-eqb p.number d.number (ap (λ (p : CodePiece). p.number) is)))) (let e : 1 ≤ suc (front_len d.number ps) = omega arith in e)

  pub low_next : (total blocks : ℕ) → d.number < 4294967296 → blocks ≤ 2097152 → IsLow total rest → IsLow (total + blocks) (drop (front_len d.number rest) rest)
  low_next total blocks wide few low =
      let (k, limit, order, small) = low in
      let first = from_first k rest d some is order in
      let least = first.0 in (
        d.number + 1,
        (let e : d.number + 1 ≤ 4294967296 = omega arith in e),
        behind_front d.number rest first.1,
        (let f : total + blocks ≤ (d.number + 1) * 2097152 = omega arith in f),
      )

  pub counts_next : (sizes : List FileSize) (pieces : List CodePiece) (total blocks : ℕ) → IsLow total rest
      → blocks ≡ counted 0 (touches (length_after sizes d.number) 0 (map piece_of (take (front_len d.number rest) rest)))
      → Counts sizes pieces total rest → Counts sizes pieces (total + blocks) (drop (front_len d.number rest) rest)
  unfolding get
  counts_next sizes pieces total blocks low count counts after are long =
      let n = d.number in
      let part = take (front_len n rest) rest in
      let behind = drop (front_len n rest) rest in
      let (k, limit, order, small) = low in
      let first = from_first k rest d some is order in
      let now = counts after are long in
      let (node, there, size) = subst (IsListed after sizes) is (all_at (IsListed after sizes) rest 0 d some now.1) in
      let es = after.nodes.entries in
      let split : map piece_of rest ≡ map piece_of part ++ map piece_of behind = ap (map piece_of) (sym (take-append-drop (front_len n rest) rest)) ∙ map-append piece_of part behind in
      let one = one_part n part behind (front_is_of n rest) (behind_front n rest first.1) es after.nodes.sorted node there in
      let is_part : blocks ≡ counted 0 (touches (length (content_of (Some node))) 0 (map piece_of part)) = count ∙ ap (λ s. counted 0 (touches s 0 (map piece_of part))) size in
      let plus : total + blocks + counted_files (map piece_of behind) es ≡ total + (blocks + counted_files (map piece_of behind) es) = omega arith in (
        plus ∙ ap (λ b. total + (b + counted_files (map piece_of behind) es)) is_part ∙ ap (λ c. total + c) (sym one) ∙ ap (λ rs. total + counted_files rs es) (sym split) ∙ now.0,
        all_drop (IsListed after sizes) (front_len n rest) rest now.1,
      )
