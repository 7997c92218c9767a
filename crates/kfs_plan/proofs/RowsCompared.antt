-- The rows of a plan against those of a net, by the code's tests and by those of the definitions.
use Rattle.std.specs.Prelude.{◌≡◌, ℕ, suc, ◌+◌, ◌==◌, ◌&&◌, not, min, is_some, nat_eq, Bool, true, false, cond, List, [], ◌∷◌, map, zip, position, length, Option, Some, None, refl}
use Rattle.std.specs.List.{position_from}
use Rattle.std.specs.Option.{option_map, option_eq}
use Rattle.std.proofs.Common.{ap, sym, ◌∙◌, arith, inl, inr}
use Rattle.std.proofs.lemmas.Bool.{eq-eqb, ne_eqb, cases_eq}
use Rattle.std.proofs.lemmas.Iterator.Adapters.{position_from-zero}
use Rattle.kfs_model.specs.FirstWrong.{Names, Nodes, Pieces, same_kind, same_header, same_headers, same_place, same_pair, first_difference, first_wrong_piece, or_else}
use Rattle.kfs_pieces.specs.PiecesApart.{first_apart}
use Rattle.kfs_model.specs.Plan.{ArePieces}
use Rattle.kfs_model.specs.Run.{Mark}
use Rattle.kfs_model.specs.Tree.{Tree}
use Rattle.kfs_pieces.proofs.PiecesApart.{first_wrong_is_apart}
use Rattle.kfs_types.specs.Views.{header_of, kind_of, piece_of}
use Rattle.kfs_types.specs.declared.entry.Kind.{Kind as CodeKind}
use Rattle.kfs_types.specs.declared.entry.Kind.TheVariants as kinds
use Rattle.kfs_types.specs.declared.entry.Header.{Header as CodeHeader}
use Rattle.kfs_types.specs.declared.plan.NameRow.{NameRow as CodeNameRow}
use Rattle.kfs_types.specs.declared.plan.NodeRow.{NodeRow as CodeNodeRow}
use Rattle.kfs_types.specs.declared.plan.Piece.{Piece as CodePiece}
use Rattle.kfs_types.specs.declared.plan.Plan.{Plan as CodePlan}
use Rattle.kfs_types.specs.contracts.plan.NodeRowPartialEq.TheImpl as nodes
use Rattle.kfs_types.specs.contracts.entry.HeaderPartialEq.TheImpl as heads
use Rattle.kfs_types.specs.contracts.entry.KindPartialEq.TheImpl as kind_tests
use Rattle.kfs_image_nodes.specs.declared.net.Net.{Net}
use Rattle.kfs_plan.specs.PlanCheck.{at_end, first_unlike}
use Rattle.kfs_judge.specs.Step.Rows.{keyed_name_row, keyed_node_row}

-- ---- the first difference, by a search for a pair that differs

pub at_end-some : (found : Option ℕ) (n m : ℕ) → is_some found ≡ true → at_end found n m ≡ found
at_end-some (Some k) n m is = refl
at_end-some None n m is = cc

pub at_end-equal : (found : Option ℕ) (n m : ℕ) → is_some found ≡ false → n ≡ m → at_end found n m ≡ None
at_end-equal (Some k) n m is same = cc
at_end-equal None n m is same = ap (λ (b : Bool). cond b None (Some (min n m))) (eq-eqb n m same)

pub at_end-shorter : (found : Option ℕ) (n m : ℕ) → is_some found ≡ false → (n ≡ m → ⊥) → at_end found n m ≡ Some (min n m)
at_end-shorter (Some k) n m is other = cc
at_end-shorter None n m is other = ap (λ (b : Bool). cond b None (Some (min n m))) (ne_eqb n m other)

at_end-later : (found : Option ℕ) (n m : ℕ) → option_map (λ k. k + 1) (at_end found n m) ≡ at_end (option_map (λ k. k + 1) found) (suc n) (suc m)
at_end-later (Some k) n m = refl
at_end-later None n m =
    elim (cases_eq n m) [
      | inl same ↦ ap (option_map (λ k. k + 1)) (at_end-equal None n m refl same) ∙ sym (at_end-equal None (suc n) (suc m) refl (ap suc same))
      | inr other ↦
          let next : min n m + 1 ≡ min (suc n) (suc m) = omega arith in
          ap (option_map (λ k. k + 1)) (at_end-shorter None n m refl other) ∙ ap Some next ∙ sym (at_end-shorter None (suc n) (suc m) refl (λ e. other (let same : n ≡ m = omega arith in same)))
    ]

at_end-first : (n : ℕ) → Some 0 ≡ at_end None 0 (suc n)
at_end-first n = let least : 0 ≡ min 0 (suc n) = omega arith in ap Some least ∙ sym (at_end-shorter None 0 (suc n) refl (λ e. cc))

at_end-second : (n : ℕ) → Some 0 ≡ at_end None (suc n) 0
at_end-second n = let least : 0 ≡ min (suc n) 0 = omega arith in ap Some least ∙ sym (at_end-shorter None (suc n) 0 refl (λ e. cc))

module _ {X : Type 0} (same : X → X → Bool) where
  abbrev pub unlike : X × X → Bool
  unlike p = not (same p.0 p.1)

  position-shifted : (i : ℕ) (pairs : List (X × X)) → position_from unlike (i + 1) pairs ≡ option_map (λ k. k + 1) (position_from unlike i pairs)
  position-shifted i [] = refl
  position-shifted i (p ∷ ps) = by (unlike p) (position-shifted (i + 1) ps)
    where
      by : (b : Bool) → position_from unlike (i + 1 + 1) ps ≡ option_map (λ k. k + 1) (position_from unlike (i + 1) ps) → cond b (Some (i + 1)) (position_from unlike (i + 1 + 1) ps) ≡ option_map (λ k. k + 1) (cond b (Some i) (position_from unlike (i + 1) ps))
      by true rest = refl
      by false rest = rest

  first_difference-from : (xs ys : List X) → first_difference same xs ys ≡ at_end (position_from unlike 0 (zip xs ys)) (length xs) (length ys)
  first_difference-from [] [] = refl
  first_difference-from [] (y ∷ ys) = at_end-first (length ys)
  first_difference-from (x ∷ xs) [] = at_end-second (length xs)
  first_difference-from (x ∷ xs) (y ∷ ys) = by (same x y) (first_difference-from xs ys)
    where
      by : (b : Bool) → first_difference same xs ys ≡ at_end (position_from unlike 0 (zip xs ys)) (length xs) (length ys)
          → ◌≡◌ {A = Option ℕ} (elim b [ true ↦ option_map (λ i. i + 1) (first_difference same xs ys) | false ↦ Some 0 ]) (at_end (cond (not b) (Some 0) (position_from unlike 1 (zip xs ys))) (suc (length xs)) (suc (length ys)))
      by true rest =
          ap (option_map (λ i. i + 1)) rest ∙ at_end-later (position_from unlike 0 (zip xs ys)) (length xs) (length ys)
          ∙ ap (λ o. at_end o (suc (length xs)) (suc (length ys))) (sym (position-shifted 0 (zip xs ys)))
      by false rest = refl

  pub first_difference-position : (xs ys : List X) → first_difference same xs ys ≡ at_end (position unlike (zip xs ys)) (length xs) (length ys)
  first_difference-position xs ys = first_difference-from xs ys ∙ ap (λ o. at_end o (length xs) (length ys)) (sym (position_from-zero unlike (zip xs ys)))

-- ---- rows as those of the definitions

module _ {X Y : Type 0} (same : X → X → Bool) (test : Y → Y → Bool) (view : X → Y) (alike : (x y : X) → same x y ≡ test (view x) (view y)) where
  pub first_difference-map : (xs ys : List X) → first_difference same xs ys ≡ first_difference test (map view xs) (map view ys)
  first_difference-map [] [] = refl
  first_difference-map [] (y ∷ ys) = refl
  first_difference-map (x ∷ xs) [] = refl
  first_difference-map (x ∷ xs) (y ∷ ys) =
      ap (λ (b : Bool). elim b as (λ _. Option ℕ) [ true ↦ option_map (λ i. i + 1) (first_difference same xs ys) | false ↦ Some 0 ]) (alike x y)
      ∙ ap (λ rest. elim (test (view x) (view y)) as (λ _. Option ℕ) [ true ↦ option_map (λ i. i + 1) rest | false ↦ Some 0 ]) (first_difference-map xs ys)

six : (a b c d e f : Bool) → (a && (b && (c && (d && (e && f))))) ≡ (a && b && c && d && e && f)
six true true true true true f = refl
six true true true true false f = refl
six true true true false e f = refl
six true true false d e f = refl
six true false c d e f = refl
six false b c d e f = refl

kinds-alike : (k l : CodeKind) → kind_tests.eq-value.it k l ≡ same_kind (kind_of k) (kind_of l)
kinds-alike kinds.File kinds.File = refl
kinds-alike kinds.File kinds.Directory = refl
kinds-alike kinds.Directory kinds.File = refl
kinds-alike kinds.Directory kinds.Directory = refl

headers-alike : (h g : CodeHeader) → heads.eq-value.it h g ≡ same_header (header_of h) (header_of g)
headers-alike h g =
    six (kind_tests.eq-value.it h.kind g.kind) (h.mode == g.mode) (h.uid == g.uid) (h.gid == g.gid) (h.links == g.links) (h.size == g.size)
    ∙ ap (λ (b : Bool). b && (h.mode == g.mode) && (h.uid == g.uid) && (h.gid == g.gid) && (h.links == g.links) && (h.size == g.size)) (kinds-alike h.kind g.kind)

options-alike : (x y : Option CodeHeader) → option_eq heads.eq-value.it x y ≡ same_headers (option_map header_of x) (option_map header_of y)
options-alike None None = refl
options-alike None (Some y) = refl
options-alike (Some x) None = refl
options-alike (Some x) (Some y) = headers-alike x y

pub node_rows-alike : (r q : CodeNodeRow) → nodes.eq-value.it r q ≡ same_pair nat_eq same_headers (keyed_node_row r) (keyed_node_row q)
node_rows-alike r q = ap (λ b. nat_eq r.number q.number && b) (options-alike r.now q.now)

-- ---- what the code's searches find, and the first row that isn't the net's

module _ {A : Type 0} (net : Net A (List ℕ)) (plan : CodePlan A (List ℕ)) where
  abbrev in_names : Option ℕ
  in_names = first_difference (same_pair same_place nat_eq) (map keyed_name_row plan.names) (map keyed_name_row net.names.items)

  abbrev in_nodes : Option ℕ
  in_nodes = first_difference (same_pair nat_eq same_headers) (map keyed_node_row plan.nodes) (map keyed_node_row net.nodes.items)

  pub name_found : (rows right : List (CodeNameRow (List ℕ))) (found shown : Option ℕ) → rows ≡ plan.names → right ≡ net.names.items
      → found ≡ first_difference (same_pair same_place nat_eq) (map keyed_name_row rows) (map keyed_name_row right) → found ≡ shown → in_names ≡ shown
  name_found rows right found shown rows_are right_are is here =
      (λ i. first_difference (same_pair same_place nat_eq) (map keyed_name_row (sym rows_are i)) (map keyed_name_row (sym right_are i))) ∙ sym is ∙ here

  pub node_found : (rows right : List CodeNodeRow) (found shown : Option ℕ) → rows ≡ plan.nodes → right ≡ net.nodes.items → found ≡ first_difference nodes.eq-value.it rows right → found ≡ shown → in_nodes ≡ shown
  node_found rows right found shown rows_are right_are is here =
      sym (first_difference-map nodes.eq-value.it (same_pair nat_eq same_headers) keyed_node_row node_rows-alike plan.nodes net.nodes.items)
      ∙ (λ i. first_difference nodes.eq-value.it (sym rows_are i) (sym right_are i)) ∙ sym is ∙ here

  module _ (after : Tree Mark) where
    abbrev in_pieces : Option ℕ
    in_pieces = first_wrong_piece after (map piece_of plan.pieces)

    pub unlike-name : (index : ℕ) → in_names ≡ Some index → first_unlike net after plan ≡ Some (Names index)
    unlike-name index here = ap (λ o. or_else Names o (or_else Nodes in_nodes (or_else Pieces in_pieces None))) here

    pub unlike-node : (index : ℕ) → in_names ≡ None → in_nodes ≡ Some index → first_unlike net after plan ≡ Some (Nodes index)
    unlike-node index no_name here = λ i. or_else Names (no_name i) (or_else Nodes (here i) (or_else Pieces in_pieces None))

    pub unlike-piece : (found : Option ℕ) → in_names ≡ None → in_nodes ≡ None → in_pieces ≡ found → first_unlike net after plan ≡ or_else Pieces found None
    unlike-piece found no_name no_node here = λ i. or_else Names (no_name i) (or_else Nodes (no_node i) (or_else Pieces (here i) None))

    -- the first piece that is apart from right ones, whichever these are
    pub piece_found : (rows right : List CodePiece) (found shown : Option ℕ) → rows ≡ plan.pieces → ArePieces after (map piece_of right) → found ≡ first_apart 0 (map piece_of rows) (map piece_of right) → found ≡ shown → in_pieces ≡ shown
    piece_found rows right found shown rows_are are is here =
        ap (λ ps. first_wrong_piece after (map piece_of ps)) (sym rows_are) ∙ first_wrong_is_apart after (map piece_of right) (map piece_of rows) are ∙ sym is ∙ here
