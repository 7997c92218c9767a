-- Right plans say the same, and what says the same in pieces that are in order is right.
use Rattle.std.proofs.Common.{◌≡◌, ℕ, ◌+◌, ◌-◌, ◌<◌, ◌≤◌, Bool, true, false, ◌&&◌, ◌||◌, leb, ltb, eqb, cond, List, [], ◌∷◌, map, Option, Some, None, ◌⊎◌, nat_eq, refl, sym, ap, subst, ◌∙◌, arith}
use Rattle.std.specs.List.{list_any, AllByRecursion}
use Rattle.std.proofs.lemmas.Bool.{both_ways}
use Rattle.std.proofs.lemmas.Bool.Decides.{nat_tests}
use Rattle.kfs_model.specs.Tree.{Tree, headers}
use Rattle.kfs_model.specs.Run.{Mark}
use Rattle.kfs_model.specs.PlanRow.{NameRow, NodeRow, Piece, Source, Plan}
use Rattle.kfs_model.specs.Plan.{mark_at, mark_of_source, is_base, end_of, covers, PiecesAscend, IsTrueOf, ArePieces, IsRight, keyed_name, keyed_node, number_now, header_now}
use Rattle.kfs_model.specs.PlanCut.{mark_in_pieces, SaySame, AreInOrder}
use Rattle.kfs_model.specs.FirstWrong.{same_header}
use Rattle.kfs_model.proofs.Exact.{numbers-exact, headers-exact}
use Rattle.kfs_model.proofs.Differences.{differences_only}
use Rattle.kfs_model.proofs.Pieces.{none_before}

-- a byte's mark where the log changed it
abbrev pub changed_mark : Option Mark → Option Mark
changed_mark None = None
changed_mark (Some (Mark.Base number place)) = None
changed_mark (Some Mark.Zero) = Some Mark.Zero
changed_mark (Some (Mark.Payload entry place)) = Some (Mark.Payload entry place)

pub changed_mark-said : (source : Source) (distance : ℕ) → changed_mark (Some (mark_of_source source distance)) ≡ Some (mark_of_source source distance)
changed_mark-said Source.Zero distance = refl
changed_mark-said (Source.Payload entry place) distance = refl

covers_parts : (m s e n i : ℕ) → (eqb m n && leb s i && ltb i e) ≡ true → (m ≡ n) × ((s ≤ i) × (i < e))
covers_parts m s e n i h = grind (arith, nat_tests)

within : (n s e d : ℕ) → s + d < e → (eqb n n && leb s (s + d) && ltb (s + d) e) ≡ true
within n s e d h = grind (arith, nat_tests)

ascend_tail : (p : Piece) (ps : List Piece) → PiecesAscend (p ∷ ps) → PiecesAscend ps
ascend_tail p [] ascending = tt
ascend_tail p (q ∷ rest) ascending = ascending.1

-- the pieces around a byte say its mark
said_inside : (n i : ℕ) (ps : List Piece) (mark : Mark) → mark_in_pieces ps n i ≡ Some mark → list_any (covers n i) ps ≡ true
said_inside n i [] mark said = cc
said_inside n i (p ∷ ps) mark said = at (covers n i p) said (said_inside n i ps mark)
  where
    at : (b : Bool) → cond b (Some (mark_of_source p.source (i - p.start))) (mark_in_pieces ps n i) ≡ Some mark → (mark_in_pieces ps n i ≡ Some mark → list_any (covers n i) ps ≡ true) → (b || list_any (covers n i) ps) ≡ true
    at true said rest = refl
    at false said rest = rest said

inside_is_before : (m s e n i r q : ℕ) → (eqb m n && leb s i && ltb i e) ≡ true → (m < r) ⊎ ((m ≡ r) × (e ≤ q)) → (n < r) ⊎ ((n ≡ r) × (i < q))
inside_is_before m s e n i r q h behind = grind (arith, nat_tests)

-- a byte of a piece is in none behind it
behind_apart : (n i : ℕ) (p : Piece) (ps : List Piece) → PiecesAscend (p ∷ ps) → covers n i p ≡ true → list_any (covers n i) ps ≡ false
behind_apart n i p [] ascending inside = refl
behind_apart n i p (q ∷ rest) ascending inside = none_before n i q rest ascending.1 (inside_is_before p.number p.start (end_of p) n i q.number q.start inside ascending.0)

module _ (after : Tree Mark) where
  -- a piece that is true gives a byte in it the byte's mark
  said_is : (n i : ℕ) (p : Piece) → IsTrueOf after p → covers n i p ≡ true → mark_at after n i ≡ Some (mark_of_source p.source (i - p.start))
  said_is n i p true_of inside =
      let (number, (low, high)) = covers_parts p.number p.start (end_of p) n i inside in
      let place : p.start + (i - p.start) ≡ i = omega arith in
      subst (λ n. mark_at after n i ≡ Some (mark_of_source p.source (i - p.start))) number
      (subst (λ j. mark_at after p.number j ≡ Some (mark_of_source p.source (i - p.start))) place (true_of.said (i - p.start) (omega arith)))

  not_covered : (o : Option Mark) → ((mark : Mark) → o ≡ Some mark → is_base mark ≡ false → false ≡ true) → None ≡ changed_mark o
  not_covered None h = refl
  not_covered (Some (Mark.Base number place)) h = refl
  not_covered (Some Mark.Zero) h = cc (h Mark.Zero refl refl)
  not_covered (Some (Mark.Payload entry place)) h = cc (h (Mark.Payload entry place) refl refl)

  said_is_changed : (n i : ℕ) (ps : List Piece) → AllByRecursion (IsTrueOf after) ps → ((mark : Mark) → mark_at after n i ≡ Some mark → is_base mark ≡ false → list_any (covers n i) ps ≡ true) → mark_in_pieces ps n i ≡ changed_mark (mark_at after n i)
  said_is_changed n i [] said covered = not_covered (mark_at after n i) covered
  said_is_changed n i (p ∷ ps) said covered = at (covers n i p) refl (said_is_changed n i ps said.1) covered
    where
      at : (b : Bool) → covers n i p ≡ b → (((mark : Mark) → mark_at after n i ≡ Some mark → is_base mark ≡ false → list_any (covers n i) ps ≡ true) → mark_in_pieces ps n i ≡ changed_mark (mark_at after n i))
          → ((mark : Mark) → mark_at after n i ≡ Some mark → is_base mark ≡ false → (b || list_any (covers n i) ps) ≡ true)
          → cond b (Some (mark_of_source p.source (i - p.start))) (mark_in_pieces ps n i) ≡ changed_mark (mark_at after n i)
      at true e rest covered = sym (ap changed_mark (said_is n i p said.0 e) ∙ changed_mark-said p.source (i - p.start))
      at false e rest covered = rest covered

  pub said_of_pieces : (ps : List Piece) → ArePieces after ps → (n i : ℕ) → mark_in_pieces ps n i ≡ changed_mark (mark_at after n i)
  said_of_pieces ps h n i = said_is_changed n i ps h.said (h.covered n i)

  -- ---- pieces that say the same in order

  SaysOnlyTrue : List Piece → Type 0
  SaysOnlyTrue ps = (n i : ℕ) (mark : Mark) → mark_in_pieces ps n i ≡ Some mark → mark_at after n i ≡ Some mark

  head_is_true : (p : Piece) (ps : List Piece) → SaysOnlyTrue (p ∷ ps) → 0 < p.length → IsTrueOf after p
  unfolding SaysOnlyTrue
  head_is_true p ps only filled = record {
    filled = filled;
    said = λ d below.
        let inside : covers p.number (p.start + d) p ≡ true = within p.number p.start (end_of p) d (omega arith) in
        let back : p.start + d - p.start ≡ d = omega arith in
        only p.number (p.start + d) (mark_of_source p.source d) (ap (λ b. cond b (Some (mark_of_source p.source (p.start + d - p.start))) (mark_in_pieces ps p.number (p.start + d))) inside ∙ ap (λ d. Some (mark_of_source p.source d)) back);
  }

  tail_says_true : (p : Piece) (ps : List Piece) → PiecesAscend (p ∷ ps) → SaysOnlyTrue (p ∷ ps) → SaysOnlyTrue ps
  unfolding SaysOnlyTrue
  tail_says_true p ps ascending only n i mark said = at (covers n i p) refl
    where
      at : (b : Bool) → covers n i p ≡ b → mark_at after n i ≡ Some mark
      at true e = absurd (both_ways (list_any (covers n i) ps) (behind_apart n i p ps ascending e) (said_inside n i ps mark said))
      at false e = only n i mark (ap (λ b. cond b (Some (mark_of_source p.source (i - p.start))) (mark_in_pieces ps n i)) e ∙ said)

  all_true : (ps : List Piece) → PiecesAscend ps → AllByRecursion (λ (p : Piece). 0 < p.length) ps → SaysOnlyTrue ps → AllByRecursion (IsTrueOf after) ps
  all_true [] ascending filled only = tt
  all_true (p ∷ ps) ascending filled only =
      (head_is_true p ps only filled.0, all_true ps (ascend_tail p ps ascending) filled.1 (tail_says_true p ps ascending only))

  pub is_changed : (o : Option Mark) (mark : Mark) → changed_mark o ≡ Some mark → o ≡ Some mark
  is_changed None mark e = cc
  is_changed (Some (Mark.Base number place)) mark e = cc
  is_changed (Some Mark.Zero) mark e = e
  is_changed (Some (Mark.Payload entry place)) mark e = e

  pub stays_changed : (mark : Mark) → is_base mark ≡ false → changed_mark (Some mark) ≡ Some mark
  stays_changed (Mark.Base number place) e = cc
  stays_changed Mark.Zero e = refl
  stays_changed (Mark.Payload entry place) e = refl

  -- pieces in order that say the mark of each changed byte, and of no other one, are right
  pub pieces_from_said : (others : List Piece) → AreInOrder others → ((n i : ℕ) → mark_in_pieces others n i ≡ changed_mark (mark_at after n i)) → ArePieces after others
  unfolding SaysOnlyTrue
  pieces_from_said others order marks = record {
    ascending = order.ascending;
    said = all_true others order.ascending order.filled (λ n i mark said. is_changed _ mark (sym (marks n i) ∙ said));
    covered = λ n i mark stands changed. said_inside n i others mark (marks n i ∙ ap changed_mark stands ∙ stays_changed mark changed);
  }

  pub pieces_cut_anew : (ps others : List Piece) → ArePieces after ps → ((n i : ℕ) → mark_in_pieces ps n i ≡ mark_in_pieces others n i) → AreInOrder others → ArePieces after others
  pieces_cut_anew ps others right same order = pieces_from_said others order (λ n i. sym (same n i) ∙ said_of_pieces ps right n i)

-- ---- the rows of a list, by their keys

map_injective : {X Y : Type 0} (f : X → Y) → ((x y : X) → f x ≡ f y → x ≡ y) → (xs ys : List X) → map f xs ≡ map f ys → xs ≡ ys
map_injective f back [] [] e = refl
map_injective f back [] (y ∷ ys) e = cc
map_injective f back (x ∷ xs) [] e = cc
map_injective f back (x ∷ xs) (y ∷ ys) e =
    let rest = map_injective f back xs ys cc in
    let head = back x y cc in
    λ i. head i ∷ rest i

name_back : (row other : NameRow) → keyed_name row ≡ keyed_name other → row ≡ other
name_back row other e = λ i. record { directory = (e i).0.0; name = (e i).0.1; number = (e i).1 }

node_back : (row other : NodeRow) → keyed_node row ≡ keyed_node other → row ≡ other
node_back row other e = λ i. record { number = (e i).0; now = (e i).1 }

module _ {B : Type 0} (before : Tree B) (after : Tree Mark) (plan other : Plan) where
  pub right_say_same : IsRight before after plan → IsRight before after other → SaySame plan other
  right_say_same right also = record {
    names = map_injective keyed_name name_back plan.names other.names
        (differences_only nat_eq numbers-exact number_now before.names after.names (map keyed_name plan.names) right.names
        ∙ sym (differences_only nat_eq numbers-exact number_now before.names after.names (map keyed_name other.names) also.names));
    nodes = map_injective keyed_node node_back plan.nodes other.nodes
        (differences_only same_header headers-exact header_now (headers before) (headers after) (map keyed_node plan.nodes) right.nodes
        ∙ sym (differences_only same_header headers-exact header_now (headers before) (headers after) (map keyed_node other.nodes) also.nodes));
    bytes = λ n i. said_of_pieces after plan.pieces right.pieces n i ∙ sym (said_of_pieces after other.pieces also.pieces n i);
  }

  pub right_cut_anew : IsRight before after plan → SaySame plan other → AreInOrder other.pieces → IsRight before after other
  right_cut_anew right same order = record {
    names = rw (← same.names) right.names;
    nodes = rw (← same.nodes) right.nodes;
    pieces = pieces_cut_anew after plan.pieces other.pieces right.pieces same.bytes order;
  }
