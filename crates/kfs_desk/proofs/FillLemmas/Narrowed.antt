-- The pieces of a part of a list say of a block what all of them say.
use Rattle.std.proofs.Common.{◌≡◌, ℕ, length, drop, subst, zero, suc, map, ◌*◌, ◌+◌, ◌-◌, ◌<◌, ◌≤◌, ◌⊎◌, inr, Bool, true, false, cond, ltb, leb, eqb, ◌||◌, ◌&&◌, List, [], ◌∷◌, Some, None, refl, sym, ap, ◌∙◌, arith}
use Rattle.std.proofs.Math.ListN.{get_or}
use Rattle.std.proofs.lemmas.Bool.Decides.{nat_tests}
use Rattle.std.proofs.lemmas.List.{drop_more}
use Rattle.kfs_model.specs.Plan.{mark_of_source, covers, end_of, ComesBy, PiecesAscend}
use Rattle.kfs_model.specs.PlanCut.{mark_in_pieces}
use Rattle.kfs_model.specs.PlanRow.{Piece}
use Rattle.kfs_model.specs.Run.{byte_at, byte_of}
use Rattle.kfs_model.specs.Entry.{Entry}
use Rattle.kfs_model.specs.Limits.{block_size}
use Rattle.kfs_model.specs.Placement.{numbers_from, below}
use Rattle.kfs_model.specs.Table.{get}
use Rattle.kfs_model.specs.Tree.{Tree, content_of}
use Rattle.kfs_desk.specs.Fill.Bytes.{ends_by, begins_before, reaching, beginning, BlocksAscend}
use Rattle.kfs_desk.specs.Fill.Fill.{byte_after, block_after}

-- ---- over plain numbers

over_by : (k s e n q m r : ℕ) → (ltb k n || (eqb k n && leb e q)) ≡ true → (n < m) ⊎ ((n ≡ m) × (q ≤ r)) → (eqb k m && leb s r && ltb r e) ≡ false
over_by k s e n q m r over comes = grind (arith, nat_tests)

not_before : (k s n q m r : ℕ) → (ltb k n || (eqb k n && ltb s q)) ≡ false → (m < n) ⊎ ((m ≡ n) × (r < q)) → (m < k) ⊎ ((m ≡ k) × (r < s))
not_before k s n q m r begins before = grind (arith, nat_tests)

not_yet : (k s e m r : ℕ) → (m < k) ⊎ ((m ≡ k) × (r < s)) → (eqb k m && leb s r && ltb r e) ≡ false
not_yet k s e m r before = grind (arith, nat_tests)

before_next : (k s l j t m r : ℕ) → (m < k) ⊎ ((m ≡ k) × (r < s)) → (k < j) ⊎ ((k ≡ j) × (s + l ≤ t)) → (m < j) ⊎ ((m ≡ j) × (r < t))
before_next k s l j t m r before behind = grind arith

-- ---- what pieces say

said_past : (p : Piece) (ps : List Piece) (m r : ℕ) → covers m r p ≡ false → mark_in_pieces (p ∷ ps) m r ≡ mark_in_pieces ps m r
said_past p ps m r is = ap (λ b. cond b (Some (mark_of_source p.source (r - p.start))) (mark_in_pieces ps m r)) is

-- what is left of pieces says the same of each byte from that place on
pub said_reaching : (n q m r : ℕ) (ps : List Piece) → ComesBy n q m r → mark_in_pieces (reaching n q ps) m r ≡ mark_in_pieces ps m r
unfolding reaching
said_reaching n q m r [] comes = refl
said_reaching n q m r (p ∷ ps) comes = at (ends_by n q p) refl (said_reaching n q m r ps comes)
  where
    at : (b : Bool) → ends_by n q p ≡ b → mark_in_pieces (reaching n q ps) m r ≡ mark_in_pieces ps m r → mark_in_pieces (cond b (reaching n q ps) (p ∷ ps)) m r ≡ mark_in_pieces (p ∷ ps) m r
    at true over later = later ∙ sym (said_past p ps m r (over_by p.number p.start (end_of p) n q m r over comes))
    at false over later = refl

ascend_behind : (p : Piece) (ps : List Piece) → PiecesAscend (p ∷ ps) → PiecesAscend ps
ascend_behind p [] ascending = tt
ascend_behind p (o ∷ ps) ascending = ascending.1

pub ascend_reaching : (n q : ℕ) (ps : List Piece) → PiecesAscend ps → PiecesAscend (reaching n q ps)
unfolding reaching
ascend_reaching n q [] ascending = tt
ascend_reaching n q (p ∷ ps) ascending = at (ends_by n q p) (ascend_reaching n q ps (ascend_behind p ps ascending))
  where
    at : (b : Bool) → PiecesAscend (reaching n q ps) → PiecesAscend (cond b (reaching n q ps) (p ∷ ps))
    at true later = later
    at false later = ascending

none_yet : (m r : ℕ) (p : Piece) (ps : List Piece) → PiecesAscend (p ∷ ps) → (m < p.number) ⊎ ((m ≡ p.number) × (r < p.start)) → mark_in_pieces (p ∷ ps) m r ≡ None
none_yet m r p [] ascending before = said_past p [] m r (not_yet p.number p.start (end_of p) m r before)
none_yet m r p (o ∷ ps) ascending before =
    said_past p (o ∷ ps) m r (not_yet p.number p.start (end_of p) m r before)
    ∙ none_yet m r o ps ascending.1 (before_next p.number p.start p.length o.number o.start m r before ascending.0)

-- the front of pieces says the same of each byte before that place
pub said_beginning : (n q m r : ℕ) (ps : List Piece) → PiecesAscend ps → (m < n) ⊎ ((m ≡ n) × (r < q)) → mark_in_pieces (beginning n q ps) m r ≡ mark_in_pieces ps m r
unfolding beginning
said_beginning n q m r [] ascending before = refl
said_beginning n q m r (p ∷ ps) ascending before = at (begins_before n q p) refl (said_beginning n q m r ps (ascend_behind p ps ascending) before)
  where
    at : (b : Bool) → begins_before n q p ≡ b → mark_in_pieces (beginning n q ps) m r ≡ mark_in_pieces ps m r → mark_in_pieces (cond b (p ∷ beginning n q ps) []) m r ≡ mark_in_pieces (p ∷ ps) m r
    at true begins later = ap (λ said. cond (covers m r p) (Some (mark_of_source p.source (r - p.start))) said) later
    at false begins later = sym (none_yet m r p ps ascending (not_before p.number p.start n q m r begins before))

-- ---- blocks one after another

map_numbers : (f g : ℕ → ℕ) (first count : ℕ) → ((k : ℕ) → first ≤ k → k < first + count → f k ≡ g k) → map f (numbers_from first count) ≡ map g (numbers_from first count)
map_numbers f g first zero same = refl
map_numbers f g first (suc count) same =
    let here : f first ≡ g first = same first (omega arith) (omega arith) in
    let later = map_numbers f g (first + 1) count (λ k from below. same k (omega (arith, from)) (omega (arith, below))) in
    λ i. here i ∷ later i

-- the bytes of a block by what pieces say of each
block_same : (before : Tree ℕ) (entries : List Entry) (pieces others : List Piece) (n b size : ℕ) → ((k : ℕ) → k < size → mark_in_pieces pieces n (b * size + k) ≡ mark_in_pieces others n (b * size + k))
    → map (λ k. byte_after before entries pieces n (b * size + k)) (below size) ≡ map (λ k. byte_after before entries others n (b * size + k)) (below size)
block_same before entries pieces others n b size same =
    map_numbers (λ k. byte_after before entries pieces n (b * size + k)) (λ k. byte_after before entries others n (b * size + k)) 0 size
    (λ k from below. ap (λ said. elim said as (λ _. ℕ) [ None ↦ byte_at (content_of (get before.nodes n)) (b * size + k) | Some mark ↦ byte_of before entries mark ]) (same k (omega (arith, below))))

-- what is left of pieces says of each byte from the first block on what all of them say
abbrev pub ReachesFrom : List (ℕ × ℕ) → (pieces left : List Piece) → Type 0
ReachesFrom [] pieces left = Unit {0}
ReachesFrom (b ∷ blocks) pieces left = (m r : ℕ) → ComesBy b.0 (b.1 * block_size) m r → mark_in_pieces left m r ≡ mark_in_pieces pieces m r

-- blocks that are left, and what is left of pieces for them
pub record AreLeft (blocks : List (ℕ × ℕ)) (pieces left : List Piece) : Type 0 where
  pub blocks_ascend : BlocksAscend blocks
  pub ascend : PiecesAscend left
  pub same : ReachesFrom blocks pieces left

pub all_left : (blocks : List (ℕ × ℕ)) (pieces : List Piece) → BlocksAscend blocks → PiecesAscend pieces → AreLeft blocks pieces pieces
all_left blocks pieces blocks_ascend ascend = record { blocks_ascend = blocks_ascend; ascend = ascend; same = all blocks }
  where
    all : (blocks : List (ℕ × ℕ)) → ReachesFrom blocks pieces pieces
    all [] = tt
    all (b ∷ bs) = λ m r comes. refl

later_block : (n b k c m r : ℕ) → (n < k) ⊎ ((n ≡ k) × (b ≤ c)) → (k < m) ⊎ ((k ≡ m) × (c * 4096 ≤ r)) → (n < m) ⊎ ((n ≡ m) × (b * 4096 ≤ r))
later_block n b k c m r next comes = grind arith

module _ (n b : ℕ) (blocks : List (ℕ × ℕ)) (pieces left : List Piece) (so_far : AreLeft ((n, b) ∷ blocks) pieces left) where
  abbrev pub left_now : List Piece
  left_now = reaching n (b * block_size) left

  said_now : (m r : ℕ) → ComesBy n (b * block_size) m r → mark_in_pieces left_now m r ≡ mark_in_pieces pieces m r
  said_now m r comes = said_reaching n (b * block_size) m r left comes ∙ so_far.same m r comes

  pub left_next : AreLeft blocks pieces left_now
  left_next = at blocks so_far.blocks_ascend
    where
      at : (blocks : List (ℕ × ℕ)) → BlocksAscend ((n, b) ∷ blocks) → AreLeft blocks pieces left_now
      at [] ascend = record { blocks_ascend = tt; ascend = ascend_reaching n (b * block_size) left so_far.ascend; same = tt }
      at (c ∷ rest) ascend = record {
        blocks_ascend = ascend.1;
        ascend = ascend_reaching n (b * block_size) left so_far.ascend;
        same = λ m r comes. said_now m r (later_block n b c.0 c.1 m r ascend.0 comes);
      }

  -- the block's own bytes
  said_within : (k : ℕ) → k < block_size → mark_in_pieces (beginning n (b * block_size + block_size) left_now) n (b * block_size + k) ≡ mark_in_pieces pieces n (b * block_size + k)
  said_within k below =
      said_beginning n (b * block_size + block_size) n (b * block_size + k) left_now (ascend_reaching n (b * block_size) left so_far.ascend) (inr (refl, (let e : b * 4096 + k < b * 4096 + 4096 = omega (arith, below) in e)))
      ∙ said_now n (b * block_size + k) (inr (refl, (let e : b * 4096 ≤ b * 4096 + k = omega arith in e)))

  pub block_left : (before : Tree ℕ) (entries : List Entry) → block_after before entries (beginning n (b * block_size + block_size) left_now) n b ≡ block_after before entries pieces n b
  block_left before entries = block_same before entries (beginning n (b * block_size + block_size) left_now) pieces n b block_size said_within

module _ (blocks : List (ℕ × ℕ)) (index : ℕ) (d : ℕ × ℕ) (pieces left now : List Piece) (block : ℕ) (inside : index < length blocks)
    (so_far : AreLeft (drop index blocks) pieces left) (is : block ≡ (get_or blocks index d).1) (reached : now ≡ reaching (get_or blocks index d).0 (block * 4096) left) where
  with_first : AreLeft (get_or blocks index d ∷ drop (index + 1) blocks) pieces left
  with_first = subst (λ bs. AreLeft bs pieces left) (drop_more blocks index d inside) so_far

  reached_there : now ≡ reaching (get_or blocks index d).0 ((get_or blocks index d).1 * block_size) left
  reached_there = reached ∙ ap (λ b. reaching (get_or blocks index d).0 (b * 4096) left) is

  pub left_behind : AreLeft (drop (index + 1) blocks) pieces now
  left_behind =
      subst (AreLeft (drop (index + 1) blocks) pieces) (sym reached_there)
      (left_next (get_or blocks index d).0 (get_or blocks index d).1 (drop (index + 1) blocks) pieces left with_first)

  pub bytes_there : (before : Tree ℕ) (entries : List Entry) (part : List Piece) → part ≡ beginning (get_or blocks index d).0 (block * 4096 + 4096) now
      → block_after before entries part (get_or blocks index d).0 (get_or blocks index d).1 ≡ block_after before entries pieces (get_or blocks index d).0 (get_or blocks index d).1
  bytes_there before entries part begun =
      ap (λ ps. block_after before entries ps (get_or blocks index d).0 (get_or blocks index d).1)
      (begun ∙ (λ i. beginning (get_or blocks index d).0 (is i * 4096 + 4096) (reached_there i)))
      ∙ block_left (get_or blocks index d).0 (get_or blocks index d).1 (drop (index + 1) blocks) pieces left with_first before entries
