-- The ways that climbs have gone in a view: its links from a directory to its parent, laid out as one
-- list, where the parent stands at the next place. After a stop that isn't said.
use Rattle.std.specs.Prelude.{◌≡◌, ℕ, zero, suc, ◌+◌, ◌<◌, ◌==◌, Bool, true, false, List, length, map, slice_index_or, Option, Some}
use Rattle.std.specs.List.{list_any}
use Rattle.std.specs.Ordering.{nat_cmp}
use Rattle.std.specs.BTreeSet.{contains}
use Rattle.kfs_model.specs.Sight.{ClientSight, Cell, ParentOf, climbed}
use Rattle.kfs_judge_reads.specs.declared.reads.Read.{Read}
use Rattle.kfs_judge_reads.specs.declared.reads.ReadAnswer.{ReadAnswer}
use Rattle.kfs_judge_reads.specs.declared.climbs.Climbs.{Climbs}
use Rattle.kfs_judge_reads.specs.Reads.{Always}

-- whether the number is one of these
abbrev pub is_among : List ℕ → ℕ → Bool
is_among numbers n = list_any (λ m. m == n) numbers

-- the cells of the nodes that a climb passes
abbrev pub climbed_cells : (ℕ → Option ℕ) → (fuel from : ℕ) → List Cell
climbed_cells parent fuel from = map ParentOf (climbed parent fuel from)

-- a climb from the one node reaches the other in so many steps, and passes this node on no step
unfoldable pub IsWay : (ℕ → Option ℕ) → (node steps from last : ℕ) → Type 0
IsWay parent node zero from last = from ≡ last
IsWay parent node (suc steps) from last = (up : ℕ) × (from ≡ node → ⊥) × (parent from ≡ Some up) × IsWay parent node steps up last

module _ {A : Type 0} where
  -- the directories, in order
  abbrev pub order_of : Climbs A → List ℕ
  order_of climbs = climbs.order.keys

  abbrev pub directory_at : Climbs A → (place : ℕ) → ℕ
  directory_at climbs place = slice_index_or (order_of climbs) place 0

  abbrev pub is_stop : Climbs A → (place : ℕ) → Bool
  is_stop climbs place = contains nat_cmp climbs.stops place

  -- up to each stop, a directory's parent stands at the next place
  abbrev pub HasLinks : (ℕ → Option ℕ) → Climbs A → Type 0
  HasLinks parent climbs = (place : ℕ) → place + 1 < length (order_of climbs) → is_stop climbs place ≡ false → parent (directory_at climbs place) ≡ Some (directory_at climbs (place + 1))

  -- these are the parents of the directories
  pub record LinksHold (parent : ℕ → Option ℕ) (climbs : Climbs A) : Type 0 where
    pub links : HasLinks parent climbs
    pub next : (up last : ℕ) → last + 1 ≡ length (order_of climbs) → climbs.next ≡ Some up → parent (directory_at climbs last) ≡ Some up

  -- the directories for which this holds have a stop at their place
  abbrev pub StopsAt : (ℕ → Bool) → Climbs A → Type 0
  StopsAt are climbs = (place : ℕ) → place < length (order_of climbs) → are (directory_at climbs place) ≡ true → is_stop climbs place ≡ true

  abbrev pub is_taken : Climbs A → ℕ → Bool
  is_taken climbs = is_among climbs.moved.items

  -- the directories for which this holds have their stops, and those that were given stops are among them
  pub record Follows (are : ℕ → Bool) (climbs : Climbs A) : Type 0 where
    pub stops : StopsAt are climbs
    pub taken : (n : ℕ) → is_taken climbs n ≡ true → are n ≡ true

  -- the links are those of each state that agrees with the reads, and the directories that were given stops have them
  pub record ClimbsHold (entries : List (Read × ReadAnswer)) (climbs : Climbs A) : Type 0 where
    pub links : Always entries (λ state. LinksHold state.sight.parent climbs)
    pub stops : StopsAt (is_taken climbs) climbs

-- it is a way along any parents that are the state's, but for the directories for which this holds
abbrev pub IsWayOver : (ℕ → Bool) → (node steps from last : ℕ) → ClientSight → Type 0
IsWayOver are node steps from last state = (parent : ℕ → Option ℕ) → ((n : ℕ) → are n ≡ false → parent n ≡ state.sight.parent n) → IsWay parent node steps from last
