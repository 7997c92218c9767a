-- What tasks come to, one after another and side by side.
use Rattle.std.specs.Prelude.{◌≡◌, ℕ, ◌+◌, ◌<◌, ◌≤◌, List, ◌∷◌, [], ◌++◌, length, map, reverse}
use Rattle.std.specs.List.{concat}
use Rattle.kfs_shared.specs.Turns.Lists.{StartsWith, Has, AreDistinct}
use Rattle.kfs_shared.specs.Crew.Crew.{Pairs}
use Rattle.kfs_shared.specs.Crew.Shares.{dealt, share_from}

-- they rise, from the one number on, and are below the other
abbrev pub AscendWithin : (from : ℕ) → List ℕ → (to : ℕ) → Type 0
AscendWithin from [] to = from ≤ to
AscendWithin from (k ∷ ks) to = (from ≤ k) × AscendWithin (k + 1) ks to

-- the numbers of all elements, in their order
abbrev pub all_of : {X : Type 0} → (X → List ℕ) → List X → List ℕ
all_of numbers xs = concat (map numbers xs)

-- from the one moment to the other a pass has seen more rows, and has added rows of its own at these positions, in their order
pub record HasWorked {W : Type 0} (seen : List W) (own : List ℕ) (positions : List ℕ) (seen_then : List W) (own_then : List ℕ) : Type 0 where
  pub begins : StartsWith seen_then seen
  pub owns : own_then ≡ own ++ positions
  pub ascend : AscendWithin (length seen) positions (length seen_then)

module _ {W T : Type 0} (P : List W → T → T → Type 0) where
  -- the task was done, when the docket was a beginning of this one
  abbrev pub IsDoneIn : List W → T → T → Type 0
  IsDoneIn docket before after = (then : List W) × StartsWith docket then × P then before after

  module _ (positions : T → List ℕ) where
    -- A worker whose pass had no row of its own has done its tasks in their order: the rows that are its own now are those of
    -- the tasks, which rise and are new
    pub record HasDone (seen seen_then : List W) (own : List ℕ) (before after : List T) : Type 0 where
      pub owns : own ≡ all_of positions after
      pub ascend : AscendWithin (length seen) (all_of positions after) (length seen_then)
      pub done : Pairs (IsDoneIn seen_then) before after

    -- From the first docket to the second, so many workers have done all tasks, each those of its share in their order. Each
    -- row of a task is new, and no two are one
    pub record AreDoneBy (count : ℕ) (seen seen_then : List W) (before after : List T) : Type 0 where
      pub done : Pairs (IsDoneIn seen_then) before after
      pub new : (k : ℕ) → Has (all_of positions after) k → (length seen ≤ k) × (k < length seen_then)
      pub apart : AreDistinct (all_of positions after)
      pub ascend : (share : ℕ) → share < count → AscendWithin (length seen) (all_of positions (share_from count share 0 after)) (length seen_then)

    -- So many workers, who had these shares, have done whatever list of so many tasks was dealt to them. It was dealt from its
    -- end, and so it is taken back
    abbrev pub HaveDoneDealt : (count many : ℕ) → (shares : List (List T)) → (seen seen_then : List W) → (after : List T) → Type 0
    HaveDoneDealt count many shares seen seen_then after =
        (all : List T) → shares ≡ dealt count all → length all ≡ many → AreDoneBy count seen seen_then (reverse all) (reverse after)
