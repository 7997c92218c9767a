-- Where a pass stands, and what it knows after a step.
use Rattle.std.specs.Prelude.{◌≡◌, ℕ, true, false, List, [], ◌∷◌, ◌++◌, length, None}
use Rattle.kfs_shared.specs.Turns.Lists.{Has}
use Rattle.kfs_shared.specs.declared.turns.known.Known.{Known}
use Rattle.kfs_shared.specs.declared.turns.known.Stage.{Stage}
use Rattle.kfs_shared.specs.declared.turns.known.Stage.TheVariants.{Idle, Waiting, Served}

-- ---- where a pass stands

module _ {D : Type 0} where
  -- its ticket; 0 where it has none
  abbrev pub ticket : Stage D → ℕ
  ticket Idle = 0
  ticket (Waiting t) = t
  ticket (Served t d counted) = t

  abbrev pub HasTicket : Stage D → ℕ → Type 0
  HasTicket Idle t = ⊥
  HasTicket (Waiting s) t = s ≡ t
  HasTicket (Served s d counted) t = s ≡ t

  -- the object is out with the pass
  abbrev pub IsServed : Stage D → Type 0
  IsServed Idle = ⊥
  IsServed (Waiting t) = ⊥
  IsServed (Served t d counted) = Unit {0}

  -- so it is, and the pass has seen how many rows there are
  abbrev pub HasCounted : Stage D → Type 0
  HasCounted Idle = ⊥
  HasCounted (Waiting t) = ⊥
  HasCounted (Served t d counted) = counted ≡ true

  -- the same, once the pass has seen how many rows there are
  abbrev pub after_count : Stage D → Stage D
  after_count Idle = Idle
  after_count (Waiting t) = Waiting t
  after_count (Served t d counted) = Served t d true

module _ {D W : Type 0} (rows : D → List W) where
  -- the rows of the object that is out with the pass; none where none is
  abbrev pub rows_out : Stage D → List W
  rows_out Idle = []
  rows_out (Waiting t) = []
  rows_out (Served t d counted) = rows d

-- ---- what a pass knows

module _ {D O W : Type 0} where
  abbrev pub at_stage : Known D O W → Stage D → Known D O W
  at_stage v stage = record { opening = v.opening; seen = v.seen; told = v.told; own = v.own; ended = v.ended; stage = stage }

  -- it has found that no ticket is left
  abbrev pub at_end : Known D O W → Known D O W
  at_end v = record { opening = v.opening; seen = v.seen; told = v.told; own = v.own; ended = true; stage = v.stage }

  abbrev pub having_seen : Known D O W → List W → Known D O W
  having_seen v seen = record { opening = v.opening; seen = seen; told = v.told; own = v.own; ended = v.ended; stage = v.stage }

  abbrev pub having_counted : Known D O W → List W → Known D O W
  having_counted v seen = record { opening = v.opening; seen = seen; told = v.told; own = v.own; ended = v.ended; stage = after_count v.stage }

  -- it has seen these rows, the last of which is its own, and the object d is out with it
  abbrev pub having_added : Known D O W → List W → D → Known D O W
  having_added v seen d = record { opening = v.opening; seen = seen; told = v.told; own = v.own ++ length v.seen ∷ []; ended = v.ended; stage = Served (ticket v.stage) d true }

  -- a new pass, which has seen as much and has no row of its own
  abbrev pub informed : Known D O W → Known D O W
  informed v = record { opening = v.opening; seen = v.seen; told = []; own = []; ended = false; stage = Idle }

  -- it has met the pass that knows w: that one's rows are its own, too, and it is told what that one had seen
  abbrev pub having_met : Known D O W → (w : Known D O W) → Known D O W
  having_met v w = record { opening = v.opening; seen = v.seen; told = w.seen; own = v.own ++ w.own; ended = v.ended; stage = v.stage }

  -- a pass that another one has met
  abbrev pub used_up : Known D O W
  used_up = record { opening = None; seen = []; told = []; own = []; ended = false; stage = Idle }

  -- no two passes have one ticket, and none has a row of another's
  abbrev pub AreApart : (v w : Known D O W) → Type 0
  AreApart v w = ((t : ℕ) → HasTicket v.stage t → HasTicket w.stage t → ⊥) × ((row : ℕ) → Has v.own row → Has w.own row → ⊥)
