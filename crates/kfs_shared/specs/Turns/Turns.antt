-- The rule of a table on which passes take turns with one object.
-- Word 0 is the length of the object's docket, word 1 the next ticket, and word 2 the ticket that is served. On the other nine
-- calls sleep, and the rule asks nothing of them. The one slot has the object, or nothing while it is out with the pass that is
-- served. A pass is a seat of the table.
-- What the object is, the rule is told: how it was begun, the rows of its docket, which dockets are legal, and whether it
-- stands where its docket leads.
use Rattle.std.specs.Prelude.{◌≡◌, ◌≢◌, ℕ, ◌<◌, ◌≤◌, ◌⊎◌, true, false, List, [], ◌∷◌, length, slice_index, Option, Some}
use mathlib.Core.Option.{some, none}
use mathlib.Core.Option as maybe
use lib.ListN.{get_elem?}
use Rattle.atomic_table.specs.Table.{State, Seen}
use Rattle.atomic_table.specs.Seated.{TableId}
use Rattle.kfs_shared.specs.Turns.Lists.{StartsWith, Has, AreDistinct}
use Rattle.kfs_shared.specs.Turns.Stages.{IsServed, AreApart}
use Rattle.kfs_shared.specs.declared.turns.known.Known.{Known}
use Rattle.kfs_shared.specs.declared.turns.known.Stage.{Stage}
use Rattle.kfs_shared.specs.declared.turns.known.Stage.TheVariants.{Idle, Waiting, Served}

-- the seat is one of this table, which has twelve words and one slot
abbrev pub SeatFits : (table seat : TableId) → Type 0
SeatFits table seat = (seat ≡ table) × (table.words ≡ 12) × (table.slots ≡ 1)

module _ {D O W : Type 0} (opening : D → O) (rows : D → List W) (stands : D → Type 0) (start : O) (docket : List W) where
  -- the object was begun so, has this docket, and stands where the docket leads
  pub record IsWith (d : D) : Type 0 where
    pub kept : rows d ≡ docket
    pub begun : opening d ≡ start
    pub led : stands d

  module _ (next turn : ℕ) (homes : List (maybe.Option (Option D))) where
    -- A ticket that waits is drawn and hasn't been served before. The ticket of a pass that is served is the turn: the slot is
    -- empty, the object is as it came out of it, and once the pass has counted the rows it has seen them all
    abbrev pub IsAtStage : (seen : List W) → Stage D → Type 0
    IsAtStage seen Idle = Unit {0}
    IsAtStage seen (Waiting t) = (turn ≤ t) × (t < next)
    IsAtStage seen (Served t d counted) = (t ≡ turn) × (turn < next) × IsWith d × (homes ≡ none ∷ []) × (counted ≡ true → seen ≡ docket)

    -- what a pass knows is so: how the object was begun; that the docket begins with what it has seen, and with what it was
    -- told; that its own rows stand in the docket, each once; and that there is no ticket left, if it has found so
    pub record Fits (v : Known D O W) : Type 0 where
      pub opened : (o : O) → v.opening ≡ Some o → o ≡ start
      pub begins : StartsWith docket v.seen
      pub tells : StartsWith docket v.told
      pub own_rows : (k : ℕ) → Has v.own k → k < length docket
      pub once : AreDistinct v.own
      pub spent : v.ended ≡ true → next ≡ 18446744073709551615
      pub is_at : IsAtStage v.seen v.stage

  -- the object is in its slot, or out with a pass that is served
  abbrev pub Lies : State (Option D) (Known D O W) → Type 0
  Lies s = ((d : D) × (s.homes ≡ some (Some d) ∷ []) × IsWith d)
      ⊎ ((j : ℕ) × (v : Known D O W) × (get_elem? s.views j ≡ some v) × IsServed v.stage)

module _ {D O W : Type 0} (opening : D → O) (rows : D → List W) (legal : O → List W → Type 0) (stands : D → Type 0) where
  -- The rule between two steps. There is one legal docket. Its length, the next ticket and the turn are the first three words;
  -- the others are of any value. Each ticket is below 2^64 - 1. What each pass knows fits, and no two passes have one ticket or one row
  pub record KeepsTurns (key : D) (s : State (Option D) (Known D O W)) : Type 0 where
    pub docket : List W
    pub next : ℕ
    pub turn : ℕ
    pub others : List ℕ
    pub words : s.words ≡ length docket ∷ next ∷ turn ∷ others
    pub order : turn ≤ next
    pub short : next < 18446744073709551616
    pub lawful : legal (opening key) docket
    pub lies : Lies opening rows stands (opening key) docket s
    pub each : (j : ℕ) (v : Known D O W) → get_elem? s.views j ≡ some v → Fits opening rows stands (opening key) docket next turn s.homes v
    pub apart : (i j : ℕ) (v w : Known D O W) → i ≢ j → get_elem? s.views i ≡ some v → get_elem? s.views j ≡ some w → AreApart v w

  -- what the first pass knows: all of the docket that the object came with
  abbrev pub newcomer : D → Known D O W
  newcomer d = record { opening = Some (opening d); seen = rows d; told = []; own = []; ended = false; stage = Idle }

  -- P holds of a last state of the table, which keeps the rule and in which the seat with this number knows v
  abbrev pub EndsAs : (key : D) → (seat : ℕ) → (v : Known D O W) → (State (Option D) (Known D O W) → Type 0) → Type 0
  EndsAs key seat v P = (s : State (Option D) (Known D O W)) × Seen (KeepsTurns key) seat v s × P s

  -- The object comes back at the end: it was begun as it was shared, its docket is legal and begins with what was seen, it
  -- stands where the docket leads, and word 0 is the docket's length
  pub record HasEnded (key : D) (seat : ℕ) (v : Known D O W) (d : D) : Type 0 where
    pub begun : opening d ≡ opening key
    pub begins : StartsWith (rows d) v.seen
    pub lawful : legal (opening key) (rows d)
    pub led : stands d
    pub counted : EndsAs key seat v (λ s. slice_index s.words 0 ≡ length (rows d))

  -- some ticket was drawn and not passed on: words 1 and 2 differ at the end
  abbrev pub IsUnreturned : (key : D) → (seat : ℕ) → (v : Known D O W) → Type 0
  IsUnreturned key seat v = EndsAs key seat v (λ s. slice_index s.words 1 ≢ slice_index s.words 2)
