-- What each kind of step tells the pass that makes it: the number found in the word, and what the pass knows and has in hand
-- before and after. Splitting a seat and joining two tell what `informed` and `having_met` say.
use Rattle.std.specs.Prelude.{◌≡◌, ◌≢◌, ℕ, false, List, [], ◌∷◌, length, Option, Some, None}
use mathlib.Core.Option.{some, none}
use mathlib.Core.Option as maybe
use Rattle.atomic_table.specs.Table.{Me, Step, rest}
use Rattle.kfs_shared.specs.Turns.Lists.{StartsWith, AreDistinct}
use Rattle.kfs_shared.specs.Turns.Stages.{ticket, rows_out, at_stage, at_end, having_seen, having_counted, having_added}
use Rattle.kfs_shared.specs.declared.turns.known.Known.{Known}
use Rattle.kfs_shared.specs.declared.turns.known.Stage.TheVariants.{Idle, Waiting, Served}

module _ {D O W : Type 0} (opening : D → O) (rows : D → List W) (legal : O → List W → Type 0) (stands : D → Type 0) where
  -- the step, the pass before it, the number found, and the pass after it
  abbrev pub Tells : Type 1
  Tells = Step (Option D) → (before : Me (Option D) (Known D O W)) → (found : ℕ) → (after : Me (Option D) (Known D O W)) → Type 0

  -- Reading the turn. Where it is the pass's ticket, the slot is the pass's now; the object in it has a docket that begins with
  -- what was seen, stands where that leads, and was begun as the pass knows. Else nothing changes
  abbrev pub TellsTurn : Tells
  TellsTurn st m r m' =
      (r ≡ ticket m.0.stage
      → (d : D) × (m'.0 ≡ at_stage m.0 (Served r d false)) × (m'.1 ≡ (0, Some d) ∷ m.1) × StartsWith (rows d) m.0.seen × stands d
      × ((o : O) → m.0.opening ≡ Some o → opening d ≡ o))
      × (r ≢ ticket m.0.stage → m' ≡ m)

  -- Seeing the count, with the object out: the pass has seen all its rows now, and they are legal
  abbrev pub TellsCount : Tells
  TellsCount st m r m' = (r ≡ length (rows_out rows m.0.stage)) × (m'.0 ≡ having_counted m.0 (rows_out rows m.0.stage)) × (m'.1 ≡ m.1)
      × ((o : O) → m.0.opening ≡ Some o → legal o (rows_out rows m.0.stage))

  -- P holds of the object that a step announces, if it announces one
  abbrev pub HoldsOfAnnounced : maybe.Option (Option D) → (D → Type 0) → Type 0
  HoldsOfAnnounced none P = Unit {0}
  HoldsOfAnnounced (some None) P = Unit {0}
  HoldsOfAnnounced (some (Some d)) P = P d

  -- Adding a row: the object that is announced has one row more, which is the pass's own. This compare-exchange never fails
  abbrev pub TellsRow : Tells
  TellsRow st m r m' = (r ≡ st.first) × (m'.1 ≡ m.1) × HoldsOfAnnounced st.said (λ d. m'.0 ≡ having_added m.0 (rows d) d)

  -- Seeing the docket with no turn. It begins with what was seen and with what was told, and is legal; no own row stands twice
  abbrev pub TellsDocket : Tells
  TellsDocket st m r m' = (h : List W) × (r ≡ length h) × (m'.0 ≡ having_seen m.0 h) × (m'.1 ≡ m.1) × StartsWith h m.0.seen × StartsWith h m.0.told × AreDistinct m.0.own
      × ((o : O) → m.0.opening ≡ Some o → legal o h)

module _ {D O W : Type 0} (opening : D → O) (rows : D → List W) (stands : D → Type 0) where
  -- What a pass that knew v is, once its ticket t is served: the slot is its own, with the object d in it, whose docket begins
  -- with what was seen, which stands where that leads, and which was begun as the pass knows
  abbrev pub IsOut : Known D O W → (t : ℕ) → (d : D) → Me (Option D) (Known D O W) → Type 0
  IsOut v t d me = (me ≡ (at_stage v (Served t d false), (0, Some d) ∷ [])) × StartsWith (rows d) v.seen × stands d × ((o : O) → v.opening ≡ Some o → opening d ≡ o)

module _ {D O W : Type 0} where
  -- Marking a word on which calls sleep, or taking the mark away: the pass learns nothing
  abbrev pub TellsNothing : Step (Option D) → Me (Option D) (Known D O W) → ℕ → Me (Option D) (Known D O W) → Type 0
  TellsNothing st m r m' = m' ≡ m

  -- Taking a ticket: where the number found is the one expected, it is the pass's ticket. Else, where it is 2^64 - 1, the pass
  -- has found that none is left
  abbrev pub TellsTicket : Step (Option D) → Me (Option D) (Known D O W) → ℕ → Me (Option D) (Known D O W) → Type 0
  TellsTicket st m r m' = (m'.1 ≡ m.1) × (r ≡ st.first → m'.0 ≡ at_stage m.0 (Waiting r))
      × (r ≢ st.first → r ≡ 18446744073709551615 → m'.0 ≡ at_end m.0)
      × (r ≢ st.first → r ≢ 18446744073709551615 → m'.0 ≡ m.0)

  -- Passing the turn on: the pass has no ticket, and the slot isn't its own any more
  abbrev pub TellsPassing : Step (Option D) → Me (Option D) (Known D O W) → ℕ → Me (Option D) (Known D O W) → Type 0
  TellsPassing st m r m' = (m'.0 ≡ at_stage m.0 Idle) × (m'.1 ≡ rest m.1)
