-- A recorder before and after a call.
use Rattle.std.specs.Prelude.{◌≡◌, ℕ, List, [], ◌∷◌, Result, IfOk, OnOk, true}
use Rattle.kfs_model.specs.Sight.{ClientSight, Cell, HeaderOf, NameIn}
use Rattle.kfs_judge_reads.specs.declared.reads.Recorder.{Recorder}
use Rattle.kfs_judge_reads.specs.Reads.{Agrees, AreOnce, Grows, Always, Within}
use Rattle.kfs_judge_reads.specs.View.{client_sight_in}

module _ {A : Type 0} where
  -- what the recorder's client sees in its view
  abbrev pub seen_by : Recorder A → ClientSight
  seen_by recorder = client_sight_in recorder.looks.view.now recorder.client

  -- the view stays the same, and whether reads are kept; if the old reads agree with it, so do the new
  -- ones; if none was kept twice, none is now
  pub record GoesOn (old new : Recorder A) : Type 0 where
    pub grows : Grows old.reads.entries new.reads.entries
    pub same : seen_by new ≡ seen_by old
    pub keeps : new.reads.keeps ≡ old.reads.keeps
    pub agrees : Agrees old.reads.entries (seen_by old) → Agrees new.reads.entries (seen_by new)
    pub once : old.reads.keeps ≡ true → AreOnce old.reads.entries → AreOnce new.reads.entries

  -- P holds of each state that agrees with what was read
  abbrev pub Known : Recorder A → (ClientSight → Type 0) → Type 0
  Known recorder P = Always recorder.reads.entries P

  -- what was read between the two is at these cells
  abbrev pub ReadsAt : (old new : Recorder A) → List Cell → Type 0
  ReadsAt old new cells = Within old.reads.entries new.reads.entries cells

  -- a look: its answer is true of each state that agrees with what was read, and only these cells were
  -- read; or memory runs out
  pub record AnswersLook {X E : Type 0} (old new : Recorder A) (result : Result X E) (cells : List Cell) (says : X → ClientSight → Type 0) : Type 0 where
    pub goes : GoesOn old new
    pub known : IfOk result (λ x. Known new (says x))
    pub among : OnOk result (ReadsAt old new cells)

  -- the same, where the cells depend on what the state shows
  pub record LooksAlong {X E : Type 0} (old new : Recorder A) (result : Result X E) (cells : ClientSight → List Cell) (says : X → ClientSight → Type 0) : Type 0 where
    pub goes : GoesOn old new
    pub known : IfOk result (λ x. Known new (says x))
    pub among : OnOk result (Known new (λ before. ReadsAt old new (cells before)))

module _ {A X E : Type 0} (old new : Recorder A) (result : Result X E) where
  -- a look at one header
  abbrev pub LooksAtHeader : (number : ℕ) → (X → ClientSight → Type 0) → Type 0
  LooksAtHeader number says = AnswersLook old new result (HeaderOf number ∷ []) says

  -- a look at two headers
  abbrev pub LooksAtHeaders : (first second : ℕ) → (X → ClientSight → Type 0) → Type 0
  LooksAtHeaders first second says = AnswersLook old new result (HeaderOf first ∷ HeaderOf second ∷ []) says

  -- a look at one name
  abbrev pub LooksAtName : (key : ℕ × List ℕ) → (X → ClientSight → Type 0) → Type 0
  LooksAtName key says = AnswersLook old new result (NameIn key.0 key.1 ∷ []) says
