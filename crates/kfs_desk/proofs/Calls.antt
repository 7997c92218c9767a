-- A call that is no submission is the machine's step, and so keeps the desk's state in order.
use Rattle.std.proofs.Common.{◌≡◌, ◌≢◌, ℕ, ◌<◌, ◌≤◌, Bool, true, false, cond, ltb, List, [], ◌∷◌, ◌++◌, length, Option, Some, None, Result, Ok, Err, refl, sym, ap, subst, ◌∙◌, arith}
use Rattle.std.proofs.lemmas.Bool.{ltb-false}
use Rattle.kfs_model.specs.Access.{Client}
use Rattle.kfs_model.specs.Sight.{sight}
use Rattle.kfs_model.specs.Lease.{LeaseFault, Leases}
use Rattle.kfs_model.specs.Judgement.{State}
use Rattle.kfs_model.specs.Machine.{Call, IsRead, Migrate, MovesRefused, NotDone, Row, outcome_of, leased, migrated}
use Rattle.kfs_model.specs.Machine as machine
use Rattle.kfs_model.specs.Means.{DiffersInPlacement}
use Rattle.kfs_model.specs.Migration.{Move, MoveFault, fault_of_move, fault_of_moves, move_limit, moved_by}
use Rattle.kfs_model.specs.Migration as migration
use Rattle.kfs_model.specs.Placement.{Placement, TierSizes}
use Rattle.kfs_model.specs.FirstAnswer.{first_answer}
use Rattle.kfs_model.proofs.RowFits.{row_fits}
use Rattle.kfs_desk.specs.declared.history.answers.ActFault.{ActFault}
use Rattle.kfs_desk.specs.declared.history.answers.ActFault.TheVariants as act_faults
use Rattle.kfs_migrate.specs.Applied.{AreApplied}
use Rattle.kfs_types.specs.Moves.Faults.{Refuses}
use Rattle.kfs_types.specs.declared.moves.moves.MoveFault.{MoveFault as CodeMoveFault}
use Rattle.kfs_types.specs.declared.moves.moves.MoveFault.TheVariants.{NotMapped, OutOfRange, NotFree, Overlap, TooManyMoves, OutOfMemory}
use Rattle.kfs_image_nodes.specs.Contents.{Contents, sight_of}
use Rattle.kfs_model.specs.Device.ShownTree.{DeviceImage, IsLawful, shown_tree}
use Rattle.kfs_image.specs.Image.{contents_of}
use Rattle.kfs_image.proofs.ShownTrees.{sight_shown}
use Rattle.kfs_lease.specs.declared.act.Act.{Act}
use Rattle.kfs_lease.specs.declared.act.Act.TheVariants as acts
use Rattle.kfs_desk.specs.declared.history.answers.Done.{Done}
use Rattle.kfs_desk.specs.declared.history.answers.Done.TheVariants.{Moved}
use Rattle.kfs_desk.specs.Machine.{Parts, IsActed, IsCallStep, IsChange, IsDesk, IsMigrated, IsShown, SeeTheSame, call_fault_of, call_of, done_by, outcome_at, row_answer, shown, state_at, state_of, told_by_leases}
use Rattle.kfs_desk.proofs.Dockets.{desk_with}

-- ---- a call for leases

abbrev pub with_leases : State → Leases → State
with_leases s leases = record s { leases = leases }

leased_is : (s : State) (told : Result ℕ LeaseFault) (new : Leases) → leased s [] (told, new) ≡ Some (row_answer (told_by_leases told), with_leases s new)
leased_is s (Ok number) new = refl
leased_is s (Err fault) new = refl

module _ (act : Act) (answer : Result Done ActFault) (new : Leases) where
  change_is_step : (s : State) → IsChange (outcome_at s.leases (sight s.tree) s.clients act) (done_by act) answer new → (row : Row) × IsCallStep s (call_of act) (done_by act) answer row (with_leases s new)
  unfolding outcome_of
  change_is_step s is = (
    row,
    record { outcome = told_by_leases is.told; said = is.said; asked = refl; read = read act; answered = refl; rejudged = refl; least = refl; fits = row_fits s (with_leases s new) _ (by act is.is) },
  )
    where
      row : Row
      row = record { call = call_of act; answer = row_answer (told_by_leases is.told); rejudged = false; places = [] }

      read : (a : Act) → IsRead (record row { call = call_of a })
      read (acts.Lease client path kind end) = tt
      read (acts.Drop client number) = tt
      read (acts.LeaseAt client number kind end) = tt
      read (acts.Tick moment) = tt

      by : (a : Act) → outcome_at s.leases (sight s.tree) s.clients a ≡ (is.told, new) → outcome_of s (call_of a) [] ≡ Some (row_answer (told_by_leases is.told), with_leases s new)
      by (acts.Lease client path kind end) same = ap (leased s []) same ∙ leased_is s is.told new
      by (acts.Drop client number) same = ap (leased s []) same ∙ leased_is s is.told new
      by (acts.LeaseAt client number kind end) same = ap (leased s []) same ∙ leased_is s is.told new
      by (acts.Tick moment) same = ap (leased s []) same ∙ leased_is s is.told new

  -- a change that looks at the desk's contents and clients
  pub act_is_step : (desk : Parts) → IsLawful desk.image → (contents : Contents) (clients : List Client) → contents ≡ contents_of desk.image → clients ≡ desk.clients
      → IsChange (outcome_at desk.leases (sight_of contents) clients act) (done_by act) answer new → (row : Row) × IsCallStep (state_of desk) (call_of act) (done_by act) answer row (with_leases (state_of desk) new)
  act_is_step desk lawful contents clients contents_are clients_are is =
      let shown = ap sight_of contents_are ∙ sight_shown desk.image lawful in
      let looked = subst (λ s. IsChange (outcome_at desk.leases s clients act) (done_by act) answer new) shown is in
      change_is_step (state_of desk) (subst (λ rows. IsChange (outcome_at desk.leases (sight (shown_tree desk.image)) rows act) (done_by act) answer new) clients_are looked)

-- ---- a call that moves blocks

module _ (desk : Parts) (moves : List Move) (new : DeviceImage) where
  abbrev before : State
  before = state_of desk

  abbrev after_moves : State
  after_moves = state_at new desk.clients desk.leases

  -- where moves without a fault lead to
  lands : AreApplied moves desk.image new → shown_tree new ≡ shown_tree desk.image → ◌≡◌ {A = State} (record before { placement = moved_by moves before.placement }) after_moves
  lands applied same = λ i. record { clients = desk.clients; sizes = sym applied.sizes i; tree = sym same i; leases = desk.leases; placement = sym applied.placement i }

  stays : new ≡ desk.image → before ≡ after_moves
  stays same = ap (λ image. state_at image desk.clients desk.leases) (sym same)

  pub moves_are_step : (answer : Result Done ActFault) → IsMigrated desk.image moves answer new → (row : Row) × IsCallStep before (Migrate moves) Moved answer row after_moves
  unfolding outcome_of
  moves_are_step (Ok done) (said, none, applied, same) =
      let comes : outcome_of before (Migrate moves) [] ≡ Some (machine.Done (length moves), after_moves) = ap (migrated before [] moves) none ∙ ap (λ (t : State). Some (machine.Done (length moves), t)) (lands applied same) in (
        record { call = Migrate moves; answer = machine.Done (length moves); rejudged = false; places = [] },
        record { outcome = Ok (length moves); said = said; asked = refl; read = tt; answered = refl; rejudged = refl; least = refl; fits = row_fits before after_moves _ comes },
      )
  moves_are_step (Err fault) (refusal, said, found, same) =
      let comes : outcome_of before (Migrate moves) [] ≡ Some (NotDone (MovesRefused refusal), after_moves) = ap (migrated before [] moves) found ∙ ap (λ (t : State). Some (NotDone (MovesRefused refusal), t)) (stays same) in (
        record { call = Migrate moves; answer = NotDone (MovesRefused refusal); rejudged = false; places = [] },
        record { outcome = Err (MovesRefused refusal); said = said; asked = refl; read = tt; answered = refl; rejudged = refl; least = refl; fits = row_fits before after_moves _ comes },
      )

  -- whatever the answer, nothing changes but where blocks lie
  pub placement_alone : (answer : Result Done ActFault) → IsMigrated desk.image moves answer new → DiffersInPlacement before after_moves
  placement_alone (Ok done) (said, none, applied, same) = (moved_by moves before.placement, sym (lands applied same))
  placement_alone (Err fault) (refusal, said, found, same) = (before.placement, sym (stays same))

-- each client sees the same as long as nothing changes but where blocks lie
pub seen_same : (s t : State) → DiffersInPlacement s t → SeeTheSame s t
seen_same s t (placement, is) = subst (SeeTheSame s) (sym is) (λ number. (refl, refl))

-- moves without a fault aren't too many
pub few_moves : (sizes : TierSizes) (placement : Placement) (moves : List Move) → fault_of_moves sizes placement moves ≡ None → length moves ≤ move_limit
few_moves sizes placement moves none = at (ltb move_limit (length moves)) refl none
  where
    at : (many : Bool) → ltb move_limit (length moves) ≡ many → cond many (Some migration.TooManyMoves) (first_answer (fault_of_move sizes placement) moves) ≡ None → length moves ≤ move_limit
    at true many is = cc
    at false few is = ltb-false move_limit (length moves) few

-- a refusal that was found is told, unless memory ran out
refused_told : (found : Option MoveFault) (fault : CodeMoveFault) → Refuses found fault → fault ≢ OutOfMemory → (refusal : MoveFault) × (call_fault_of (act_faults.Move fault) ≡ Some (MovesRefused refusal)) × (found ≡ Some refusal)
refused_told found (NotMapped index) is other = (migration.NotMapped index, refl, is)
refused_told found (OutOfRange index) is other = (migration.OutOfRange index, refl, is)
refused_told found (NotFree index) is other = (migration.NotFree index, refl, is)
refused_told found (Overlap index) is other = (migration.Overlap index, refl, is)
refused_told found TooManyMoves is other = (migration.TooManyMoves, refl, is)
refused_told found OutOfMemory is other = absurd (other refl)

-- so moves that are refused are answered with their fault, and leave the image
pub moves_refused : (image : DeviceImage) (moves : List Move) (fault : CodeMoveFault) → Refuses (fault_of_moves image.sizes image.placement moves) fault → fault ≢ OutOfMemory → IsMigrated image moves (Err (act_faults.Move fault)) image
moves_refused image moves fault is other =
    let (refusal, told, found) = refused_told (fault_of_moves image.sizes image.placement moves) fault is other in
    (refusal, told, found, refl)

-- a state that stays differs in nothing
pub unmoved : (s t : State) → t ≡ s → DiffersInPlacement s t
unmoved s t same = (s.placement, same)

pub seen_unmoved : (s t : State) → t ≡ s → SeeTheSame s t
seen_unmoved s t same = seen_same s t (unmoved s t same)

-- ---- with its row in the docket

module _ (call : Call) (words : ℕ → Done) (answer : Result Done ActFault) (desk new : Parts) (row : Row) (step : IsCallStep (state_of desk) call words answer row (state_of new)) (opened : new.opening ≡ desk.opening)
    (added : new.docket ≡ desk.docket ++ row ∷ []) (limited : new.limit ≡ desk.limit) where
  -- The desk stays one.
  pub acted_desk : IsDesk desk → IsShown (state_of new) → length desk.docket < desk.limit → IsDesk new
  acted_desk is_desk is room = desk_with desk new is_desk row step.read step.fits step.least is opened added (let limit = limited in omega arith)

  -- The answer has its row in the docket.
  pub acted_at : (position : ℕ) → position ≡ length desk.docket → IsActed (shown desk) call words (record { position = position; answer = answer }) (shown new)
  acted_at position last = record { row = row; step = step; position = last; docket = added; opening = opened; limit = limited }

-- what is said of two states is said of equal ones
pub between : {before s after t : State} → before ≡ s → after ≡ t → (P : State → State → Type 0) → P s t → P before after
between {s = s} {after = after} at_first at_last P told = subst (λ (x : State). P x after) (sym at_first) (subst (P s) (sym at_last) told)
