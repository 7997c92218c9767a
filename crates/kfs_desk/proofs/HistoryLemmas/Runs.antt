-- A row with the least free places is what its call comes to, and so a docket of such rows is a run.
use Rattle.std.proofs.Common.{◌≡◌, ℕ, Bool, true, false, cond, List, [], ◌∷◌, length, take, Option, Some, None, Result, Ok, Err, refl, sym, ap, subst, ◌∙◌}
use Rattle.std.specs.Prelude.{nat_lt}
use Rattle.std.proofs.lemmas.Bool.{ltb-false}
use Rattle.kfs_model.specs.Judgement.{State, Verdict, Yes, No, Reply, Accepted, NoRoom, Refused, free_places, reply_to, verdict_on}
use Rattle.kfs_model.specs.Lease.{Leases, LeaseFault, dropped, granted, granted_by_number, ticked}
use Rattle.kfs_model.specs.Machine.{Call, Submit, Lease, Drop, Tick, Migrate, LeaseAt, LeaseRefused, MovesRefused, CallOutcome, Done, NotDone, Replied, Row, after, are_chosen, landed, leased, migrated, next, outcome_of, replied, unplaced}
use Rattle.kfs_model.specs.Migration.{Move, MoveFault, fault_of_moves, moved_by}
use Rattle.kfs_model.specs.Placement.{need, written_blocks}
use Rattle.kfs_model.specs.Run.{Mark}
use Rattle.kfs_model.specs.Sight.{sight}
use Rattle.kfs_model.specs.Tree.{Tree}
use Rattle.kfs_model.proofs.RowFits.{row_fits}
use Rattle.kfs_model.proofs.RowsMean.{fitted}
use Rattle.kfs_desk.specs.History.Least.{AreLeast, HaveLeastPlaces, places_for, places_of}
use Rattle.kfs_desk.specs.History.Runs.{IsDocketOf, LeadsLeast, RunOutcome, answers_of, behind, calls_of, leased_to, made, migrated_to, replied_least, run_calls}
use Rattle.kfs_desk.proofs.HistoryLemmas.LeastPlaces.{chosen_least, front_is_least, least_chosen}

unplaced_is : (places : List ℕ) (outcome other : CallOutcome) → unplaced places outcome ≡ Some other → outcome ≡ other
unplaced_is [] outcome other is = cc
unplaced_is (place ∷ places) outcome other is = cc

-- ---- a row with the least places is what its call comes to

module _ (s : State) (places : List ℕ) (least : AreLeast s places) where
  replied_is : (verdict : Verdict) (outcome : CallOutcome) → replied s places verdict (reply_to s verdict) ≡ Some outcome → replied_least s verdict (reply_to s verdict) ≡ outcome
  unfolding reply_to
  replied_is (No fault) outcome is = unplaced_is places (Replied (Refused fault), s) outcome is
  replied_is (Yes new marks) outcome is = by_room (nat_lt (length (free_places s)) (need marks)) is
    where
      by_room : (full : Bool) → replied s places (Yes new marks) (cond full (NoRoom (need marks) (length (free_places s))) (Accepted (need marks))) ≡ Some outcome
          → replied_least s (Yes new marks) (cond full (NoRoom (need marks) (length (free_places s))) (Accepted (need marks))) ≡ outcome
      by_room true is = unplaced_is places (Replied (NoRoom (need marks) (length (free_places s))), s) outcome is
      by_room false is = by_places (are_chosen s (written_blocks marks) places) refl is
        where
          by_places : (chosen : Bool) → are_chosen s (written_blocks marks) places ≡ chosen → cond chosen (Some (Replied (Accepted (need marks)), landed s new marks places)) None ≡ Some outcome
              → ◌≡◌ {A = CallOutcome} (Replied (Accepted (need marks)), landed s new marks (take (need marks) (free_places s))) outcome
          by_places true chosen is =
              let same : ◌≡◌ {A = CallOutcome} (Replied (Accepted (need marks)), landed s new marks places) outcome = cc in
              subst (λ (ps : List ℕ). ◌≡◌ {A = CallOutcome} (Replied (Accepted (need marks)), landed s new marks ps) outcome) (chosen_least s (written_blocks marks) places chosen least) same
          by_places false chosen is = cc

  leased_is : (told : Result ℕ LeaseFault) (leases : Leases) (outcome : CallOutcome) → leased s places (told, leases) ≡ Some outcome → leased_to s (told, leases) ≡ outcome
  leased_is (Ok number) leases outcome is = unplaced_is places (Done number, record s { leases = leases }) outcome is
  leased_is (Err fault) leases outcome is = unplaced_is places (NotDone (LeaseRefused fault), record s { leases = leases }) outcome is

  migrated_is : (moves : List Move) (found : Option MoveFault) (outcome : CallOutcome) → migrated s places moves found ≡ Some outcome → migrated_to s moves found ≡ outcome
  migrated_is moves None outcome is = unplaced_is places (Done (length moves), record s { placement = moved_by moves s.placement }) outcome is
  migrated_is moves (Some fault) outcome is = unplaced_is places (NotDone (MovesRefused fault), s) outcome is

  made_is : (call : Call) (outcome : CallOutcome) → outcome_of s call places ≡ Some outcome → made s call ≡ outcome
  unfolding outcome_of made
  made_is (Submit submission reading) outcome is = replied_is (verdict_on s submission.client reading) outcome is
  made_is (Lease client path kind end) outcome is = let all = granted s.leases (sight s.tree) s.clients client path kind end in leased_is all.0 all.1 outcome is
  made_is (Drop client number) outcome is = let all = dropped s.leases s.clients client number in leased_is all.0 all.1 outcome is
  made_is (Tick moment) outcome is = let all = ticked s.leases moment in leased_is all.0 all.1 outcome is
  made_is (LeaseAt client number kind end) outcome is = let all = granted_by_number s.leases (sight s.tree) s.clients client number kind end in leased_is all.0 all.1 outcome is
  made_is (Migrate moves) outcome is = migrated_is moves (fault_of_moves s.sizes s.placement moves) outcome is

pub row_made : (s t : State) (row : Row) → AreLeast s row.places → next s row ≡ Some t → (made s row.call).0 ≡ row.answer × (made s row.call).1 ≡ t
row_made s t row least is =
    let (outcome, comes, answer, state) = fitted s t row is in
    let same = made_is s row.places least row.call outcome comes in
    (ap (λ (o : CallOutcome). o.0) same ∙ answer, ap (λ (o : CallOutcome). o.1) same ∙ state)

-- ---- and what a call comes to is a row with the least places

module _ (s : State) where
  -- the places of the answer fit it
  abbrev FitsAs : Tree ℕ → Tree Mark → Reply → Type 0
  FitsAs new marks reply = replied s (places_for s (Yes new marks) reply) (Yes new marks) reply ≡ Some (replied_least s (Yes new marks) reply)

  replied_fits : (verdict : Verdict) → replied s (places_for s verdict (reply_to s verdict)) verdict (reply_to s verdict) ≡ Some (replied_least s verdict (reply_to s verdict))
  unfolding reply_to
  replied_fits (No fault) = refl
  replied_fits (Yes new marks) = by_room (nat_lt (length (free_places s)) (need marks)) refl
    where
      by_room : (full : Bool) → nat_lt (length (free_places s)) (need marks) ≡ full
          → FitsAs new marks (cond full (NoRoom (need marks) (length (free_places s))) (Accepted (need marks)))
      by_room true full = refl
      by_room false room =
          ap (λ b. cond b (Some (Replied (Accepted (need marks)), landed s new marks (take (need marks) (free_places s)))) None)
          (least_chosen s (written_blocks marks) (ltb-false (length (free_places s)) (need marks) room))

  leased_fits : (outcome : Result ℕ LeaseFault × Leases) → leased s [] outcome ≡ Some (leased_to s outcome)
  leased_fits (Ok number, leases) = refl
  leased_fits (Err fault, leases) = refl

  migrated_fits : (moves : List Move) (found : Option MoveFault) → migrated s [] moves found ≡ Some (migrated_to s moves found)
  migrated_fits moves None = refl
  migrated_fits moves (Some fault) = refl

  made_fits : (call : Call) → outcome_of s call (places_of s call) ≡ Some (made s call)
  unfolding outcome_of made places_of
  made_fits (Submit submission reading) = replied_fits (verdict_on s submission.client reading)
  made_fits (Lease client path kind end) = leased_fits (granted s.leases (sight s.tree) s.clients client path kind end)
  made_fits (Drop client number) = leased_fits (dropped s.leases s.clients client number)
  made_fits (Tick moment) = leased_fits (ticked s.leases moment)
  made_fits (LeaseAt client number kind end) = leased_fits (granted_by_number s.leases (sight s.tree) s.clients client number kind end)
  made_fits (Migrate moves) = migrated_fits moves (fault_of_moves s.sizes s.placement moves)

  replied_least_places : (verdict : Verdict) (reply : Reply) → AreLeast s (places_for s verdict reply)
  replied_least_places (No fault) reply = refl
  replied_least_places (Yes new marks) (Accepted need) = front_is_least s need
  replied_least_places (Yes new marks) (NoRoom need free) = refl
  replied_least_places (Yes new marks) (Refused fault) = refl

  pub places_are_least : (call : Call) → AreLeast s (places_of s call)
  unfolding places_of
  places_are_least (Submit submission reading) = replied_least_places (verdict_on s submission.client reading) (reply_to s (verdict_on s submission.client reading))
  places_are_least (Lease client path kind end) = refl
  places_are_least (Drop client number) = refl
  places_are_least (Tick moment) = refl
  places_are_least (Migrate moves) = refl
  places_are_least (LeaseAt client number kind end) = refl

  -- the row of a call
  abbrev pub row_of_call : Call → Row
  row_of_call call = record { call = call; answer = (made s call).0; rejudged = false; places = places_of s call }

  pub made_row_fits : (call : Call) → next s (row_of_call call) ≡ Some (made s call).1
  made_row_fits call = row_fits s (made s call).1 (row_of_call call) (made_fits call)

-- ---- dockets

pub least_is_run : (s t : State) (docket : List Row) → after s docket ≡ Some t → HaveLeastPlaces s docket → run_calls s (calls_of docket) ≡ (answers_of docket, t)
unfolding after run_calls
least_is_run s t [] fit least = let same : s ≡ t = cc in ap (λ (u : State). ([], u)) same
least_is_run s t (row ∷ rows) fit least = by (next s row) refl fit (λ u fits rest. least_is_run u t rows rest (least.1 u fits))
  where
    by : (found : Option State) → next s row ≡ found → ◌≡◌ {A = Option State} (elim found [ None ↦ None | Some u ↦ after u rows ]) (Some t)
        → ((u : State) → next s row ≡ Some u → after u rows ≡ Some t → run_calls u (calls_of rows) ≡ (answers_of rows, t))
        → behind (made s row.call).0 (run_calls (made s row.call).1 (calls_of rows)) ≡ (row.answer ∷ answers_of rows, t)
    by None is fit rest = cc
    by (Some u) is fit rest =
        let (answer, state) = row_made s u row least.0 is in
        ap (λ (v : State). behind (made s row.call).0 (run_calls v (calls_of rows))) state ∙ ap (behind (made s row.call).0) (rest u is fit) ∙ ap (λ a. (a ∷ answers_of rows, t)) answer

pub run_is_least : (s : State) (calls : List Call) → IsDocketOf s calls (run_calls s calls).0 (run_calls s calls).1
unfolding after run_calls
run_is_least s [] = record { docket = []; asked_so = refl; answered_so = refl; leads = record { fit = refl; least = tt } }
run_is_least s (call ∷ calls) =
    let rest = run_is_least (made s call).1 calls in
    let row = row_of_call s call in
    let fits = made_row_fits s call in
    record {
      docket = row ∷ rest.docket;
      asked_so = ap (λ cs. call ∷ cs) rest.asked_so;
      answered_so = ap (λ answers. row.answer ∷ answers) rest.answered_so;
      leads = record {
        fit = ap (λ (o : Option State). elim o [ None ↦ None | Some u ↦ after u rest.docket ]) fits ∙ rest.leads.fit;
        least = (places_are_least s call, λ u is. let same : (made s call).1 ≡ u = cc in subst (λ v. HaveLeastPlaces v rest.docket) same rest.leads.least);
      };
    }

pub same_calls : (s t u : State) (one other : List Row) → LeadsLeast s one t → LeadsLeast s other u → calls_of one ≡ calls_of other → (answers_of one ≡ answers_of other) × (t ≡ u)
same_calls s t u one other first second alike =
    let both : ◌≡◌ {A = RunOutcome} (answers_of one, t) (answers_of other, u) =
    sym (least_is_run s t one first.fit first.least) ∙ ap (run_calls s) alike ∙ least_is_run s u other second.fit second.least in
    (ap (λ (o : RunOutcome). o.0) both, ap (λ (o : RunOutcome). o.1) both)
