-- What the machine's step of a row makes of the state.
use Rattle.std.proofs.Common.{◌≡◌, ℕ, Bool, true, false, cond, List, [], ◌∷◌, Option, Some, None, Result, Ok, Err, refl, sym, subst, ◌∙◌}
use Rattle.std.specs.Prelude.{length, nat_lt}
use Rattle.kfs_model.proofs.OneByOne.{run_is_one_by_one}
use Rattle.kfs_model.proofs.OrderKept.{yes_means}
use Rattle.kfs_model.specs.Judgement.{State, Submission, Reading, IsReadAs, Verdict, Yes, No, Accepted, NoRoom, Refused, is_yes, free_places, client_sight_of, judged, reply_to, verdict_on}
use Rattle.kfs_model.specs.Lease.{Leases, LeaseFault, dropped, granted, granted_by_number, ticked}
use Rattle.kfs_model.specs.Machine.{Call, Submit, Lease, Drop, Tick, Migrate, LeaseAt, CallAnswer, CallAnswer-equality, CallFault, LeaseRefused, MovesRefused, CallOutcome, Done, NotDone, OneByOne, Replied, Row, IsRead, answered, are_chosen, landed, leased, migrated, next, outcome_of, replied, same_answer, unplaced}
use Rattle.kfs_model.specs.Migration.{Move, MoveFault, fault_of_moves, moved_by}
use Rattle.kfs_model.specs.Placement.{need, written_blocks}
use Rattle.kfs_model.specs.Run.{Mark}
use Rattle.kfs_model.specs.Sight.{sight}
use Rattle.kfs_model.specs.Spelling.{LogAnswer}
use Rattle.kfs_model.specs.Tree.{Tree}
use Rattle.kfs_model.specs.Means.{HasEntriesDone, Means, MeansOf}

-- ---- what fits is what the call comes to

module _ (s t : State) (row : Row) where
  pub fitted : next s row ≡ Some t → (outcome : CallOutcome) × (outcome_of s row.call row.places ≡ Some outcome) × (outcome.0 ≡ row.answer) × (outcome.1 ≡ t)
  unfolding next
  fitted is = by (outcome_of s row.call row.places) refl is
    where
      alike : (a b : CallAnswer) (outcome : CallOutcome) → outcome.0 ≡ a → cond (same_answer a b) (Some outcome.1) None ≡ Some t → (outcome.0 ≡ b) × (outcome.1 ≡ t)
      alike a b outcome first is = at (CallAnswer-equality a b) is
        where
          at : (d : Dec (a ≡ b)) → cond (is_yes d) (Some outcome.1) None ≡ Some t → (outcome.0 ≡ b) × (outcome.1 ≡ t)
          at (yes same) is = (first ∙ same, cc)
          at (no differ) is = cc

      by : (found : Option CallOutcome) → outcome_of s row.call row.places ≡ found → ◌≡◌ {A = Option State} (elim found [ None ↦ None | Some outcome ↦ answered row.answer outcome ]) (Some t)
          → (outcome : CallOutcome) × (outcome_of s row.call row.places ≡ Some outcome) × (outcome.0 ≡ row.answer) × (outcome.1 ≡ t)
      by None comes is = cc
      by (Some outcome) comes is = let both = alike outcome.0 row.answer outcome refl is in (outcome, comes, both.0, both.1)

unplaced_is : (places : List ℕ) (outcome other : CallOutcome) → unplaced places outcome ≡ Some other → outcome ≡ other
unplaced_is [] outcome other is = cc
unplaced_is (place ∷ places) outcome other is = cc

-- ---- a Yes

module _ (s : State) (submission : Submission) (reading : Reading) (read : IsReadAs submission reading) (after : Tree ℕ) (marks : Tree Mark) where
  -- the run of the entries that the log encodes ends at this tree
  done : judged s submission.client reading.log reading.plan ≡ Yes after marks → (t : State) → t.tree ≡ after → HasEntriesDone s submission t
  done is t at =
      let yes = yes_means s submission.client reading.log reading.plan after marks is in
      record {
        client = yes.client;
        row = yes.row;
        log = yes.read;
        spelled = subst (LogAnswer submission.log) yes.log_is read.log;
        holds = subst (OneByOne yes.client (client_sight_of s yes.client.number) 0 [] s.tree yes.read.entries) (sym at)
            (run_is_one_by_one yes.client (client_sight_of s yes.client.number) 0 [] s.tree yes.read.entries after yes.ran);
      }

-- ---- each call

-- the same of an equal answer and an equal state
moved : (s : State) (call : Call) (outcome : CallOutcome) (answer : CallAnswer) (t : State) → outcome.0 ≡ answer → outcome.1 ≡ t → MeansOf s call outcome.0 outcome.1 → MeansOf s call answer t
moved s call outcome answer t same also means = subst (λ a. MeansOf s call a t) same (subst (MeansOf s call outcome.0) also means)

module _ (s : State) (places : List ℕ) where
  replied_means : (submission : Submission) (reading : Reading) → IsReadAs submission reading → (verdict : Verdict) → verdict_on s submission.client reading ≡ verdict → (outcome : CallOutcome) → replied s places verdict (reply_to s verdict) ≡ Some outcome → MeansOf s (Submit submission reading) outcome.0 outcome.1
  unfolding reply_to
  replied_means submission reading read (No fault) judged_so outcome is =
      let same = unplaced_is places (Replied (Refused fault), s) outcome is in
      subst (λ (o : CallOutcome). MeansOf s (Submit submission reading) o.0 o.1) same refl
  replied_means submission reading read (Yes after marks) judged_so outcome is = by_room (nat_lt (length (free_places s)) (need marks)) is
    where
      by_room : (full : Bool) → replied s places (Yes after marks) (cond full (NoRoom (need marks) (length (free_places s))) (Accepted (need marks))) ≡ Some outcome → MeansOf s (Submit submission reading) outcome.0 outcome.1
      by_room true is =
          let same = unplaced_is places (Replied (NoRoom (need marks) (length (free_places s))), s) outcome is in
          subst (λ (o : CallOutcome). MeansOf s (Submit submission reading) o.0 o.1) same refl
      by_room false is = by_places (are_chosen s (written_blocks marks) places) is
        where
          by_places : (chosen : Bool) → cond chosen (Some (Replied (Accepted (need marks)), landed s after marks places)) None ≡ Some outcome → MeansOf s (Submit submission reading) outcome.0 outcome.1
          by_places true is =
              let same : ◌≡◌ {A = CallOutcome} (Replied (Accepted (need marks)), landed s after marks places) outcome = cc in
              subst (λ (o : CallOutcome). MeansOf s (Submit submission reading) o.0 o.1) same (done s submission reading read after marks judged_so (landed s after marks places) refl)
          by_places false is = cc

  module _ (call : Call) (done : (number : ℕ) (leases : Leases) → MeansOf s call (Done number) (record s { leases = leases })) (not_done : (fault : CallFault) (leases : Leases) → MeansOf s call (NotDone fault) (record s { leases = leases })) where
    leased_means : (told : Result ℕ LeaseFault) (leases : Leases) (outcome : CallOutcome) → leased s places (told, leases) ≡ Some outcome → MeansOf s call outcome.0 outcome.1
    leased_means (Ok number) leases outcome is = subst (λ (o : CallOutcome). MeansOf s call o.0 o.1) (unplaced_is places (Done number, record s { leases = leases }) outcome is) (done number leases)
    leased_means (Err fault) leases outcome is = subst (λ (o : CallOutcome). MeansOf s call o.0 o.1) (unplaced_is places (NotDone (LeaseRefused fault), record s { leases = leases }) outcome is) (not_done (LeaseRefused fault) leases)

  migrated_means : (moves : List Move) (found : Option MoveFault) (outcome : CallOutcome) → migrated s places moves found ≡ Some outcome → MeansOf s (Migrate moves) outcome.0 outcome.1
  migrated_means moves None outcome is =
      let after = moved_by moves s.placement in
      subst (λ (o : CallOutcome). MeansOf s (Migrate moves) o.0 o.1) (unplaced_is places (Done (length moves), record s { placement = after }) outcome is) (after, refl)
  migrated_means moves (Some fault) outcome is = subst (λ (o : CallOutcome). MeansOf s (Migrate moves) o.0 o.1) (unplaced_is places (NotDone (MovesRefused fault), s) outcome is) refl

  outcome_means : (call : Call) (row : Row) → row.call ≡ call → IsRead row → (outcome : CallOutcome) → outcome_of s call places ≡ Some outcome → MeansOf s call outcome.0 outcome.1
  unfolding outcome_of
  outcome_means (Submit submission reading) row at read outcome is =
      let read_as : IsReadAs submission reading = subst (λ (c : Call). IsRead (record row { call = c })) at read in
      replied_means submission reading read_as (verdict_on s submission.client reading) refl outcome is
  outcome_means (Lease client path kind end) row at read outcome is = let all = granted s.leases (sight s.tree) s.clients client path kind end in leased_means (Lease client path kind end) (λ number leases. (leases, refl)) (λ fault leases. (leases, refl)) all.0 all.1 outcome is
  outcome_means (Drop client number) row at read outcome is = let all = dropped s.leases s.clients client number in leased_means (Drop client number) (λ told leases. (leases, refl)) (λ fault leases. (leases, refl)) all.0 all.1 outcome is
  outcome_means (Tick moment) row at read outcome is = let all = ticked s.leases moment in leased_means (Tick moment) (λ told leases. (leases, refl)) (λ fault leases. (leases, refl)) all.0 all.1 outcome is
  outcome_means (LeaseAt client number kind end) row at read outcome is = let all = granted_by_number s.leases (sight s.tree) s.clients client number kind end in leased_means (LeaseAt client number kind end) (λ number leases. (leases, refl)) (λ fault leases. (leases, refl)) all.0 all.1 outcome is
  outcome_means (Migrate moves) row at read outcome is = migrated_means moves (fault_of_moves s.sizes s.placement moves) outcome is

pub row_means : (s t : State) (row : Row) → IsRead row → next s row ≡ Some t → Means s row t
row_means s t row read is =
    let (outcome, comes, answer, state) = fitted s t row is in
    moved s row.call outcome row.answer t answer state (outcome_means s row.places row.call row refl read outcome comes)
