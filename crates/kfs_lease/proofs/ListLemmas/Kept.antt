-- Each step keeps leases lawful.
use Rattle.std.proofs.Common.{◌≡◌, ℕ, ◌<◌, ◌⊎◌, inl, inr, ◌==◌, Bool, true, false, cond, List, [], ◌∷◌, Option, Some, None, is_some, IsTrue, Result, Ok, Err, refl, sym, ap, subst, ◌∙◌, eqb-true, arith}
use Rattle.std.specs.Prelude.{is_none, nat_le, nat_lt, not}
use Rattle.std.specs.Ordering.{eq_by_cmp}
use Rattle.std.proofs.lemmas.Bool.{lt-ltb, ltb-true}
use Rattle.std.proofs.lemmas.Bool.Decides.{nat_tests}
use Rattle.kfs_model.specs.Access.{Client}
use Rattle.kfs_model.specs.Check.{is_some_and}
use Rattle.kfs_model.specs.Header.{Header}
use Rattle.kfs_model.specs.Judgement.{State, Verdict, Yes, No, Reply, Accepted, NoRoom, Refused, reply_to, verdict_on}
use Rattle.kfs_model.specs.Lease.{Lease, LeaseFault, LeaseHeld, LeaseKind, LeaseOutcome, LeaseTable, Leases, NoLeaseHeld, Backwards, Past, UnknownClient, dropped, granted, granted_at, granted_by_number, granted_by_walk, granted_to_node, may_lease, NotAllowed, granted_on, in_conflict, is_live, live_at, names_of, no_leases, on_those, refused, row_of, ticked, walked, without_gone}
use Rattle.kfs_model.specs.Machine.{Call, Submit, Drop, Tick, Migrate, LeaseAt, CallAnswer, CallOutcome, Done, IsRead, LeaseRefused, MovesRefused, NotDone, Replied, Row, are_chosen, landed, leased, migrated, next, outcome_of, replied, unplaced}
use Rattle.kfs_model.specs.Machine as machine
use Rattle.kfs_model.specs.Migration.{Move, MoveFault, fault_of_moves, moved_by}
use Rattle.kfs_model.specs.Order.{IsInOrder}
use Rattle.kfs_model.specs.Placement.{written_blocks}
use Rattle.kfs_model.specs.Sight.{Sight, sight}
use Rattle.kfs_model.specs.Table.{numbers, pairs, get, insert, remove, retain}
use Rattle.kfs_model.proofs.OrderKept.{step_keeps_order}
use Rattle.kfs_model.proofs.RowsMean.{fitted}
use Rattle.kfs_model.proofs.TableLaws.{get-retain}
use Rattle.kfs_lease.specs.LeaseLists.{AreLawful, HasLawfulLeases}
use Rattle.kfs_lease.proofs.LeasesInForce.{none_in_force}
use Rattle.kfs_lease.proofs.ListLemmas.Faultless.{some_is}
use Rattle.kfs_lease.proofs.ListLemmas.Found.{with_row}

-- each lease is of a known client and live
pub record AreHeld (clients : List Client) (leases : Leases) : Type 0 where
  pub known : (client number : ℕ) → IsTrue (is_some (get leases.rows (client, number))) → IsTrue (is_some (row_of clients client))
  pub live : (client number : ℕ) (lease : Lease) → get leases.rows (client, number) ≡ Some lease → leases.moment < lease.end

was_there : (rows : LeaseTable) (stays : ℕ × ℕ → Bool) (key : ℕ × ℕ) (lease : Lease) → get (retain stays rows) key ≡ Some lease → (stays key ≡ true) × (get rows key ≡ Some lease)
was_there rows stays key lease there = by (stays key) refl (sym (get-retain stays rows key) ∙ there)
  where
    by : (b : Bool) → stays key ≡ b → cond b (get rows key) None ≡ Some lease → (stays key ≡ true) × (get rows key ≡ Some lease)
    by true is there' = (is, there')
    by false is there' = cc

-- a row that is found has the number
number_is : (clients : List Client) (number : ℕ) (client : Client) → row_of clients number ≡ Some client → client.number ≡ number
number_is [] number client is = cc
number_is (row ∷ rows) number client is = by (row.number == number) refl is (number_is rows number client)
  where
    by : (b : Bool) → (row.number == number) ≡ b → cond b (Some row) (row_of rows number) ≡ Some client → (row_of rows number ≡ Some client → client.number ≡ number) → client.number ≡ number
    by true same is' further = let first : row ≡ client = cc in sym (ap (λ (c : Client). c.number) first) ∙ eqb-true row.number number same
    by false other is' further = further is'

module _ (clients : List Client) (leases : Leases) (held : AreHeld clients leases) where
  fewer : (stays : ℕ × ℕ → Bool) → AreHeld clients (record { rows = retain stays leases.rows; moment = leases.moment })
  fewer stays = record {
    known = λ client number there.
        let (lease, is) = some_is (get (retain stays leases.rows) (client, number)) there in
        held.known client number (ap is_some (was_there leases.rows stays (client, number) lease is).1);
    live = λ client number lease is. held.live client number lease (was_there leases.rows stays (client, number) lease is).1;
  }

  one_more : (client : Client) (node : ℕ) (kind : LeaseKind) (end : ℕ) → row_of clients client.number ≡ Some client → leases.moment < end → AreHeld clients (record leases { rows = insert leases.rows (client.number, node) (record { kind = kind; end = end }) })
  one_more holder node kind end row later = record {
    known = λ client number there.
        let (lease, is) = some_is (get (insert leases.rows (holder.number, node) (record { kind = kind; end = end })) (client, number)) there in
        known_by client number lease (with_row leases.rows holder.number node (record { kind = kind; end = end }) client number lease is);
    live = λ client number lease is. live_by client number lease (with_row leases.rows holder.number node (record { kind = kind; end = end }) client number lease is);
  }
    where
      known_by : (client number : ℕ) (lease : Lease) → ((client ≡ holder.number) × (number ≡ node) × (record { kind = kind; end = end } ≡ lease)) ⊎ (get leases.rows (client, number) ≡ Some lease) → is_some (row_of clients client) ≡ true
      known_by client number lease (inl new) = subst (λ c. is_some (row_of clients c) ≡ true) (sym new.0) (ap is_some row)
      known_by client number lease (inr old) = held.known client number (ap is_some old)

      live_by : (client number : ℕ) (lease : Lease) → ((client ≡ holder.number) × (number ≡ node) × (record { kind = kind; end = end } ≡ lease)) ⊎ (get leases.rows (client, number) ≡ Some lease) → leases.moment < lease.end
      live_by client number lease (inl new) = subst (λ (l : Lease). leases.moment < l.end) new.2 later
      live_by client number lease (inr old) = held.live client number lease old

  abbrev HeldBy : LeaseOutcome → Type 0
  HeldBy outcome = AreHeld clients outcome.1

  -- on a node that was found
  found_held : (client : Client) (n : ℕ) (kind : LeaseKind) (end : ℕ) → row_of clients client.number ≡ Some client → HeldBy (granted_at leases client n kind end)
  found_held client n kind end row = by_end (nat_le end leases.moment) refl
    where
      by_conflict : leases.moment < end → (found : Option ((ℕ × ℕ) × Lease))
          → HeldBy (elim found [ Some row ↦ refused (LeaseHeld row.0.0) leases | None ↦ (Ok n, record leases { rows = insert leases.rows (client.number, n) (record { kind = kind; end = end }) }) ])
      by_conflict later None = one_more client n kind end row later
      by_conflict later (Some other) = held

      by_end : (past : Bool) → nat_le end leases.moment ≡ past
          → HeldBy (cond past (refused Past leases) (elim (in_conflict leases client.number n kind) [ Some row ↦ refused (LeaseHeld row.0.0) leases | None ↦ (Ok n, record leases { rows = insert leases.rows (client.number, n) (record { kind = kind; end = end }) }) ]))
      by_end true is = held
      by_end false is = let later : leases.moment < end = grind (arith, nat_tests) in by_conflict later (in_conflict leases client.number n kind)

  -- a row that is found is found by its number
  found_again : (number : ℕ) (client : Client) → row_of clients number ≡ Some client → row_of clients client.number ≡ Some client
  found_again number client is = ap (row_of clients) (number_is clients number client is) ∙ is

  granted_held : (sight : Sight) (number : ℕ) (path : List ℕ) (kind : LeaseKind) (end : ℕ) → HeldBy (granted leases sight clients number path kind end)
  unfolding granted
  granted_held sight number path kind end = by_client (row_of clients number) refl
    where
      by_walk : (client : Client) → row_of clients client.number ≡ Some client → (came : Result ℕ LeaseFault) → HeldBy (granted_by_walk leases came client kind end)
      by_walk client row (Err fault) = held
      by_walk client row (Ok n) = found_held client n kind end row

      by_path : (client : Client) → row_of clients client.number ≡ Some client → (names : Option (List (List ℕ))) → HeldBy (granted_on leases sight names client kind end)
      by_path client row None = held
      by_path client row (Some names) = by_walk client row (walked sight client 1 0 names)

      by_client : (found : Option Client) → row_of clients number ≡ found → HeldBy (elim found [ None ↦ refused UnknownClient leases | Some client ↦ granted_on leases sight (names_of path) client kind end ])
      by_client None is = held
      by_client (Some client) is = by_path client (found_again number client is) (names_of path)

  granted_by_number_held : (sight : Sight) (number n : ℕ) (kind : LeaseKind) (end : ℕ) → HeldBy (granted_by_number leases sight clients number n kind end)
  unfolding granted_by_number
  granted_by_number_held sight number n kind end = by_client (row_of clients number) refl
    where
      by_permission : (client : Client) → row_of clients client.number ≡ Some client → (allowed : Bool) → HeldBy (cond allowed (granted_at leases client n kind end) (refused NotAllowed leases))
      by_permission client row true = found_held client n kind end row
      by_permission client row false = held

      by_head : (client : Client) → row_of clients client.number ≡ Some client → (head : Option Header) → HeldBy (granted_to_node leases head client n kind end)
      by_head client row None = held
      by_head client row (Some h) = by_permission client row (may_lease client kind h)

      by_client : (found : Option Client) → row_of clients number ≡ found → HeldBy (elim found [ None ↦ refused UnknownClient leases | Some client ↦ granted_to_node leases (sight.head n) client n kind end ])
      by_client None is = held
      by_client (Some client) is = by_head client (found_again number client is) (sight.head n)

  dropped_held : (client number : ℕ) → HeldBy (dropped leases clients client number)
  unfolding dropped remove
  dropped_held client number = by (is_none (row_of clients client)) (is_none (get leases.rows (client, number)))
    where
      by : (unknown none : Bool) → HeldBy (cond unknown (refused UnknownClient leases) (cond none (refused NoLeaseHeld leases) (Ok number, record leases { rows = remove leases.rows (client, number) })))
      by true none = held
      by false true = held
      by false false = fewer (λ key. not (eq_by_cmp (pairs numbers numbers).compare (client, number) key))

  ticked_held : (moment : ℕ) → HeldBy (ticked leases moment)
  unfolding ticked live_at
  ticked_held moment = by (nat_lt moment leases.moment)
    where
      stays : ℕ × ℕ → Bool
      stays key = is_some_and (get leases.rows key) (is_live moment)

      above : (lease : Lease) (found : Option Lease) → found ≡ Some lease → is_some_and found (is_live moment) ≡ true → moment < lease.end
      above lease None none live = cc
      above lease (Some there) is live = let same : there ≡ lease = cc in subst (λ (l : Lease). moment < l.end) same (ltb-true moment there.end live)

      by : (back : Bool) → HeldBy (cond back (refused Backwards leases) (Ok moment, record { rows = retain stays leases.rows; moment = moment }))
      by true = held
      by false = record {
        known = (fewer stays).known;
        live = λ client number lease is. let (live, there) = was_there leases.rows stays (client, number) lease is in above lease (get leases.rows (client, number)) there live;
      }

-- ---- a step

abbrev Holds : Option CallOutcome → Type 0
Holds None = Unit {0}
Holds (Some outcome) = AreHeld outcome.1.clients outcome.1.leases

unplaced_holds : (places : List ℕ) (answer : CallAnswer) (t : State) → AreHeld t.clients t.leases → Holds (unplaced places (answer, t))
unplaced_holds [] answer t held = held
unplaced_holds (place ∷ places) answer t held = tt

module _ (s : State) (held : AreHeld s.clients s.leases) (places : List ℕ) where
  leased_holds : (told : Result ℕ LeaseFault) (leases : Leases) → AreHeld s.clients leases → Holds (leased s places (told, leases))
  leased_holds (Ok number) leases these = unplaced_holds places _ (record s { leases = leases }) these
  leased_holds (Err fault) leases these = unplaced_holds places _ (record s { leases = leases }) these

  migrated_holds : (moves : List Move) (found : Option MoveFault) → Holds (migrated s places moves found)
  migrated_holds moves None = unplaced_holds places (Done _) (record s { placement = moved_by moves s.placement }) held
  migrated_holds moves (Some fault) = unplaced_holds places (NotDone (MovesRefused fault)) s held

  replied_holds : (verdict : Verdict) (reply : Reply) → Holds (replied s places verdict reply)
  unfolding without_gone on_those
  replied_holds (No fault) reply = unplaced_holds places (Replied reply) s held
  replied_holds (Yes new marks) (NoRoom need free) = unplaced_holds places (Replied (NoRoom need free)) s held
  replied_holds (Yes new marks) (Refused fault) = unplaced_holds places (Replied (Refused fault)) s held
  replied_holds (Yes new marks) (Accepted need) = by (are_chosen s (written_blocks marks) places)
    where
      by : (b : Bool) → Holds (cond b (Some (Replied (Accepted need), landed s new marks places)) None)
      by true = fewer s.clients s.leases held (λ key. is_some (get new.nodes key.1))
      by false = tt

  outcome_holds : (call : Call) → Holds (outcome_of s call places)
  unfolding outcome_of
  outcome_holds (Submit submission reading) = replied_holds (verdict_on s submission.client reading) (reply_to s (verdict_on s submission.client reading))
  outcome_holds (machine.Lease client path kind end) = let all = granted s.leases (sight s.tree) s.clients client path kind end in leased_holds all.0 all.1 (granted_held s.clients s.leases held (sight s.tree) client path kind end)
  outcome_holds (Drop client number) = let all = dropped s.leases s.clients client number in leased_holds all.0 all.1 (dropped_held s.clients s.leases held client number)
  outcome_holds (Tick moment) = let all = ticked s.leases moment in leased_holds all.0 all.1 (ticked_held s.clients s.leases held moment)
  outcome_holds (LeaseAt client number kind end) =
      let all = granted_by_number s.leases (sight s.tree) s.clients client number kind end in
      leased_holds all.0 all.1 (granted_by_number_held s.clients s.leases held (sight s.tree) client number kind end)
  outcome_holds (Migrate moves) = migrated_holds moves (fault_of_moves s.sizes s.placement moves)

-- where there is no lease, all are
pub none_lawful : (clients : List Client) (heads : ℕ → Option Header) → AreLawful clients heads no_leases
unfolding get
none_lawful clients heads = record {
  known = λ client number there. cc;
  on_nodes = λ client number there. cc;
  in_force = none_in_force;
}

pub steps_keep : (s t : State) (row : Row) → IsInOrder s → IsRead row → HasLawfulLeases s → next s row ≡ Some t → HasLawfulLeases t
steps_keep s t row order read lawful fits =
    let (outcome, comes, answer, state) = fitted s t row fits in
    let held = subst (λ (u : State). AreHeld u.clients u.leases) state (subst Holds comes (outcome_holds s (record { known = lawful.known; live = λ client number lease is. ltb-true s.leases.moment lease.end (lawful.in_force.live client number lease is) }) row.places row.call)) in
    let in_order = step_keeps_order s t row order read fits in
    record {
      known = held.known;
      on_nodes = in_order.on_nodes;
      in_force = record { live = λ client number lease is. lt-ltb t.leases.moment lease.end (held.live client number lease is); compatible = in_order.compatible };
    }
