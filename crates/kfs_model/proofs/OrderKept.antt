-- Each step of the machine keeps its state in order.
use Rattle.std.proofs.Common.{◌≡◌, ℕ, ◌==◌, Bool, true, false, cond, List, [], ◌∷◌, length, Option, Some, None, is_some, Result, Ok, Err, refl, sym, ap, subst, ◌∙◌}
use Rattle.std.specs.List.{AllByRecursion}
use Rattle.kfs_model.specs.Access.{Client, ClientsAreDistinct}
use Rattle.kfs_model.specs.Table.{get, insert, empty}
use Rattle.kfs_model.specs.Tree.{Tree, headers}
use Rattle.kfs_model.specs.Sight.{sight, ClientSight}
use Rattle.kfs_model.specs.Entry.{Entry, Log}
use Rattle.kfs_model.specs.Header.{Header}
use Rattle.kfs_model.specs.Lease.{LeaseFault, LeaseKind, Leases, row_of, walked, in_conflict, granted, granted_by_number, dropped, ticked}
use Rattle.kfs_model.specs.PlanRow.{Plan}
use Rattle.kfs_model.specs.Run.{Mark, EntryFault, run, over_bytes, over_marks, marked, byte_of, looked_up}
use Rattle.kfs_model.specs.FirstWrong.{RowFault, first_wrong_row}
use Rattle.kfs_model.specs.Spelling.{SpellingFault, LogAnswer, IsEntry}
use Rattle.kfs_model.specs.CleanStep.{IsClient}
use Rattle.kfs_model.specs.Fresh.{fresh_tree}
use Rattle.kfs_model.specs.Soundness.{IsSound}
use Rattle.kfs_model.specs.Placement.{TierSizes, written_blocks}
use Rattle.kfs_model.specs.Judgement.{State, Verdict, Yes, No, ClientUnknown, ClientWrong, AtRow, Reply, Accepted, NoRoom, Refused, Submission, Reading, IsReadAs, client_sight_of, judged, judged_log, judged_plan, judged_run, verdict_on, reply_to}
use Rattle.kfs_model.specs.Machine.{Call, Submit, Lease, Drop, Tick, Migrate, LeaseAt, CallAnswer, Replied, Done, NotDone, MovesRefused, CallOutcome, Row, IsRead, same_answer, answered, unplaced, replied, leased, migrated, are_chosen, landed, outcome_of, next, after, opening}
use Rattle.kfs_model.specs.Order.{IsInOrder}
use Rattle.kfs_model.specs.Migration.{Move, MoveFault, fault_of_moves, moved_by}
use Rattle.kfs_model.proofs.Cells.{recut, headers-recut}
use Rattle.kfs_model.proofs.FreshTree.{fresh_is_sound}
use Rattle.kfs_model.proofs.MovedBlocks.{placed_after}
use Rattle.kfs_model.proofs.Marks.{marks_give_bytes}
use Rattle.kfs_model.proofs.SeenRun.{run_keeps_sound, bytes_faithful}
use Rattle.kfs_model.proofs.LeasesKept.{KeptByFewer, granted_keeps, granted_by_number_keeps, dropped_keeps, ticked_keeps, on_nodes-insert, on_nodes-retain, compatible-insert, compatible-retain, without_gone_on_nodes, without_gone_compatible}
use Rattle.kfs_model.proofs.WalkedNode.{walked_to_node}
use Rattle.kfs_model.proofs.PlacementKept.{placement_kept}

-- ---- what a Yes says

-- the run of a client's log ends at these trees
pub record IsYes (s : State) (number : ℕ) (log : Result Log SpellingFault) (after : Tree ℕ) (marked_after : Tree Mark) : Type 0 where
  pub client : Client
  pub row : row_of s.clients number ≡ Some client
  pub read : Log
  pub log_is : log ≡ Ok read
  pub ran : run over_bytes client (client_sight_of s client.number) s.tree read.entries ≡ Ok after
  pub ran_marked : run over_marks client (client_sight_of s client.number) (marked s.tree) read.entries ≡ Ok marked_after

module _ (s : State) (number : ℕ) (log : Result Log SpellingFault) (plan : Result Plan SpellingFault) (after : Tree ℕ) (marked_after : Tree Mark) where
  pub yes_means : judged s number log plan ≡ Yes after marked_after → IsYes s number log after marked_after
  unfolding judged
  yes_means is = by_client (row_of s.clients number) refl is
    where
      by_rows : (client : Client) (read : Log) (rows : Plan) (t : Tree ℕ) (u : Tree Mark) → row_of s.clients number ≡ Some client → log ≡ Ok read
          → run over_bytes client (client_sight_of s client.number) s.tree read.entries ≡ Ok t → run over_marks client (client_sight_of s client.number) (marked s.tree) read.entries ≡ Ok u
          → (wrong : Option RowFault) → ◌≡◌ {A = Verdict} (elim wrong [ None ↦ Yes t u | Some fault ↦ No (AtRow fault) ]) (Yes after marked_after) → IsYes s number log after marked_after
      by_rows client read rows t u row log_is ran ran_marked None is =
          let same : t ≡ after = cc in
          let also : u ≡ marked_after = cc in
          record { client = client; row = row; read = read; log_is = log_is; ran = ran ∙ ap Ok same; ran_marked = ran_marked ∙ ap Ok also }
      by_rows client read rows t u row log_is ran ran_marked (Some fault) is = cc

      by_run : (client : Client) (read : Log) (rows : Plan) → row_of s.clients number ≡ Some client → log ≡ Ok read
          → (end : Result (Tree ℕ) EntryFault) (marked_end : Result (Tree Mark) EntryFault) → run over_bytes client (client_sight_of s client.number) s.tree read.entries ≡ end → run over_marks client (client_sight_of s client.number) (marked s.tree) read.entries ≡ marked_end
          → judged_run s rows end marked_end ≡ Yes after marked_after → IsYes s number log after marked_after
      by_run client read rows row log_is (Err fault) marked_end ran ran_marked is = cc
      by_run client read rows row log_is (Ok t) (Err fault) ran ran_marked is = cc
      by_run client read rows row log_is (Ok t) (Ok u) ran ran_marked is = by_rows client read rows t u row log_is ran ran_marked (first_wrong_row s.tree u rows) is

      by_plan : (client : Client) (read : Log) (rows : Result Plan SpellingFault) → row_of s.clients number ≡ Some client → log ≡ Ok read → judged_plan s client read rows ≡ Yes after marked_after → IsYes s number log after marked_after
      by_plan client read (Err fault) row log_is is = cc
      by_plan client read (Ok rows) row log_is is =
          by_run client read rows row log_is (run over_bytes client (client_sight_of s client.number) s.tree read.entries) (run over_marks client (client_sight_of s client.number) (marked s.tree) read.entries) refl refl is

      by_owner : (client : Client) (read : Log) → row_of s.clients number ≡ Some client → log ≡ Ok read → (own : Bool) → cond own (judged_plan s client read plan) (No ClientWrong) ≡ Yes after marked_after → IsYes s number log after marked_after
      by_owner client read row log_is true is = by_plan client read plan row log_is is
      by_owner client read row log_is false is = cc

      by_log : (client : Client) (l : Result Log SpellingFault) → row_of s.clients number ≡ Some client → log ≡ l → judged_log s client l plan ≡ Yes after marked_after → IsYes s number log after marked_after
      by_log client (Err fault) row log_is is = cc
      by_log client (Ok read) row log_is is = by_owner client read row log_is (read.client == client.number) is

      by_client : (found : Option Client) → row_of s.clients number ≡ found → ◌≡◌ {A = Verdict} (elim found [ None ↦ No ClientUnknown | Some client ↦ judged_log s client log plan ]) (Yes after marked_after) → IsYes s number log after marked_after
      by_client None row is = cc
      by_client (Some client) row is = by_log client log row refl is

-- ---- what it keeps

client_in_range : (clients : List Client) (number : ℕ) (client : Client) → AllByRecursion IsClient clients → row_of clients number ≡ Some client → IsClient client
client_in_range [] number client all row = cc
client_in_range (c ∷ clients) number client all row = at (c.number == number) (client_in_range clients number client all.1) row
  where
    at : (b : Bool) → (row_of clients number ≡ Some client → IsClient client) → cond b (Some c) (row_of clients number) ≡ Some client → IsClient client
    at true rest is = let same : c ≡ client = cc in subst IsClient same all.0
    at false rest is = rest is

-- bytes and marks show the same headers
heads_alike : (client : Client) (before : ClientSight) (tree : Tree ℕ) (entries : List Entry) (after : Tree ℕ) (marked_after : Tree Mark) → run over_bytes client before tree entries ≡ Ok after → run over_marks client before (marked tree) entries ≡ Ok marked_after → headers marked_after ≡ headers after
heads_alike client before tree entries after marked_after ran ran_marked =
    let byte = byte_of tree entries in
    let both : ◌≡◌ {A = Result (Tree ℕ) EntryFault} (Ok (recut byte marked_after)) (Ok after) = ap (looked_up byte) (sym ran_marked) ∙ marks_give_bytes client before tree entries ∙ ran in
    let same : recut byte marked_after ≡ after = cc in
    sym (headers-recut byte marked_after) ∙ ap (λ (t : Tree ℕ). headers t) same

entries_fit : (submission : List ℕ) (log : Result Log SpellingFault) (read : Log) → LogAnswer submission log → log ≡ Ok read → AllByRecursion (IsEntry read.version) read.entries
entries_fit submission log read answer is = let fit = subst (LogAnswer submission) is answer in fit.0.1

-- ---- the outcomes of a state in order

abbrev InOrder : Option CallOutcome → Type 0
InOrder None = Unit {0}
InOrder (Some outcome) = IsInOrder outcome.1

unplaced_in_order : (places : List ℕ) (answer : CallAnswer) (t : State) → IsInOrder t → InOrder (unplaced places (answer, t))
unplaced_in_order [] answer t order = order
unplaced_in_order (place ∷ places) answer t order = tt

module _ (s : State) (order : IsInOrder s) (places : List ℕ) where
  -- the state with these leases is in order
  abbrev OrderWith : Leases → Type 0
  OrderWith leases = IsInOrder (record s { leases = leases })

  with_fewer : KeptByFewer s.leases OrderWith order
  with_fewer stays moment later =
      record { sound = order.sound; on_nodes = on_nodes-retain s.tree s.leases.rows stays order.on_nodes; compatible = compatible-retain s.leases stays moment later order.compatible; distinct = order.distinct; clients = order.clients; placement = order.placement }

  with_one_more : (kind : LeaseKind) (end : ℕ) (client : Client) (names : List (List ℕ)) (n : ℕ) → walked (sight s.tree) client 1 0 names ≡ Ok n → in_conflict s.leases client.number n kind ≡ None
      → OrderWith (record s.leases { rows = insert s.leases.rows (client.number, n) (record { kind = kind; end = end }) })
  with_one_more kind end client names n came none = record {
    sound = order.sound;
    on_nodes = on_nodes-insert s.tree s.leases.rows client.number n (record { kind = kind; end = end }) order.on_nodes (walked_to_node s.tree order.sound client names n came);
    compatible = compatible-insert s.leases client.number n kind end order.compatible none;
    distinct = order.distinct;
    clients = order.clients;
    placement = order.placement;
  }

  -- the node is there, by its header
  with_one_by_number : (kind : LeaseKind) (end n : ℕ) (client : Client) (h : Header) → (sight s.tree).head n ≡ Some h → in_conflict s.leases client.number n kind ≡ None
      → OrderWith (record s.leases { rows = insert s.leases.rows (client.number, n) (record { kind = kind; end = end }) })
  with_one_by_number kind end n client h there none = record {
    sound = order.sound;
    on_nodes = on_nodes-insert s.tree s.leases.rows client.number n (record { kind = kind; end = end }) order.on_nodes (ap is_some there);
    compatible = compatible-insert s.leases client.number n kind end order.compatible none;
    distinct = order.distinct;
    clients = order.clients;
    placement = order.placement;
  }

  leased_in_order : (told : Result ℕ LeaseFault) (leases : Leases) → OrderWith leases → InOrder (leased s places (told, leases))
  leased_in_order (Ok number) leases with_these = unplaced_in_order places _ (record s { leases = leases }) with_these
  leased_in_order (Err fault) leases with_these = unplaced_in_order places _ (record s { leases = leases }) with_these

  -- moves leave each block a place of its own
  migrated_in_order : (moves : List Move) (found : Option MoveFault) → fault_of_moves s.sizes s.placement moves ≡ found → InOrder (migrated s places moves found)
  migrated_in_order moves None none = unplaced_in_order places (Done (length moves)) (record s { placement = moved_by moves s.placement }) (record {
    sound = order.sound;
    on_nodes = order.on_nodes;
    compatible = order.compatible;
    distinct = order.distinct;
    clients = order.clients;
    placement = placed_after s.sizes s.placement moves none (get (headers s.tree)) order.placement;
  })
  migrated_in_order moves (Some fault) found = unplaced_in_order places (NotDone (MovesRefused fault)) s order

  landed_in_order : (number : ℕ) (log : Result Log SpellingFault) (submission : List ℕ) (after : Tree ℕ) (marked_after : Tree Mark) → LogAnswer submission log → IsYes s number log after marked_after
      → are_chosen s (written_blocks marked_after) places ≡ true → IsInOrder (landed s after marked_after places)
  landed_in_order number log submission after marked_after answer said chosen = record {
    sound = run_keeps_sound over_bytes bytes_faithful said.client (client_sight_of s said.client.number) (client_in_range s.clients number said.client order.clients said.row) 0 [] s.tree said.read.version said.read.entries order.sound (entries_fit submission log said.read answer said.log_is) after said.ran;
    on_nodes = without_gone_on_nodes s.leases after;
    compatible = without_gone_compatible s.leases (λ n. is_some (get after.nodes n)) order.compatible;
    distinct = order.distinct;
    clients = order.clients;
    placement = placement_kept s after marked_after places order.placement chosen (heads_alike said.client (client_sight_of s said.client.number) s.tree said.read.entries after marked_after said.ran said.ran_marked);
  }

  replied_in_order : (submission : Submission) (reading : Reading) → IsReadAs submission reading → (verdict : Verdict) → verdict_on s submission.client reading ≡ verdict → (reply : Reply) → InOrder (replied s places verdict reply)
  replied_in_order submission reading read (No fault) is reply = unplaced_in_order places (Replied reply) s order
  replied_in_order submission reading read (Yes after marked_after) is (NoRoom need free) = unplaced_in_order places (Replied (NoRoom need free)) s order
  replied_in_order submission reading read (Yes after marked_after) is (Refused fault) = unplaced_in_order places (Replied (Refused fault)) s order
  replied_in_order submission reading read (Yes after marked_after) is (Accepted need) = by (are_chosen s (written_blocks marked_after) places) refl
    where
      by : (b : Bool) → are_chosen s (written_blocks marked_after) places ≡ b → InOrder (cond b (Some (Replied (Accepted need), landed s after marked_after places)) None)
      by true chosen = landed_in_order submission.client reading.log submission.log after marked_after read.log (yes_means s submission.client reading.log reading.plan after marked_after is) chosen
      by false chosen = tt

  outcome_in_order : (call : Call) (row : Row) → row.call ≡ call → IsRead row → InOrder (outcome_of s call places)
  unfolding outcome_of
  outcome_in_order (Submit submission reading) row is read =
      let read_as : IsReadAs submission reading = subst (λ (c : Call). IsRead (record row { call = c })) is read in
      replied_in_order submission reading read_as (verdict_on s submission.client reading) refl (reply_to s (verdict_on s submission.client reading))
  outcome_in_order (Lease client path kind end) row is read =
      let outcome = granted s.leases (sight s.tree) s.clients client path kind end in
      leased_in_order outcome.0 outcome.1 (granted_keeps s.leases OrderWith order (sight s.tree) s.clients client path kind end (with_one_more kind end))
  outcome_in_order (Drop client number) row is read =
      let outcome = dropped s.leases s.clients client number in
      leased_in_order outcome.0 outcome.1 (dropped_keeps s.leases OrderWith order s.clients client number with_fewer)
  outcome_in_order (Tick moment) row is read =
      let outcome = ticked s.leases moment in
      leased_in_order outcome.0 outcome.1 (ticked_keeps s.leases OrderWith order moment with_fewer)
  outcome_in_order (LeaseAt client number kind end) row is read =
      let outcome = granted_by_number s.leases (sight s.tree) s.clients client number kind end in
      leased_in_order outcome.0 outcome.1 (granted_by_number_keeps s.leases OrderWith order (sight s.tree) s.clients client number kind end (with_one_by_number kind end number))
  outcome_in_order (Migrate moves) row is read = migrated_in_order moves (fault_of_moves s.sizes s.placement moves) refl

-- ---- a step

pub step_keeps_order : (s t : State) (row : Row) → IsInOrder s → IsRead row → next s row ≡ Some t → IsInOrder t
unfolding next
step_keeps_order s t row order read is = by (outcome_of s row.call row.places) (outcome_in_order s order row.places row.call row refl read) is
  where
    by_answer : (outcome : CallOutcome) (same : Bool) → IsInOrder outcome.1 → cond same (Some outcome.1) None ≡ Some t → IsInOrder t
    by_answer outcome true kept is = let same : outcome.1 ≡ t = cc in subst IsInOrder same kept
    by_answer outcome false kept is = cc

    by : (outcome : Option CallOutcome) → InOrder outcome → ◌≡◌ {A = Option State} (elim outcome [ None ↦ None | Some outcome ↦ answered row.answer outcome ]) (Some t) → IsInOrder t
    by None kept is = cc
    by (Some outcome) kept is = by_answer outcome (same_answer outcome.0 row.answer) kept is

pub docket_keeps_order : (s last : State) (docket : List Row) → IsInOrder s → AllByRecursion IsRead docket → after s docket ≡ Some last → IsInOrder last
unfolding after
docket_keeps_order s last [] order read is = let same : s ≡ last = cc in subst IsInOrder same order
docket_keeps_order s last (row ∷ rows) order read is = by (next s row) refl (λ t kept. docket_keeps_order t last rows kept read.1) is
  where
    by : (found : Option State) → next s row ≡ found → ((t : State) → IsInOrder t → after t rows ≡ Some last → IsInOrder last) → ◌≡◌ {A = Option State} (elim found [ None ↦ None | Some t ↦ after t rows ]) (Some last) → IsInOrder last
    by None fits later is = cc
    by (Some t) fits later is = later t (step_keeps_order s t row order read.0 fits) is

-- ---- the state at the start

pub opens_in_order : (clients : List Client) (sizes : TierSizes) (tree : Tree ℕ) → ClientsAreDistinct clients → AllByRecursion IsClient clients → IsSound tree → IsInOrder (opening clients sizes tree empty)
unfolding get
opens_in_order clients sizes tree distinct in_range sound = record {
  sound = sound;
  on_nodes = λ client number leased. cc;
  compatible = λ client other number one two apart first second. let never = first.0 in cc;
  distinct = distinct;
  clients = in_range;
  placement = record {
    laid = record { apart = λ block other place is also. cc; in_tier = λ block place is. cc };
    of_files = λ number block place is. cc;
  };
}

pub fresh_in_order : (clients : List Client) (sizes : TierSizes) → ClientsAreDistinct clients → AllByRecursion IsClient clients → IsInOrder (opening clients sizes (fresh_tree {B = ℕ}) empty)
fresh_in_order clients sizes distinct in_range = opens_in_order clients sizes (fresh_tree {B = ℕ}) distinct in_range (fresh_is_sound ℕ)
