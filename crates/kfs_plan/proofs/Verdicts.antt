-- The verdict on a submission, case by case of the judgement's order.
use Rattle.std.specs.Prelude.{◌≡◌, ◌≢◌, ℕ, true, false, cond, List, [], Option, Some, None, IsSome, Result, Ok, Err, refl}
use Rattle.std.specs.Option.{option_map}
use Rattle.std.proofs.Common.{ap, sym, subst, ◌∙◌}
use Rattle.std.proofs.lemmas.Bool.{eq-eqb, ne_eqb}
use Rattle.kfs_model.specs.Access.{Client}
use Rattle.kfs_model.specs.Entry.{Log}
use Rattle.kfs_model.specs.PlanRow.{Plan}
use Rattle.kfs_model.specs.Tree.{Tree}
use Rattle.kfs_model.specs.Lease.{holds, row_of}
use Rattle.kfs_model.specs.Run.{Mark, EntryFault, run, over_bytes, over_marks, marked}
use Rattle.kfs_model.specs.FirstWrong.{RowFault, Names, Nodes, Pieces, first_wrong_row}
use Rattle.kfs_model.specs.Placement.{need}
use Rattle.kfs_model.specs.Spelling.{IsBytes, SpellingFault, BadHeader, BadEntry, Trailing, BadRow, LogAnswer, PlanAnswer}
use Rattle.kfs_model.specs.Judgement.{State, Submission, Fault, Verdict, client_sight_of, judged, judged_log, judged_plan, judged_run, judged_rows}
use Rattle.kfs_model.specs.Judgement.Fault.{ClientUnknown, ClientWrong, BadLog, BadPlan, AtEntry, AtRow}
use Rattle.kfs_model.specs.Judgement.Verdict.{Yes, No}
use Rattle.kfs_model.specs.Machine.{OneByOne}
use Rattle.kfs_model.specs.CleanStep.{IsClient, Fits}
use Rattle.kfs_model.proofs.RightPlan.{right_from_none}
use Rattle.kfs_entry.specs.Answers.{log_of, plan_of, OnRefusal}
use Rattle.kfs_types.specs.declared.entry.Log.{Log as CodeLog}
use Rattle.kfs_types.specs.declared.plan.Plan.{Plan as CodePlan}
use Rattle.kfs_entry.specs.declared.fault.SpellFault.{SpellFault}
use Rattle.kfs_entry.specs.declared.fault.SpellFault.TheVariants as spelling
use Rattle.kfs_pieces.specs.declared.log.FileSize.{FileSize}
use Rattle.kfs_image_nodes.specs.declared.net.Net.{Net}
use Rattle.kfs_plan.specs.declared.rows.RowFault.{RowFault as CodeRowFault}
use Rattle.kfs_plan.specs.declared.rows.RowFault.TheVariants as rows
use Rattle.kfs_plan.specs.declared.submission.Fault.{Fault as CodeFault}
use Rattle.kfs_plan.specs.declared.submission.Fault.TheVariants as faults
use Rattle.kfs_plan.specs.declared.submission.Outcome.{Outcome}
use Rattle.kfs_plan.specs.declared.submission.Outcome.TheVariants as outcomes
use Rattle.kfs_judge.specs.declared.walk.EntryFault.{EntryFault as CodeEntryFault}
use Rattle.kfs_plan.specs.Judging.{row_fault_of, spelling_fault_of, refusal_of, RefusesByFault, is_before_entries, stops_before, AreOfLog, AreLooked, AreSpelled, AgreesWithReads, IsVerdict, OutcomeIsSettled}
use Rattle.kfs_judge.specs.declared.walk.Walk.{Walk}
use Rattle.kfs_judge.specs.Views.{View, Read, ReadAnswer, client_sight_in, Agrees}
use Rattle.kfs_plan.specs.PlanCheck.{TellsOfEachRun, TellsRow}
use Rattle.kfs_judge.specs.Walks.{ComesToTree, fault_of, IsWalkOf}
use Rattle.kfs_model.proofs.AnswersExist.{log_has_answer, plan_has_answer}
use Rattle.kfs_judge.proofs.CheckLemmas.Lists.{row_has_number}
use Rattle.kfs_plan.proofs.PlanChecked.{told_at_end}

module _ (s : State) (number : ℕ) where
  judged-unknown : (log : Result Log SpellingFault) (plan : Result Plan SpellingFault) → row_of s.clients number ≡ None → judged s number log plan ≡ No ClientUnknown
  unfolding judged
  judged-unknown log plan row = ap (λ o. elim o as (λ _. Verdict) [ None ↦ No ClientUnknown | Some client ↦ judged_log s client log plan ]) row

  module _ (client : Client) (row : row_of s.clients number ≡ Some client) where
    judged-known : (log : Result Log SpellingFault) (plan : Result Plan SpellingFault) → judged s number log plan ≡ judged_log s client log plan
    unfolding judged
    judged-known log plan = ap (λ o. elim o as (λ _. Verdict) [ None ↦ No ClientUnknown | Some client ↦ judged_log s client log plan ]) row

    judged-bad_log : (fault : SpellingFault) (plan : Result Plan SpellingFault) → judged s number (Err fault) plan ≡ No (BadLog fault)
    judged-bad_log fault plan = judged-known (Err fault) plan

    judged-wrong : (log : Log) (plan : Result Plan SpellingFault) → log.client ≢ number → judged s number (Ok log) plan ≡ No ClientWrong
    judged-wrong log plan other =
        judged-known (Ok log) plan
        ∙ ap (λ b. cond b (judged_plan s client log plan) (No ClientWrong)) (ne_eqb log.client client.number (λ same. other (same ∙ row_has_number s.clients number client row)))

    judged-own : (log : Log) (plan : Result Plan SpellingFault) → log.client ≡ number → judged s number (Ok log) plan ≡ judged_plan s client log plan
    judged-own log plan own =
        judged-known (Ok log) plan
        ∙ ap (λ b. cond b (judged_plan s client log plan) (No ClientWrong)) (eq-eqb log.client client.number (own ∙ sym (row_has_number s.clients number client row)))

    module _ (log : Log) (plan : Plan) (own : log.client ≡ number) where
      judged-entry : (fault : EntryFault) → run over_bytes client (client_sight_of s client.number) s.tree log.entries ≡ Err fault → judged s number (Ok log) (Ok plan) ≡ No (AtEntry fault)
      judged-entry fault ran = judged-own log (Ok plan) own ∙ ap (λ r. judged_run s plan r (run over_marks client (client_sight_of s client.number) (marked s.tree) log.entries)) ran

      judged-ran : (after : Tree ℕ) (marked_after : Tree Mark) → run over_bytes client (client_sight_of s client.number) s.tree log.entries ≡ Ok after → run over_marks client (client_sight_of s client.number) (marked s.tree) log.entries ≡ Ok marked_after → judged s number (Ok log) (Ok plan) ≡ judged_rows s plan after marked_after
      judged-ran after marked_after ran ran_marked = judged-own log (Ok plan) own ∙ λ i. judged_run s plan (ran i) (ran_marked i)

      judged-row : (after : Tree ℕ) (marked_after : Tree Mark) (first : Option RowFault) → run over_bytes client (client_sight_of s client.number) s.tree log.entries ≡ Ok after → run over_marks client (client_sight_of s client.number) (marked s.tree) log.entries ≡ Ok marked_after → first_wrong_row s.tree marked_after plan ≡ first
          → judged s number (Ok log) (Ok plan) ≡ elim first as (λ _. Verdict) [ None ↦ Yes after marked_after | Some fault ↦ No (AtRow fault) ]
      judged-row after marked_after first ran ran_marked wrong = judged-ran after marked_after ran ran_marked ∙ ap (λ o. elim o as (λ _. Verdict) [ None ↦ Yes after marked_after | Some fault ↦ No (AtRow fault) ]) wrong

-- ---- outcomes of the code

-- what the client of a row sees
same_sight : (s : State) (number : ℕ) (client : Client) → row_of s.clients number ≡ Some client → client_sight_of s number ≡ client_sight_of s client.number
same_sight s number client row = ap (client_sight_of s) (sym (row_has_number s.clients number client row))

module _ (A : Type 0) (s : State) (submission : Submission) where
  -- a verdict on what the bytes are, in which a fault of the code is refused
  refused : (fault : CodeFault) (refusal : Fault) (log : Result Log SpellingFault) (plan : Result Plan SpellingFault)
      → LogAnswer submission.log log → PlanAnswer submission.plan plan
      → judged s submission.client log plan ≡ No refusal → refusal_of fault ≡ Some refusal → IsVerdict {A = A} s submission (outcomes.No fault)
  refused fault refusal log plan log_read plan_read is shown = record {
    verdict = No refusal;
    judgement = record { reading = record { log = log; plan = plan }; read = record { log = log_read; plan = plan_read }; judgement = sym is };
    told = shown;
  }

  pub unknown_client : IsBytes submission.log → IsBytes submission.plan → row_of s.clients submission.client ≡ None → IsVerdict {A = A} s submission (outcomes.No faults.UnknownClient)
  unknown_client log_bytes plan_bytes row =
      let log = log_has_answer submission.log log_bytes in
      let plan = plan_has_answer submission.plan plan_bytes in
      refused faults.UnknownClient ClientUnknown log.0 plan.0 log.1 plan.1 (judged-unknown s submission.client log.0 plan.0 row) refl

  module _ (client : Client) (row : row_of s.clients submission.client ≡ Some client) where
    pub bad_log : IsBytes submission.plan → (fault : SpellFault) → fault ≢ spelling.OutOfMemory → OnRefusal (LogAnswer submission.log) fault → IsVerdict {A = A} s submission (outcomes.No (faults.BadLog fault))
    bad_log plan_bytes fault memory answer = by fault memory answer
      where
        at : (fault : SpellFault) (shown : SpellingFault) → LogAnswer submission.log (Err shown) → refusal_of (faults.BadLog fault) ≡ Some (BadLog shown) → IsVerdict {A = A} s submission (outcomes.No (faults.BadLog fault))
        at fault shown is same =
            let plan = plan_has_answer submission.plan plan_bytes in
            refused (faults.BadLog fault) (BadLog shown) (Err shown) plan.0 is plan.1 (judged-bad_log s submission.client client row shown plan.0) same

        by : (fault : SpellFault) → fault ≢ spelling.OutOfMemory → OnRefusal (LogAnswer submission.log) fault → IsVerdict {A = A} s submission (outcomes.No (faults.BadLog fault))
        by spelling.BadHeader memory is = at spelling.BadHeader BadHeader is refl
        by (spelling.BadEntry k) memory is = at (spelling.BadEntry k) (BadEntry k) is refl
        by spelling.Trailing memory is = at spelling.Trailing Trailing is refl
        by (spelling.BadRow part k) memory is = at (spelling.BadRow part k) (BadRow part k) is refl
        by spelling.OutOfMemory memory is = absurd (memory refl)

    module _ (log : CodeLog A (List ℕ)) (log_read : LogAnswer submission.log (Ok (log_of submission.log log))) where
      pub wrong_client : IsBytes submission.plan → log.client ≢ submission.client → IsVerdict {A = A} s submission (outcomes.No faults.WrongClient)
      wrong_client plan_bytes other =
          let plan = plan_has_answer submission.plan plan_bytes in
          refused faults.WrongClient ClientWrong (Ok (log_of submission.log log)) plan.0 log_read plan.1 (judged-wrong s submission.client client row (log_of submission.log log) plan.0 other) refl

      pub bad_plan : log.client ≡ submission.client → (fault : SpellFault) → fault ≢ spelling.OutOfMemory → OnRefusal (PlanAnswer submission.plan) fault → IsVerdict {A = A} s submission (outcomes.No (faults.BadPlan fault))
      bad_plan own fault memory answer = by fault memory answer
        where
          at : (fault : SpellFault) (shown : SpellingFault) → PlanAnswer submission.plan (Err shown) → refusal_of (faults.BadPlan fault) ≡ Some (BadPlan shown) → IsVerdict {A = A} s submission (outcomes.No (faults.BadPlan fault))
          at fault shown is same = refused (faults.BadPlan fault) (BadPlan shown) (Ok (log_of submission.log log)) (Err shown) log_read is (judged-own s submission.client client row (log_of submission.log log) (Err shown) own) same

          by : (fault : SpellFault) → fault ≢ spelling.OutOfMemory → OnRefusal (PlanAnswer submission.plan) fault → IsVerdict {A = A} s submission (outcomes.No (faults.BadPlan fault))
          by spelling.BadHeader memory is = at spelling.BadHeader BadHeader is refl
          by (spelling.BadEntry k) memory is = at (spelling.BadEntry k) (BadEntry k) is refl
          by spelling.Trailing memory is = at spelling.Trailing Trailing is refl
          by (spelling.BadRow part k) memory is = at (spelling.BadRow part k) (BadRow part k) is refl
          by spelling.OutOfMemory memory is = absurd (memory refl)

    -- ---- a log and a plan that were read

    sights : client_sight_of s submission.client ≡ client_sight_of s client.number
    sights = same_sight s submission.client client row

    module _ (log : CodeLog A (List ℕ)) (plan : CodePlan A (List ℕ)) (spelled : AreSpelled submission log plan) where
      abbrev the_log : Log
      the_log = log_of submission.log log

      bad_entry : (sizes : List FileSize) (fault : CodeEntryFault) → ComesToTree {A = A} client (holds s.leases submission.client) s.tree the_log.entries (Err fault) sizes → IsVerdict {A = A} s submission (outcomes.No (faults.Entry fault))
      bad_entry sizes fault comes =
          refused (faults.Entry fault) (AtEntry (fault_of fault)) (Ok the_log) (Ok (plan_of plan)) spelled.log_read spelled.plan_read
          (judged-entry s submission.client client row the_log (plan_of plan) spelled.owner (fault_of fault) (ap (λ before. run over_bytes client before s.tree the_log.entries) (sym sights) ∙ comes)) refl

      module _ (sizes : List FileSize) (net : Net A (List ℕ)) (comes : ComesToTree client (holds s.leases submission.client) s.tree the_log.entries (Ok net) sizes) where
        ran : run over_bytes client (client_sight_of s client.number) s.tree the_log.entries ≡ Ok comes.0
        ran = ap (λ before. run over_bytes client before s.tree the_log.entries) (sym sights) ∙ comes.1

        -- the marks at the end of the run, and what is told of them
        abbrev Told : Result ℕ CodeRowFault → Type 0
        Told result = (after : Tree Mark) × (run over_marks client (client_sight_of s submission.client) (marked s.tree) the_log.entries ≡ Ok after) × TellsRow (first_wrong_row s.tree after (plan_of plan)) (need after) result

        told_of : (result : Result ℕ CodeRowFault) → TellsOfEachRun sizes log net plan result → Told result
        told_of result all =
            told_at_end client (holds s.leases submission.client) s.tree the_log.entries sizes net comes plan result (all submission.log spelled.within client (client_sight_of s submission.client) s.tree refl)

        ran_marked : (after : Tree Mark) → run over_marks client (client_sight_of s submission.client) (marked s.tree) the_log.entries ≡ Ok after → run over_marks client (client_sight_of s client.number) (marked s.tree) the_log.entries ≡ Ok after
        ran_marked after is = ap (λ before. run over_marks client before (marked s.tree) the_log.entries) (sym sights) ∙ is

        named_row : (fault : CodeRowFault) (wrong : RowFault) → row_fault_of fault ≡ Some wrong → (after : Tree Mark) → run over_marks client (client_sight_of s client.number) (marked s.tree) the_log.entries ≡ Ok after
            → first_wrong_row s.tree after (plan_of plan) ≡ Some wrong → IsVerdict {A = A} s submission (outcomes.No (faults.Row fault))
        named_row fault wrong shown after marks is =
            refused (faults.Row fault) (AtRow wrong) (Ok the_log) (Ok (plan_of plan)) spelled.log_read spelled.plan_read
            (judged-row s submission.client client row the_log (plan_of plan) spelled.owner comes.0 after (Some wrong) ran marks is)
            (ap (option_map AtRow) shown)

        bad_row : (fault : CodeRowFault) → fault ≢ rows.OutOfMemory → Told (Err fault) → IsVerdict {A = A} s submission (outcomes.No (faults.Row fault))
        bad_row (rows.Names index) memory told = named_row (rows.Names index) (Names index) refl told.0 (ran_marked told.0 told.1) told.2
        bad_row (rows.Nodes index) memory told = named_row (rows.Nodes index) (Nodes index) refl told.0 (ran_marked told.0 told.1) told.2
        bad_row (rows.Pieces index) memory told = named_row (rows.Pieces index) (Pieces index) refl told.0 (ran_marked told.0 told.1) told.2
        bad_row rows.OutOfMemory memory told = absurd (memory refl)

        right : (need_told : ℕ) → Told (Ok need_told) → IsVerdict s submission (outcomes.Yes log plan net need_told)
        right need_told told =
            let marks = ran_marked told.0 told.1 in
            record {
              verdict = Yes comes.0 told.0;
              judgement = record {
                reading = record { log = Ok the_log; plan = Ok (plan_of plan) };
                read = record { log = spelled.log_read; plan = spelled.plan_read };
                judgement = sym (judged-row s submission.client client row the_log (plan_of plan) spelled.owner comes.0 told.0 None ran marks told.2.0);
              };
              told = record {
                spelled = spelled;
                client = client;
                row = row;
                comes = record {
                  ran = ran;
                  sound = comes.2;
                  allowed = subst (λ before. OneByOne client before 0 [] s.tree the_log.entries comes.0) sights comes.3;
                  differs = comes.4;
                  ran_marked = marks;
                };
                right = right_from_none s.tree told.0 (plan_of plan) told.2.0;
                need_told = told.2.1;
              };
            }

      pub settled : (sizes : List FileSize) (walked : Result (Net A (List ℕ)) CodeEntryFault) (outcome : Outcome A (List ℕ)) → ComesToTree client (holds s.leases submission.client) s.tree the_log.entries walked sizes → OutcomeIsSettled log plan sizes walked outcome → IsVerdict s submission outcome
      settled sizes (Err fault) (outcomes.No refusal) comes is = subst (λ (f : CodeFault). IsVerdict {A = A} s submission (outcomes.No f)) (sym is) (bad_entry sizes fault comes)
      settled sizes (Err fault) (outcomes.Yes l p n told) comes is = absurd is
      settled sizes (Ok net) (outcomes.No (faults.Row fault)) comes is = bad_row sizes net comes fault is.0 (told_of sizes net comes (Err fault) is.1)
      settled sizes (Ok net) (outcomes.No faults.UnknownClient) comes is = absurd is
      settled sizes (Ok net) (outcomes.No (faults.BadLog fault)) comes is = absurd is
      settled sizes (Ok net) (outcomes.No faults.WrongClient) comes is = absurd is
      settled sizes (Ok net) (outcomes.No (faults.BadPlan fault)) comes is = absurd is
      settled sizes (Ok net) (outcomes.No (faults.Entry fault)) comes is = absurd is
      settled sizes (Ok net) (outcomes.Yes l p n told) comes is =
          let same : outcomes.Yes log plan net told ≡ outcomes.Yes l p n told = λ i. outcomes.Yes (sym is.0 i) (sym is.1 i) (sym is.2 i) told in
          subst (λ (o : Outcome A (List ℕ)). IsVerdict s submission o) same (right sizes net comes told (told_of sizes net comes (Ok told) is.3))

-- a finding on a log that was walked
pub walked_verdict : (A : Type 0) (s : State) (submission : Submission) (client : Client) (found : Option Client) (log : CodeLog A (List ℕ)) (plan : CodePlan A (List ℕ)) (walk : Walk A (List ℕ)) (reads : List (Read × ReadAnswer)) (outcome : Outcome A (List ℕ))
    → AreSpelled submission log plan → IsClient client → found ≡ Some client → reads ≡ walk.reads.entries → IsWalkOf client log walk → OutcomeIsSettled log plan walk.sizes.items walk.outcome outcome
    → AgreesWithReads s submission.client found reads → IsVerdict s submission outcome
walked_verdict A s submission client found log plan walk reads outcome spelled in_range is same_reads walks is_settled alike =
    let agrees = subst (λ es. Agrees es (client_sight_of s submission.client)) same_reads alike.agrees in
    let fits : Fits client s.tree (log_of submission.log log).entries = record { in_range = in_range; sound = alike.sound; version = log.version; fitting = spelled.log_read.0.1 } in
    settled A s submission client (alike.row ∙ is) log plan spelled walk.sizes.items walk.outcome outcome (walks submission.log spelled.within s.tree (holds s.leases submission.client) fits agrees) is_settled

-- any state agrees with no reads
pub nothing_read : {A : Type 0} (view : View A) (number : ℕ) (reads : List (Read × ReadAnswer)) → reads ≡ [] → Agrees reads (client_sight_in view number)
nothing_read view number reads none = subst (λ es. Agrees es (client_sight_in view number)) (sym none) (record { each = tt })

-- ---- what was read

module _ {A : Type 0} (view : View A) (submission : Submission) where
  pub unread_looked : (fault : CodeFault) (outcome : Outcome A (List ℕ)) (reads : List (Read × ReadAnswer)) → is_before_entries fault ≡ true → outcome ≡ outcomes.No fault → reads ≡ [] → AreLooked view submission outcome reads
  unread_looked fault outcome reads early is none = record {
    unread = λ stops. none;
    looked = λ goes. let stops : stops_before outcome ≡ true = ap stops_before is ∙ early in let never : true ≡ false = sym stops ∙ goes in absurd cc;
  }

  of_log : (outcome : Outcome A (List ℕ)) (reads : List (Read × ReadAnswer)) → stops_before outcome ≡ false → AreOfLog view submission reads → AreLooked view submission outcome reads
  of_log outcome reads goes of = record {
    unread = λ stops. let never : true ≡ false = sym stops ∙ goes in absurd cc;
    looked = λ _. of;
  }

  pub settled_looked : (log : CodeLog A (List ℕ)) (plan : CodePlan A (List ℕ)) (sizes : List FileSize) (walked : Result (Net A (List ℕ)) CodeEntryFault) (outcome : Outcome A (List ℕ)) (reads : List (Read × ReadAnswer)) → OutcomeIsSettled log plan sizes walked outcome → AreOfLog view submission reads → AreLooked view submission outcome reads
  settled_looked log plan sizes (Err fault) (outcomes.No refusal) reads is of = of_log (outcomes.No refusal) reads (ap is_before_entries is) of
  settled_looked log plan sizes (Err fault) (outcomes.Yes l p n told) reads is of = absurd is
  settled_looked log plan sizes (Ok net) (outcomes.No (faults.Row fault)) reads is of = of_log (outcomes.No (faults.Row fault)) reads refl of
  settled_looked log plan sizes (Ok net) (outcomes.No faults.UnknownClient) reads is of = absurd is
  settled_looked log plan sizes (Ok net) (outcomes.No (faults.BadLog fault)) reads is of = absurd is
  settled_looked log plan sizes (Ok net) (outcomes.No faults.WrongClient) reads is of = absurd is
  settled_looked log plan sizes (Ok net) (outcomes.No (faults.BadPlan fault)) reads is of = absurd is
  settled_looked log plan sizes (Ok net) (outcomes.No (faults.Entry fault)) reads is of = absurd is
  settled_looked log plan sizes (Ok net) (outcomes.Yes l p n told) reads is of = of_log (outcomes.Yes l p n told) reads refl of

-- ---- a refusal names a fault of the submission

mapped_is_some : {X Y : Type 0} (f : X → Y) (o : Option X) → IsSome o → IsSome (option_map f o)
mapped_is_some f (Some x) is = refl
mapped_is_some f None is = is

-- bytes without a value have a fault, where memory wasn't refused
spelling_is_some : (fault : SpellFault) → fault ≢ spelling.OutOfMemory → IsSome (spelling_fault_of fault)
spelling_is_some spelling.BadHeader memory = refl
spelling_is_some (spelling.BadEntry k) memory = refl
spelling_is_some spelling.Trailing memory = refl
spelling_is_some (spelling.BadRow part k) memory = refl
spelling_is_some spelling.OutOfMemory memory = absurd (memory refl)

pub bad_log_is_fault : (fault : SpellFault) → fault ≢ spelling.OutOfMemory → IsSome (refusal_of (faults.BadLog fault))
bad_log_is_fault fault memory = mapped_is_some BadLog (spelling_fault_of fault) (spelling_is_some fault memory)

pub bad_plan_is_fault : (fault : SpellFault) → fault ≢ spelling.OutOfMemory → IsSome (refusal_of (faults.BadPlan fault))
bad_plan_is_fault fault memory = mapped_is_some BadPlan (spelling_fault_of fault) (spelling_is_some fault memory)

row_is_fault : (fault : CodeRowFault) → fault ≢ rows.OutOfMemory → IsSome (refusal_of (faults.Row fault))
row_is_fault (rows.Names index) memory = refl
row_is_fault (rows.Nodes index) memory = refl
row_is_fault (rows.Pieces index) memory = refl
row_is_fault rows.OutOfMemory memory = absurd (memory refl)

pub settled_is_fault : {A : Type 0} (log : CodeLog A (List ℕ)) (plan : CodePlan A (List ℕ)) (sizes : List FileSize) (walked : Result (Net A (List ℕ)) CodeEntryFault) (outcome : Outcome A (List ℕ)) → OutcomeIsSettled log plan sizes walked outcome → RefusesByFault outcome
settled_is_fault log plan sizes (Err fault) (outcomes.No refusal) is = subst (λ f. IsSome (refusal_of f)) (sym is) refl
settled_is_fault log plan sizes (Ok net) (outcomes.No (faults.Row fault)) is = row_is_fault fault is.0
settled_is_fault log plan sizes (Ok net) (outcomes.No faults.UnknownClient) is = absurd is
settled_is_fault log plan sizes (Ok net) (outcomes.No (faults.BadLog fault)) is = absurd is
settled_is_fault log plan sizes (Ok net) (outcomes.No faults.WrongClient) is = absurd is
settled_is_fault log plan sizes (Ok net) (outcomes.No (faults.BadPlan fault)) is = absurd is
settled_is_fault log plan sizes (Ok net) (outcomes.No (faults.Entry fault)) is = absurd is
settled_is_fault log plan sizes (Err fault) (outcomes.Yes l p n told) is = tt
settled_is_fault log plan sizes (Ok net) (outcomes.Yes l p n told) is = tt
