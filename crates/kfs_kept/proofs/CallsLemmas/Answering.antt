-- A call that is answered leads on, and its answer is that of the machine.
use Rattle.std.proofs.Common.{◌≡◌, ℕ, ◌≤◌, Bool, false, true, List, [], ◌∷◌, ◌++◌, length, drop, arith, length-append, Option, Some, Result, Ok, Err, refl, sym, ap, subst, ◌∙◌}
use Rattle.std.specs.Prelude.{IfSome, IfOk}
use Rattle.kfs_model.specs.Judgement.{State, Submission, Reading, IsReadAs}
use Rattle.kfs_model.specs.Machine as machine
use Rattle.kfs_model.specs.Machine.{CallAnswer, Replied}
use Rattle.kfs_model.specs.Machine.{CallFault as Refusal}
use Rattle.kfs_model.specs.Spelling.{number32, number64}
use Rattle.kfs_plan.specs.Judging.{submission_with}
use Rattle.kfs_desk.specs.History.Runs.{made}
use Rattle.kfs_desk.specs.Machine as desks
use Rattle.kfs_desk.specs.Machine.{Desk, IsActed, IsAnswered, row_answer, call_fault_of, reply_of}
use Rattle.kfs_desk.specs.declared.history.answers.ActFault.{ActFault}
use Rattle.kfs_desk.specs.declared.history.answers.Done.{Done}
use Rattle.kfs_desk.specs.declared.history.answers.Done.TheVariants as dones
use Rattle.kfs_desk.proofs.HistoryLemmas.Runs.{row_made}
use Rattle.kfs_call.specs.AnswerRow.{FaultRow, Told, Yes, No, NoRoom, Leased, Dropped, Moved, Ticked, LeaseRefused, MovesRefused, fault_bytes, flag_bytes, told_fields}
use Rattle.kfs_call.specs.Call.{Call, Submit, Lease, Drop, Tick, Migrate, LeaseAt, IsCall, IsLong, call_bytes}
use Rattle.kfs_call.specs.Layout.{joined}
use Rattle.kfs_call_desk.specs.Calls.{IsActing, IsCalled, IsMade, IsSubmitting}
use Rattle.kfs_call_desk.specs.declared.made.Called.{Called}
use Rattle.kfs_call_desk.specs.declared.made.Called.TheVariants.{Submitted, Acted}
use Rattle.kfs_call_desk.specs.declared.made.CallFault.{CallFault}
use Rattle.kfs_kept.specs.Calls.Group.{IsBrief, kept_bytes}
use Rattle.kfs_kept.specs.Calls.Leads.{Asks, Leads}
use Rattle.kfs_kept.specs.Calls.Making.{IsAppended, IsNext, IsToldIn}
use Rattle.kfs_call_desk.specs.Told.{IsActTold, IsTold, done_shown, done_told, refusal_told, reply_told, told_of}

-- what holds of what is there
known : {X : Type 0} (o : Option X) (x : X) (P : X → Type 0) → o ≡ Some x → IfSome o P → P x
known {X} o x P is holds = subst (λ (y : Option X). IfSome y P) is holds

-- the machine makes the call, with this answer, and comes to this state
record Comes (s : State) (asked : machine.Call) (told : Told) (t : State) : Type 0 where
  answered : told ≡ told_of asked (made s asked).0
  state : (made s asked).1 ≡ t

-- what is asked by a submission, and what it comes to
record IsSubmitted (s : State) (submission : Submission) (told : Told) (t : State) : Type 0 where
  reading : Reading
  read : IsReadAs submission reading
  comes : Comes s (machine.Submit submission reading) told t

submitted : (old new : Desk) (submission : Submission) (called : Called) (told : Told) → IsSubmitting old submission called new → IsTold called told → IsSubmitted old.state submission told new.state
submitted old new submission (Acted reply) told is says = absurd is
submitted old new submission (Submitted reply) told is says =
    let step = is.step in
    let made_so = row_made old.state new.state is.row step.least step.fits in
    let told_so : told ≡ reply_told step.reply = known (reply_of reply) step.reply (λ r. told ≡ reply_told r) step.said (says is.judged) in
    let answer_so : (made old.state is.row.call).0 ≡ Replied step.reply = made_so.0 ∙ step.answered in
    record {
      reading = step.reading;
      read = step.read;
      comes = subst (λ (c : machine.Call). Comes old.state c told new.state) step.asked
          (record { answered = told_so ∙ ap (λ (a : CallAnswer). told_of is.row.call a) (sym answer_so); state = made_so.1 });
    }

-- the answer says what was done, or the refusal
acted_told : (call : machine.Call) (words : ℕ → Done) → ((n : ℕ) → done_shown (words n) ≡ done_told call n) → (answer : Result Done ActFault) (outcome : Result ℕ Refusal) (told : Told)
    → desks.IsTold words answer outcome → IsActTold answer told → told ≡ told_of call (row_answer outcome)
acted_told call words alike (Ok done) (Ok number) told said is = is ∙ ap done_shown said ∙ alike number
acted_told call words alike (Ok done) (Err refusal) told said is = absurd said
acted_told call words alike (Err fault) (Ok number) told said is = absurd said
acted_told call words alike (Err fault) (Err refusal) told said is = known (call_fault_of fault) refusal (λ r. told ≡ refusal_told r) said is

acted : (old new : Desk) (call : machine.Call) (words : ℕ → Done) → ((n : ℕ) → done_shown (words n) ≡ done_told call n) → (called : Called) (told : Told)
    → IsActing old call words called new → IsTold called told → Comes old.state call told new.state
acted old new call words alike (Submitted reply) told is says = absurd is
acted old new call words alike (Acted reply) told is says =
    let step = is.step in
    let made_so = row_made old.state new.state is.row step.least step.fits in
    let told_so = acted_told call words alike reply.answer step.outcome told step.said says in
    let answer_so : (made old.state is.row.call).0 ≡ row_answer step.outcome = made_so.0 ∙ step.answered in
    subst (λ (c : machine.Call). Comes old.state c told new.state) step.asked
    (record { answered = told_so ∙ ap (λ (c : machine.Call). told_of c (row_answer step.outcome)) (sym step.asked) ∙ ap (λ (a : CallAnswer). told_of is.row.call a) (sym answer_so); state = made_so.1 })

made_leads : (s t : State) (bytes answer : List ℕ) (call : Call) (asked : machine.Call) (told : Told) → IsCall call → bytes ≡ call_bytes call → Asks call asked → answer ≡ joined (told_fields told) → Comes s asked told t
    → Leads s (record { call = bytes; answer = answer }) t
made_leads s t bytes answer call asked told fits spelled asks is comes = record {
  call = call;
  fits = fits;
  spelled = spelled;
  asked = asked;
  asks = asks;
  answered = is ∙ ap (λ (x : Told). joined (told_fields x)) comes.answered;
  state = comes.state;
}

-- the bytes of a call that is answered, with the answer's bytes, lead on
pub answer_leads : (old new : Desk) (bytes answer : List ℕ) (called : Called) → IsCalled bytes old called new → IsToldIn called answer → Leads old.state (record { call = bytes; answer = answer }) new.state
answer_leads old new bytes answer called is (told, says, spelled) = by is.call is.fits is.spelled is.made
  where
    by : (call : Call) → IsCall call → bytes ≡ call_bytes call → IsMade call old called new → Leads old.state (record { call = bytes; answer = answer }) new.state
    by (Submit client log plan) fits are made_so =
        let done = submitted old new (submission_with client log plan) called told made_so says in
        made_leads old.state new.state bytes answer (Submit client log plan) (machine.Submit (submission_with client log plan) done.reading) told fits are (done.reading, done.read, refl) spelled done.comes
    by (Lease client kind end path) fits are made_so =
        let call = machine.Lease client path kind end in
        made_leads old.state new.state bytes answer (Lease client kind end path) call told fits are refl spelled (acted old new call dones.Leased (λ n. refl) called told made_so says)
    by (LeaseAt client kind end number) fits are made_so =
        let call = machine.LeaseAt client number kind end in
        made_leads old.state new.state bytes answer (LeaseAt client kind end number) call told fits are refl spelled (acted old new call dones.Leased (λ n. refl) called told made_so says)
    by (Drop client number) fits are made_so =
        let call = machine.Drop client number in
        made_leads old.state new.state bytes answer (Drop client number) call told fits are refl spelled (acted old new call dones.Dropped (λ n. refl) called told made_so says)
    by (Tick moment) fits are made_so =
        let call = machine.Tick moment in
        made_leads old.state new.state bytes answer (Tick moment) call told fits are refl spelled (acted old new call dones.Ticked (λ n. refl) called told made_so says)
    by (Migrate moves) fits are made_so =
        let call = machine.Migrate moves in
        made_leads old.state new.state bytes answer (Migrate moves) call told fits are refl spelled (acted old new call dones.Moved (λ n. refl) called told made_so says)

-- ---- the bytes of an answer

pub position_long : (position : ℕ) (bytes : List ℕ) → 4 ≤ length (number32 position ++ bytes)
unfolding number32
position_long position bytes = omega arith

pub behind_position : (position : ℕ) (bytes : List ℕ) → drop 4 (number32 position ++ bytes) ≡ bytes
unfolding number32
behind_position position bytes = refl

flag_short : (flag : Bool) → length (flag_bytes flag) ≡ 1
flag_short false = refl
flag_short true = refl

fault_short : (fault : FaultRow) → length (fault_bytes fault) ≡ 14
unfolding number32 number64
fault_short fault = refl

-- an answer without its position has at most 14 bytes and two before
pub told_short : (told : Told) → IsBrief (joined (told_fields told))
unfolding number32 number64
told_short (Yes rejudged need) = let one = flag_short rejudged in omega (arith, one, length-append (flag_bytes rejudged) (number64 need ++ []))
told_short (No rejudged fault) = let one = flag_short rejudged in let many = fault_short fault in omega (arith, one, many, length-append (flag_bytes rejudged) (fault_bytes fault ++ []), length-append (fault_bytes fault) [])
told_short (NoRoom rejudged need free) = let one = flag_short rejudged in omega (arith, one, length-append (flag_bytes rejudged) (number64 need ++ (number32 free ++ [])))
told_short (Leased number) = omega arith
told_short (Dropped number) = omega arith
told_short (Moved number) = omega arith
told_short (Ticked number) = omega arith
told_short (LeaseRefused fault) = let many = fault_short fault in omega (arith, many, length-append (fault_bytes fault) [])
told_short (MovesRefused fault) = let many = fault_short fault in omega (arith, many, length-append (fault_bytes fault) [])

-- the bytes of an answer, from the fifth on
pub row_told : (position : ℕ) (told : Told) (bytes : List ℕ) → bytes ≡ joined (number32 position ∷ told_fields told) → (4 ≤ length bytes) × (drop 4 bytes ≡ joined (told_fields told))
row_told position told bytes is =
    (subst (λ (l : List ℕ). 4 ≤ length l) (sym is) (position_long position (joined (told_fields told))), ap (λ (l : List ℕ). drop 4 l) is ∙ behind_position position (joined (told_fields told)))

-- ---- a call that was made stands in the group

pub next_made : (old new : Desk) (bytes before after answer : List ℕ) (result : Result Called CallFault) (called : Called) → result ≡ Ok called → IfOk result (λ x. IsCalled bytes old x new) → IsToldIn called answer
    → IsLong bytes → IsBrief answer → after ≡ before ++ kept_bytes (record { call = bytes; answer = answer }) → IsNext old bytes result before after new
next_made old new bytes before after answer result called is made told long short parts =
    let called_so : IsCalled bytes old called new = subst (λ (r : Result Called CallFault). IfOk r (λ x. IsCalled bytes old x new)) is made in
    let appended : IsAppended old.state bytes before after new.state = record { kept = record { call = bytes; answer = answer }; fits = (long, short); is = refl; parts = parts; leads = answer_leads old new bytes answer called called_so told } in
    let next : IsNext old bytes (Ok called) before after new = (called_so, appended) in
    subst (λ (r : Result Called CallFault). IsNext old bytes r before after new) (sym is) next
