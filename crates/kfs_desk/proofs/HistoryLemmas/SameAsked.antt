-- What was handed in decides the calls, where each row is read as its bytes say.
use Rattle.std.proofs.Common.{◌≡◌, List, [], ◌∷◌, refl, sym, ap, subst, ◌∙◌}
use Rattle.std.specs.List.{AllByRecursion}
use Rattle.kfs_model.specs.Judgement.{State, Submission, Reading, IsReadAs}
use Rattle.kfs_model.specs.Machine.{Call, Submit, Lease, Drop, Tick, Migrate, LeaseAt, IsRead, Row}
use Rattle.kfs_model.specs.Spelling.{IsBytes}
use Rattle.kfs_model.proofs.OneLogAnswer.{one_log_answer}
use Rattle.kfs_model.proofs.OnePlanAnswer.{one_plan_answer}
use Rattle.kfs_desk.specs.History.Runs.{AreBytes, LeadsLeast, answers_of, asked, asked_of, calls_of}
use Rattle.kfs_desk.proofs.HistoryLemmas.Runs.{same_calls}

-- a row with this call
abbrev with_call : Row → Call → Row
with_call row call = record row { call = call }

one_reading : (submission : Submission) (a b : Reading) → IsBytes submission.log → IsBytes submission.plan → IsReadAs submission a → IsReadAs submission b → a ≡ b
one_reading submission a b log plan is this =
    let logs = one_log_answer submission.log log a.log b.log is.log this.log in
    let plans = one_plan_answer submission.plan plan a.plan b.plan is.plan this.plan in
    λ i. record { log = logs i; plan = plans i }

same_call : (row : Row) (a b : Call) → AreBytes (asked a) → IsRead (with_call row a) → IsRead (with_call row b) → asked a ≡ asked b → a ≡ b
same_call row (Submit x a) (Submit y b) bytes is this alike =
    let same : x ≡ y = cc in
    let this_too : IsReadAs x b = subst (λ z. IsReadAs z b) (sym same) this in
    ap (Submit x) (one_reading x a b bytes.0 bytes.1 is this_too) ∙ ap (λ z. Submit z b) same
same_call row (Submit x a) (Lease client path kind end) bytes is this alike = cc
same_call row (Submit x a) (Drop client number) bytes is this alike = cc
same_call row (Submit x a) (Tick moment) bytes is this alike = cc
same_call row (Submit x a) (Migrate moves) bytes is this alike = cc
same_call row (Submit x a) (LeaseAt client number kind end) bytes is this alike = cc
same_call row (Lease client path kind end) (Submit y b) bytes is this alike = cc
same_call row (Lease client path kind end) (Lease c p k e) bytes is this alike = cc
same_call row (Lease client path kind end) (Drop c n) bytes is this alike = cc
same_call row (Lease client path kind end) (Tick m) bytes is this alike = cc
same_call row (Lease client path kind end) (Migrate m) bytes is this alike = cc
same_call row (Lease client path kind end) (LeaseAt c n k e) bytes is this alike = cc
same_call row (Drop client number) (Submit y b) bytes is this alike = cc
same_call row (Drop client number) (Lease c p k e) bytes is this alike = cc
same_call row (Drop client number) (Drop c n) bytes is this alike = cc
same_call row (Drop client number) (Tick m) bytes is this alike = cc
same_call row (Drop client number) (Migrate m) bytes is this alike = cc
same_call row (Drop client number) (LeaseAt c n k e) bytes is this alike = cc
same_call row (Tick moment) (Submit y b) bytes is this alike = cc
same_call row (Tick moment) (Lease c p k e) bytes is this alike = cc
same_call row (Tick moment) (Drop c n) bytes is this alike = cc
same_call row (Tick moment) (Tick m) bytes is this alike = cc
same_call row (Tick moment) (Migrate m) bytes is this alike = cc
same_call row (Tick moment) (LeaseAt c n k e) bytes is this alike = cc
same_call row (Migrate moves) (Submit y b) bytes is this alike = cc
same_call row (Migrate moves) (Lease c p k e) bytes is this alike = cc
same_call row (Migrate moves) (Drop c n) bytes is this alike = cc
same_call row (Migrate moves) (Tick m) bytes is this alike = cc
same_call row (Migrate moves) (Migrate m) bytes is this alike = cc
same_call row (Migrate moves) (LeaseAt c n k e) bytes is this alike = cc
same_call row (LeaseAt client number kind end) (Submit y b) bytes is this alike = cc
same_call row (LeaseAt client number kind end) (Lease c p k e) bytes is this alike = cc
same_call row (LeaseAt client number kind end) (Drop c n) bytes is this alike = cc
same_call row (LeaseAt client number kind end) (Tick m) bytes is this alike = cc
same_call row (LeaseAt client number kind end) (Migrate m) bytes is this alike = cc
same_call row (LeaseAt client number kind end) (LeaseAt c n k e) bytes is this alike = cc

asked_calls : (one other : List Row) → AllByRecursion IsRead one → AllByRecursion IsRead other → AllByRecursion AreBytes (asked_of one) → asked_of one ≡ asked_of other → calls_of one ≡ calls_of other
asked_calls [] [] is this bytes alike = refl
asked_calls [] (row ∷ rows) is this bytes alike = cc
asked_calls (row ∷ rows) [] is this bytes alike = cc
asked_calls (a ∷ one) (b ∷ other) is this bytes alike =
    let first : asked a.call ≡ asked b.call = cc in
    let rest : asked_of one ≡ asked_of other = cc in
    let call = same_call a a.call b.call bytes.0 is.0 this.0 first in
    let calls = asked_calls one other is.1 this.1 bytes.1 rest in
    λ i. call i ∷ calls i

pub same_asked : (s t u : State) (one other : List Row) → AllByRecursion IsRead one → AllByRecursion IsRead other → AllByRecursion AreBytes (asked_of one)
    → LeadsLeast s one t → LeadsLeast s other u → asked_of one ≡ asked_of other → (answers_of one ≡ answers_of other) × (t ≡ u)
same_asked s t u one other is this bytes first second alike = same_calls s t u one other first second (asked_calls one other is this bytes alike)
