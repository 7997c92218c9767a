-- A call, and a group, lead to one state with the same answers.
use Rattle.std.proofs.Common.{◌≡◌, ℕ, zero, suc, length, List, [], ◌∷◌, ◌++◌, map, Option, Some, None, refl, sym, ap, subst, ◌∙◌, arith}
use Rattle.kfs_model.specs.Judgement.{State, Submission, Reading, IsReadAs}
use Rattle.kfs_model.specs.Machine as machine
use Rattle.kfs_model.specs.Spelling.{IsBytes, byte, number32}
use Rattle.kfs_model.proofs.RowsRead.{IsBytes-behind}
use Rattle.kfs_model.proofs.OneLogAnswer.{one_log_answer}
use Rattle.kfs_model.proofs.OnePlanAnswer.{one_plan_answer}
use Rattle.kfs_plan.specs.Judging.{submission_with}
use Rattle.kfs_desk.specs.History.Runs.{made}
use Rattle.kfs_desk.specs.Machine.{Desk}
use Rattle.kfs_call.specs.AnswerRow.{told_fields}
use Rattle.kfs_call.specs.Call.{Call, Submit, Lease, Drop, Tick, Migrate, LeaseAt, IsCall, call_bytes, long_bytes}
use Rattle.kfs_call.specs.Layout.{joined}
use Rattle.kfs_call.specs.declared.fault.FieldFault.{FieldFault}
use Rattle.kfs_call.specs.declared.fault.FieldFault.TheVariants as fields
use Rattle.kfs_call_desk.specs.Calls.{IsRefusal}
use Rattle.kfs_call_desk.specs.declared.made.CallFault.TheVariants as faults
use Rattle.kfs_kept.specs.Calls.Group.{CallAndAnswer, IsGroup, brief_bytes, group_bytes, kept_bytes, kept_read}
use Rattle.kfs_kept.specs.Calls.Leads.{Asks, GroupLeads, LeadOn, Leads}
use Rattle.kfs_call_desk.specs.Told.{told_of}
use Rattle.kfs_kept.proofs.CallsLemmas.GroupLaws.{kept_again, kept_shorter, kept_takes}
use Rattle.kfs_kept.proofs.CallsLemmas.OneCall.{never_lacks, never_trails, same_call}

-- ---- parts of bytes

bytes_front : (front rest : List ℕ) → IsBytes (front ++ rest) → IsBytes front
bytes_front [] rest fits i = omega arith
bytes_front (b ∷ front) rest fits zero = fits zero
bytes_front (b ∷ front) rest fits (suc i) = bytes_front front rest (λ j. fits (suc j)) i

-- what stands behind its length
bytes_long : (value rest : List ℕ) → IsBytes (long_bytes value ++ rest) → IsBytes value
bytes_long value rest fits = IsBytes-behind (number32 (length value)) value (bytes_front (long_bytes value) rest fits)

-- ---- one call

one_reading : (submission : Submission) (a b : Reading) → IsBytes submission.log → IsBytes submission.plan → IsReadAs submission a → IsReadAs submission b → a ≡ b
one_reading submission a b log plan is this =
    let logs = one_log_answer submission.log log a.log b.log is.log this.log in
    let plans = one_plan_answer submission.plan plan a.plan b.plan is.plan this.plan in
    λ i. record { log = logs i; plan = plans i }

one_asked : (call : Call) (a b : machine.Call) → IsBytes (call_bytes call) → Asks call a → Asks call b → a ≡ b
one_asked (Submit client log plan) a b fits is this =
    let behind = IsBytes-behind (byte 1 ++ number32 client) (long_bytes log ++ (long_bytes plan ++ [])) fits in
    let logs = bytes_long log (long_bytes plan ++ []) behind in
    let plans = bytes_long plan [] (IsBytes-behind (long_bytes log) (long_bytes plan ++ []) behind) in
    let submission = submission_with client log plan in
    is.2 ∙ ap (machine.Submit submission) (one_reading submission is.0 this.0 logs plans is.1 this.1) ∙ sym this.2
one_asked (Lease client kind end path) a b fits is this = is ∙ sym this
one_asked (Drop client number) a b fits is this = is ∙ sym this
one_asked (Tick moment) a b fits is this = is ∙ sym this
one_asked (Migrate moves) a b fits is this = is ∙ sym this
one_asked (LeaseAt client kind end number) a b fits is this = is ∙ sym this

-- the bytes of a call have one answer, and lead to one state
pub one_lead : (s t u : State) (bytes one other : List ℕ) → IsBytes bytes → Leads s (record { call = bytes; answer = one }) t → Leads s (record { call = bytes; answer = other }) u → (one ≡ other) × (t ≡ u)
one_lead s t u bytes one other fits is this =
    let same = same_call bytes is.call this.call is.fits this.fits is.spelled this.spelled in
    let asks = subst (λ (c : Call). Asks c this.asked) (sym same) this.asks in
    let asked = one_asked is.call is.asked this.asked (subst IsBytes is.spelled fits) is.asks asks in
    (is.answered ∙ ap (λ (c : machine.Call). joined (told_fields (told_of c (made s c).0))) asked ∙ sym this.answered, sym is.state ∙ ap (λ (c : machine.Call). (made s c).1) asked ∙ this.state)

-- they are never refused as none
pub never_bad : (desk : Desk) (bytes : List ℕ) (call : Call) (fault : FieldFault) → IsCall call → bytes ≡ call_bytes call → IsRefusal bytes desk (faults.BadCall fault) → ⊥
never_bad desk bytes call (fields.BadField k) fits is refusal = never_lacks call bytes k fits is refusal
never_bad desk bytes call fields.Trailing fits is (other, more, fit, some, spelled) = some (never_trails call other bytes more fits fit is spelled)
never_bad desk bytes call fields.OutOfMemory fits is refusal = refusal

-- ---- the first call of a group

abbrev read : CallAndAnswer × List ℕ → Option (CallAndAnswer × List ℕ)
read x = Some x

read_is : (x y : CallAndAnswer × List ℕ) → read x ≡ read y → x ≡ y
read_is x y is = cc

no_bytes : IsBytes []
no_bytes i = omega arith

-- what stands in front of a group is read
first_read : (bytes : List ℕ) (first : CallAndAnswer) (calls : List CallAndAnswer) → IsGroup (first ∷ calls) → bytes ≡ group_bytes (first ∷ calls) → kept_read bytes ≡ read (first, group_bytes calls)
first_read bytes first calls fit is = ap kept_read is ∙ kept_again first (group_bytes calls) fit.0

-- a group leads by its first call, and then by the others
pub group_first : (s t : State) (bytes : List ℕ) (kept : CallAndAnswer) (rest : List ℕ) → IsBytes bytes → kept_read bytes ≡ Some (kept, rest) → GroupLeads s bytes t → (u : State) × Leads s kept u × GroupLeads u rest t
group_first s t bytes kept rest are found (asked, group) = by group.calls group.fit group.spelled group.lead
  where
    by : (calls : List CallAndAnswer) → IsGroup calls → bytes ≡ group_bytes calls → LeadOn s calls t → (u : State) × Leads s kept u × GroupLeads u rest t
    by [] fit is lead =
        let less = kept_shorter bytes kept rest are found in
        let none = ap length is in
        absurd (omega (arith, less, none))
    by (first ∷ calls) fit is lead =
        let same = read_is (first, group_bytes calls) (kept, rest) (sym (first_read bytes first calls fit is) ∙ found) in
        let one = ap (λ (x : CallAndAnswer × List ℕ). x.0) same in
        let behind = ap (λ (x : CallAndAnswer × List ℕ). x.1) same in
        (lead.0, subst (λ (k : CallAndAnswer). Leads s k lead.0) one lead.1, (map (λ (k : CallAndAnswer). k.call) calls, record { calls = calls; are = refl; fit = fit.1; spelled = sym behind; lead = lead.2 }))

-- where no call is read, a group has none
pub no_first : (s t : State) (bytes : List ℕ) → kept_read bytes ≡ None → GroupLeads s bytes t → bytes ≡ []
no_first s t bytes none (asked, group) = by group.calls group.fit group.spelled
  where
    by : (calls : List CallAndAnswer) → IsGroup calls → bytes ≡ group_bytes calls → bytes ≡ []
    by [] fit is = is
    by (first ∷ calls) fit is = let some = sym (first_read bytes first calls fit is) ∙ none in cc

pub none_leads : (s t : State) → GroupLeads s [] t → t ≡ s
none_leads s t (asked, group) = by group.calls group.fit group.spelled group.lead
  where
    by : (calls : List CallAndAnswer) → IsGroup calls → [] ≡ group_bytes calls → LeadOn s calls t → t ≡ s
    by [] fit is lead = lead
    by (first ∷ calls) fit is lead =
        let less = kept_shorter [] first (group_bytes calls) no_bytes (first_read [] first calls fit is) in
        absurd (omega (arith, less))

-- the bytes of a call that is read are bytes
pub call_are_bytes : (bytes : List ℕ) (kept : CallAndAnswer) (rest : List ℕ) → IsBytes bytes → kept_read bytes ≡ Some (kept, rest) → IsBytes kept.call
call_are_bytes bytes kept rest are found =
    let stands = kept_takes bytes kept rest are found in
    bytes_long kept.call (brief_bytes kept.answer) (bytes_front (kept_bytes kept) rest (subst IsBytes stands.parts are))
