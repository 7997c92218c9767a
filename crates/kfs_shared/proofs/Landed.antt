-- What a turn tells, from what the desk says of its call.
use Rattle.std.proofs.Common.{◌≡◌, ℕ, Bool, false, true, List, [], ◌∷◌, ◌++◌, length, Option, Some, Result, Ok, Err, refl, sym, ap, subst, ◌∙◌, append_assoc}
use Rattle.std.specs.Prelude.{IfOk, IfErr, OnErr}
use Rattle.std.proofs.lemmas.Bool.{both_ways}
use Rattle.kfs_model.specs.Judgement.{State}
use Rattle.kfs_model.specs.Machine.{Row}
use Rattle.kfs_desk.specs.History.Legal.{IsLegalDocket}
use Rattle.kfs_judge.specs.Views.{View}
use Rattle.kfs_desk.specs.Beginning.{Beginning, IsDocketFrom, beginning_of}
use Rattle.kfs_desk.specs.Machine.{Desk, IsViewOf}
use Rattle.kfs_shared.specs.Turns.Stages.{having_added, ticket}
use Rattle.kfs_shared.specs.declared.turns.known.Known.{Known}
use Rattle.kfs_shared.specs.declared.turns.known.Stage.TheVariants.{Served}
use Rattle.kfs_shared.specs.Turns.Lists.{StartsWith}
use Rattle.kfs_shared.proofs.TurnsLemmas.Lists.{starts_same, starts_trans}
use Rattle.kfs_shared.proofs.TurnsLemmas.Steps.{one_said}
use Rattle.kfs_plan.specs.declared.submission.Submission.{Submission}
use Rattle.kfs_desk.specs.declared.desk.Landed.{Landed}
use Rattle.kfs_desk.specs.declared.history.answers.Reply.{Reply}
use Rattle.kfs_shared.specs.Calls.{HasAdded, IsUnanswered, IsViewAfter, answer_of}
use Rattle.kfs_shared.specs.declared.want.SharedBack.{SharedBack}
use Rattle.kfs_shared.specs.declared.want.SharedWant.{SharedWant}
use Rattle.kfs_shared.specs.declared.want.SharedWant.TheVariants.{OutOfMemory, DocketFull, TurnsSpent}

-- The desk came out of the table with the rows that it had; the call added one, and the pass has seen them all.
pub has_added : (beginning : Beginning) (known : Option Beginning) (seen : List Row) (own : List ℕ) (old new : Desk) (row : Row) (position : ℕ) (P : State → Row → State → Type 0) (seen_then : List Row) (own_then : List ℕ)
    → known ≡ Some beginning → known ≡ Some (beginning_of old) → StartsWith old.docket seen → IsLegalDocket old.opening old.docket old.state
    → IsLegalDocket new.opening new.docket new.state → IsDocketFrom (beginning_of new) new.docket → new.opening ≡ old.opening → new.limit ≡ old.limit
    → new.docket ≡ old.docket ++ row ∷ [] → position ≡ length old.docket → P old.state row new.state → seen_then ≡ new.docket → own_then ≡ own ++ length old.docket ∷ []
    → HasAdded beginning seen own position P seen_then own_then
has_added beginning known seen own old new row position P seen_then own_then is of begins led leads whole opening limit docket at answered sees owns =
    let first : beginning ≡ beginning_of old = one_said beginning (beginning_of old) (sym is ∙ of) in
    let last : beginning ≡ beginning_of new = first ∙ (λ i. record { opening = sym opening i; limit = sym limit i }) in
    record {
      between = begins.0;
      before = old.state;
      row = row;
      after = new.state;
      led = subst (λ (b : Beginning). IsLegalDocket b.opening (seen ++ begins.0) old.state) (sym first) (subst (λ rows. IsLegalDocket old.opening rows old.state) begins.1 led);
      leads = subst (λ (b : Beginning). IsLegalDocket b.opening seen_then new.state) (sym last) (subst (λ rows. IsLegalDocket new.opening rows new.state) (sym sees) leads);
      docket = subst (λ (b : Beginning). IsDocketFrom b seen_then) (sym last) (subst (IsDocketFrom (beginning_of new)) (sym sees) whole);
      is = answered;
      at = at ∙ ap length begins.1;
      sees = sees ∙ (docket ∙ ap (λ rows. rows ++ row ∷ []) begins.1);
      owns = owns ∙ ap (λ n. own ++ n ∷ []) (sym at);
    }

-- The desk came out of the table with the rows that the pass has seen then, and a view was taken of it.
pub is_view_after : {A : Type 0} (beginning : Beginning) (known : Option Beginning) (view : View A) (desk : Desk) (seen seen_then : List Row) → known ≡ Some beginning → known ≡ Some (beginning_of desk)
    → StartsWith desk.docket seen → IsLegalDocket desk.opening desk.docket desk.state → IsDocketFrom (beginning_of desk) desk.docket → IsViewOf view desk.state → seen_then ≡ desk.docket
    → IsViewAfter beginning view seen seen_then
is_view_after {A} beginning known view desk seen seen_then is of begins led whole shows sees =
    let first : beginning ≡ beginning_of desk = one_said beginning (beginning_of desk) (sym is ∙ of) in
    record {
      state = desk.state;
      leads = subst (λ (b : Beginning). IsLegalDocket b.opening seen_then desk.state) (sym first) (subst (λ rows. IsLegalDocket desk.opening rows desk.state) (sym sees) led);
      docket = subst (λ (b : Beginning). IsDocketFrom b seen_then) (sym first) (subst (IsDocketFrom (beginning_of desk)) (sym sees) whole);
      shows = shows;
      begins = subst (λ rows. StartsWith rows seen) (sym sees) begins;
    }

-- ---- a turn with one row more

pub added_served : {D O W : Type 0} (v w : Known D O W) (rows : List W) (d e : D) → w ≡ having_added v rows d → e ≡ d → w.stage ≡ Served (ticket w.stage) e true
added_served {D} {O} {W} v w rows d e is same =
    let stage : w.stage ≡ Served (ticket v.stage) d true = ap (λ (k : Known D O W). k.stage) is in
    stage ∙ (ap (λ t. Served t d true) (sym (ap ticket stage)) ∙ ap (λ x. Served (ticket w.stage) x true) (sym same))

pub still_begun : (known : Option Beginning) (old new : Desk) → known ≡ Some (beginning_of old) → new.opening ≡ old.opening → new.limit ≡ old.limit → known ≡ Some (beginning_of new)
still_begun known old new is opening limit = is ∙ (λ i. Some record { opening = sym opening i; limit = sym limit i })

-- the desk that is out is full
pub full_in_turn : (beginning : Beginning) (known : Option Beginning) (desk : Desk) (seen : List Row) → known ≡ Some beginning → known ≡ Some (beginning_of desk) → desk.docket ≡ seen → length desk.docket ≡ desk.limit → length seen ≡ beginning.limit
full_in_turn beginning known desk seen is of whole full = ap length (sym whole) ∙ (full ∙ ap (λ (b : Beginning). b.limit) (one_said (beginning_of desk) beginning (sym of ∙ is)))

-- ---- a call within a turn, said of the pass before the turn

added_from : (beginning : Beginning) (s0 s1 s2 : List Row) (o0 o1 o2 : List ℕ) (position : ℕ) (P : State → Row → State → Type 0) → StartsWith s1 s0 → o1 ≡ o0 → HasAdded beginning s1 o1 position P s2 o2 → HasAdded beginning s0 o0 position P s2 o2
added_from beginning s0 s1 s2 o0 o1 o2 position P begins own is =
    let mid : s1 ++ is.between ≡ s0 ++ (begins.0 ++ is.between) = ap (λ (z : List Row). z ++ is.between) begins.1 ∙ append_assoc s0 begins.0 is.between in
    record {
      between = begins.0 ++ is.between;
      before = is.before;
      row = is.row;
      after = is.after;
      led = subst (λ rows. IsLegalDocket beginning.opening rows is.before) mid is.led;
      leads = is.leads;
      docket = is.docket;
      is = is.is;
      at = is.at ∙ ap length mid;
      sees = is.sees ∙ ap (λ (z : List Row). z ++ is.row ∷ []) mid;
      owns = is.owns ∙ ap (λ (z : List ℕ). z ++ position ∷ []) own;
    }

pub unanswered_begins : (beginning : Beginning) (why : SharedWant) (s0 s1 : List Row) (ended : Bool) → IsUnanswered beginning why s0 s1 ended → StartsWith s1 s0
unanswered_begins beginning OutOfMemory s0 s1 ended is = is
unanswered_begins beginning DocketFull s0 s1 ended is = is.0
unanswered_begins beginning TurnsSpent s0 s1 ended is = starts_same s1 s0 is.1

-- within a turn no call lacks a ticket
pub unanswered_whatever : (beginning : Beginning) (why : SharedWant) (s0 s1 : List Row) (ended : Bool) → IsUnanswered beginning why s0 s1 false → IsUnanswered beginning why s0 s1 ended
unanswered_whatever beginning OutOfMemory s0 s1 ended is = is
unanswered_whatever beginning DocketFull s0 s1 ended is = is
unanswered_whatever beginning TurnsSpent s0 s1 ended is = absurd (both_ways false refl is.0)

unanswered_from : (beginning : Beginning) (why : SharedWant) (s0 s1 s2 : List Row) (ended : Bool) → StartsWith s1 s0 → IsUnanswered beginning why s1 s2 false → IsUnanswered beginning why s0 s2 ended
unanswered_from beginning OutOfMemory s0 s1 s2 ended begins is = starts_trans s2 s1 s0 is begins
unanswered_from beginning DocketFull s0 s1 s2 ended begins is = (starts_trans s2 s1 s0 is.0 begins, is.1)
unanswered_from beginning TurnsSpent s0 s1 s2 ended begins is = absurd (both_ways false refl is.0)

pub answered_ok : {T E : Type 0} (beginning : Beginning) (s0 s1 s2 s3 : List Row) (o0 o1 o2 o3 : List ℕ) (at : T → ℕ) (P : T → State → Row → State → Type 0) (r : Result T E) → StartsWith s1 s0 → o1 ≡ o0 → s3 ≡ s2 → o3 ≡ o2
    → IfOk r (λ t. HasAdded beginning s1 o1 (at t) (P t) s2 o2) → IfOk r (λ t. HasAdded beginning s0 o0 (at t) (P t) s3 o3)
answered_ok beginning s0 s1 s2 s3 o0 o1 o2 o3 at P (Ok t) begins own sees owns is =
    subst (λ rows. HasAdded beginning s0 o0 (at t) (P t) rows o3) (sym sees) (subst (HasAdded beginning s0 o0 (at t) (P t) s2) (sym owns) (added_from beginning s0 s1 s2 o0 o1 o2 (at t) (P t) begins own is))
answered_ok beginning s0 s1 s2 s3 o0 o1 o2 o3 at P (Err e) begins own sees owns is = is

pub answered_err : {T E : Type 0} (beginning : Beginning) (s0 s1 s2 s3 : List Row) (ended : Bool) (why : E → SharedWant) (r : Result T E) → StartsWith s1 s0 → s3 ≡ s2
    → IfErr r (λ e. IsUnanswered beginning (why e) s1 s2 false) → IfErr r (λ e. IsUnanswered beginning (why e) s0 s3 ended)
answered_err beginning s0 s1 s2 s3 ended why (Ok t) begins sees is = is
answered_err beginning s0 s1 s2 s3 ended why (Err e) begins sees is = subst (λ rows. IsUnanswered beginning (why e) s0 rows ended) (sym sees) (unanswered_from beginning (why e) s0 s1 s2 ended begins is)

-- ---- the answer to a verdict that its caller kept

pub answer_ok : {A : Type 0} (P : Reply → Type 0) (submission : Submission A) (landed : Result (Landed A) SharedWant) (r : Result Reply (SharedBack A)) → r ≡ answer_of submission landed → IfOk landed (λ l. P l.reply) → IfOk r P
answer_ok P submission (Ok l) r is told = subst (λ a. IfOk a P) (sym is) told
answer_ok P submission (Err why) r is told = subst (λ a. IfOk a P) (sym is) told

pub answer_err : {A : Type 0} (P : SharedWant → Type 0) (submission : Submission A) (landed : Result (Landed A) SharedWant) (r : Result Reply (SharedBack A)) → r ≡ answer_of submission landed → IfErr landed P → IfErr r (λ back. P back.why)
answer_err P submission (Ok l) r is told = subst (λ a. IfErr a (λ back. P back.why)) (sym is) told
answer_err P submission (Err why) r is told = subst (λ a. IfErr a (λ back. P back.why)) (sym is) told

pub answer_back : {A : Type 0} (submission : Submission A) (landed : Result (Landed A) SharedWant) (r : Result Reply (SharedBack A)) → r ≡ answer_of submission landed → IfErr r (λ back. back.submission ≡ submission)
answer_back submission (Ok l) r is = subst (λ a. IfErr a (λ back. back.submission ≡ submission)) (sym is) tt
answer_back submission (Err why) r is = subst (λ a. IfErr a (λ back. back.submission ≡ submission)) (sym is) refl

-- the rows of a pass before and after a turn that answers nothing
pub own_same : {T E : Type 0} (o0 o1 o2 o3 : List ℕ) (r : Result T E) → o1 ≡ o0 → o3 ≡ o2 → OnErr r (o2 ≡ o1) → OnErr r (o3 ≡ o0)
own_same o0 o1 o2 o3 (Ok t) own owns is = is
own_same o0 o1 o2 o3 (Err e) own owns is = owns ∙ (is ∙ own)

pub answer_same : {A : Type 0} (P : Type 0) (submission : Submission A) (landed : Result (Landed A) SharedWant) (r : Result Reply (SharedBack A)) → r ≡ answer_of submission landed → OnErr landed P → OnErr r P
answer_same P submission (Ok l) r is told = subst (λ a. OnErr a P) (sym is) told
answer_same P submission (Err why) r is told = subst (λ a. OnErr a P) (sym is) told

-- ---- a view within a turn, said of the pass before the turn and after it

viewed_from : {A : Type 0} (beginning : Beginning) (view : View A) (s0 s1 s2 : List Row) → StartsWith s1 s0 → IsViewAfter beginning view s1 s2 → IsViewAfter beginning view s0 s2
viewed_from beginning view s0 s1 s2 begins is = record { state = is.state; leads = is.leads; docket = is.docket; shows = is.shows; begins = starts_trans s2 s1 s0 is.begins begins }

pub viewed_ok : {A E : Type 0} (beginning : Beginning) (s0 s1 s2 s3 : List Row) (r : Result (View A) E) → StartsWith s1 s0 → StartsWith s2 s1 → s3 ≡ s2 → IfOk r (λ view. IsViewAfter beginning view s2 s2) → IfOk r (λ view. IsViewAfter beginning view s0 s3)
viewed_ok beginning s0 s1 s2 s3 (Ok view) begins more sees is = subst (IsViewAfter beginning view s0) (sym sees) (viewed_from beginning view s0 s2 s2 (starts_trans s2 s1 s0 more begins) is)
viewed_ok beginning s0 s1 s2 s3 (Err e) begins more sees is = is

pub viewed_err : {A : Type 0} (beginning : Beginning) (s0 s1 s2 : List Row) (ended : Bool) (r : Result (View A) SharedWant) → StartsWith s1 s0 → s2 ≡ s1 → IfErr r (λ why. why ≡ OutOfMemory) → IfErr r (λ why. IsUnanswered beginning why s0 s2 ended)
viewed_err beginning s0 s1 s2 ended (Ok view) begins sees is = is
viewed_err beginning s0 s1 s2 ended (Err why) begins sees is = subst (λ w. IsUnanswered beginning w s0 s2 ended) (sym is) (subst (λ rows. StartsWith rows s0) (sym sees) begins)
