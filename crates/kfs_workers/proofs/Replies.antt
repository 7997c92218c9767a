-- Each reply of a script stands in the docket at its position, and says what was done to the state there.
use Rattle.std.proofs.Common.{◌≡◌, ◌≢◌, ℕ, zero, suc, ◌+◌, ◌≤◌, ◌<◌, List, [], ◌∷◌, ◌++◌, length, take, get_or, set, inl, inr, Option, Some, None, refl, sym, ap, subst, ◌∙◌, arith, length-append, append_assoc, append-nil}
use Rattle.std.specs.List.{slice_get}
use Rattle.std.proofs.lemmas.List.{get_or-set_same, get_or-set_other, take-append-le, take_all}
use Rattle.std.proofs.lemmas.Option.{slice_get_within}
use Rattle.kfs_model.specs.Judgement.{State, Submission}
use Rattle.kfs_model.specs.Machine.{Call, IsRead, Migrate, after}
use Rattle.kfs_desk.specs.History.Legal.{IsLegalDocket}
use Rattle.kfs_desk.proofs.HistoryLemmas.Longer.{leads_on}
use Rattle.kfs_desk.specs.declared.history.answers.ActReply.{ActReply}
use Rattle.kfs_desk.specs.declared.history.answers.Done.{Done}
use Rattle.kfs_desk.specs.declared.history.answers.Done.TheVariants.{Moved}
use Rattle.kfs_desk.specs.declared.history.answers.Reply.{Reply}
use Rattle.kfs_desk.specs.Docket.{is_rejudged, position_of}
use Rattle.kfs_desk.specs.Machine.{Desk, IsActed, IsAnswered, AnswerMeans, call_of, done_by}
use Rattle.kfs_workers.specs.Claims.{GoesOnFrom, StandsAt}
use Rattle.kfs_workers.specs.Script.{Holding, Taken, Decided, ScriptState, DoesCall, DoesStep, DoesLook, DoesJudge, DoesLand, DoesSteps, begun}
use Rattle.kfs_workers.specs.declared.script.Step.{Step}
use Rattle.kfs_workers.specs.declared.script.Step.TheVariants as steps
use Rattle.kfs_workers.proofs.Places.{AreInPlace, by_equal, none_each}
use Rattle.kfs_workers.proofs.Settled.{step_in_place}

-- ---- a docket with a row more

get-front : {X : Type 0} (xs ys : List X) (i : ℕ) → i < length xs → slice_get (xs ++ ys) i ≡ slice_get xs i
get-front [] ys i few = absurd (omega arith)
get-front (x ∷ xs) ys zero few = refl
get-front (x ∷ xs) ys (suc i) few = get-front xs ys i (omega arith)

get-last : {X : Type 0} (xs : List X) (y : X) → slice_get (xs ++ y ∷ []) (length xs) ≡ Some y
get-last [] y = refl
get-last (x ∷ xs) y = get-last xs y

-- ---- where a reply stands, and what it means

-- the docket is legal, and its rows from before stand where they stood
pub record Grows (old new : Desk) : Type 0 where
  pub on : GoesOnFrom old new
  pub legal : IsLegalDocket new.opening new.docket new.state

pub record Stands (desk : Desk) (submission : Submission) (reply : Reply) : Type 0 where
  pub before : State
  pub after_it : State
  pub at : StandsAt desk submission reply before after_it
  pub within : position_of reply < length desk.docket
  pub means : AnswerMeans before submission reply after_it

-- the desk has gone on from the first one; the replies stand in the docket, which is legal, each at a row
-- of its own
pub record AreStanding (first_desk : Desk) (submissions : List Submission) (state : ScriptState) : Type 0 where
  pub on : GoesOnFrom first_desk state.desk
  pub legal : IsLegalDocket state.desk.opening state.desk.docket state.desk.state
  pub stands : (ticket : ℕ) (submission : Submission) (reply : Reply) → slice_get submissions ticket ≡ Some submission → get_or state.replies ticket None ≡ Some reply → Stands state.desk submission reply
  pub within : (ticket : ℕ) (reply : Reply) → get_or state.replies ticket None ≡ Some reply → position_of reply < length state.desk.docket
  pub apart : (one other : ℕ) (first second : Reply) → get_or state.replies one None ≡ Some first → get_or state.replies other None ≡ Some second → one ≢ other → position_of first ≢ position_of second

module _ (old new : Desk) (grows : Grows old new) where
  longer : length old.docket ≤ length new.docket
  longer = let same = ap length grows.on.docket in let count = length-append old.docket grows.on.rows in omega arith

  pub stands_on : (submission : Submission) (reply : Reply) → Stands old submission reply → Stands new submission reply
  stands_on submission reply is =
      let place = position_of reply in
      let more = longer in
      let within = is.within in
      let front : (count : ℕ) → count ≤ length old.docket → after new.opening (take count new.docket) ≡ after old.opening (take count old.docket) =
      λ count few. ap (λ o. after o (take count new.docket)) grows.on.opening ∙ ap (λ rows. after old.opening (take count rows)) grows.on.docket ∙ ap (after old.opening) (take-append-le count old.docket grows.on.rows few) in
      record {
        before = is.before;
        after_it = is.after_it;
        at = record {
          row = is.at.row;
          at = ap (λ rows. slice_get rows place) grows.on.docket ∙ get-front old.docket grows.on.rows place within ∙ is.at.at;
          led = front place (omega arith) ∙ is.at.led;
          leads = front (place + 1) (omega arith) ∙ is.at.leads;
          step = is.at.step;
        };
        within = omega arith;
        means = is.means;
      }

-- the row of an answer stands at the docket's end
pub answer_stands : (old new : Desk) (legal : IsLegalDocket old.opening old.docket old.state) (submission : Submission) (again : _) (reply : Reply) → IsAnswered old submission again reply new → Grows old new × Stands new submission reply
answer_stands old new legal submission again reply is =
    let read : IsRead is.row = subst (λ (call : Call). IsRead (record is.row { call = call })) (sym is.step.asked) is.step.read in
    let leads = leads_on is.row old.opening old.state new.state old.docket legal read is.step.fits is.step.least in
    let legal_now : IsLegalDocket new.opening new.docket new.state = subst (λ opening. IsLegalDocket opening new.docket new.state) (sym is.opening) (subst (λ rows. IsLegalDocket old.opening rows new.state) (sym is.docket) leads) in
    let place = is.position in
    let count = length-append old.docket (is.row ∷ []) in
    let long = ap length is.docket in
    let whole : take (length old.docket + 1) new.docket ≡ new.docket = ap (λ n. take n new.docket) (let n : length old.docket + 1 ≡ length new.docket = omega arith in n) ∙ take_all (length new.docket) new.docket (omega arith) in (
      record { on = record { opening = is.opening; limit = is.limit; rows = is.row ∷ []; docket = is.docket }; legal = legal_now },
      record {
        before = old.state;
        after_it = new.state;
        at = record {
          row = is.row;
          at = ap (slice_get new.docket) place ∙ ap (λ rows. slice_get rows (length old.docket)) is.docket ∙ get-last old.docket is.row;
          led = ap (λ n. after new.opening (take n new.docket)) place ∙ ap (λ o. after o (take (length old.docket) new.docket)) is.opening ∙ ap (λ rows. after old.opening (take (length old.docket) rows)) is.docket
              ∙ ap (after old.opening) (take-append-le (length old.docket) old.docket (is.row ∷ []) (omega arith) ∙ take_all (length old.docket) old.docket (omega arith)) ∙ legal.fit;
          leads = ap (λ n. after new.opening (take (n + 1) new.docket)) place ∙ ap (after new.opening) whole ∙ legal_now.fit;
          step = is.step;
        };
        within = omega arith;
        means = is.meaning;
      },
    )

-- ---- steps

-- twice gone on
on_twice : (desk next last : Desk) → GoesOnFrom desk next → GoesOnFrom next last → GoesOnFrom desk last
on_twice desk next last one other = record {
  opening = other.opening ∙ one.opening;
  limit = other.limit ∙ one.limit;
  rows = one.rows ++ other.rows;
  docket = other.docket ∙ ap (λ rows. rows ++ other.rows) one.docket ∙ append_assoc desk.docket one.rows other.rows;
}

module _ (first_desk : Desk) (submissions : List Submission) (state next_scene : ScriptState) (are : AreStanding first_desk submissions state) where
  -- the replies stay, in a docket that may have grown
  pub replies_stay : next_scene.replies ≡ state.replies → Grows state.desk next_scene.desk → AreStanding first_desk submissions next_scene
  replies_stay same grows =
      let was : (ticket : ℕ) (reply : Reply) → get_or next_scene.replies ticket None ≡ Some reply → get_or state.replies ticket None ≡ Some reply = λ ticket reply at. ap (λ l. get_or l ticket None) (sym same) ∙ at in
      record {
        on = on_twice first_desk state.desk next_scene.desk are.on grows.on;
        legal = grows.legal;
        stands = λ ticket submission reply of at. stands_on state.desk next_scene.desk grows submission reply (are.stands ticket submission reply of (was ticket reply at));
        within = λ ticket reply at. let before = are.within ticket reply (was ticket reply at) in let more = longer state.desk next_scene.desk grows in omega arith;
        apart = λ one other first second at also. are.apart one other first second (was one first at) (was other second also);
      }

  -- one more reply, which stands behind all others
  pub reply_added : (ticket : ℕ) (submission : Submission) (reply : Reply) → slice_get submissions ticket ≡ Some submission → ticket < length state.replies → next_scene.replies ≡ set state.replies ticket (Some reply)
      → position_of reply ≡ length state.desk.docket → Grows state.desk next_scene.desk → Stands next_scene.desk submission reply → AreStanding first_desk submissions next_scene
  reply_added ticket submission reply of within added last grows stands =
      let here : (t : ℕ) (r : Reply) → t ≡ ticket → get_or next_scene.replies t None ≡ Some r → r ≡ reply =
      λ t r same at. one_reply (sym at ∙ ap (λ l. get_or l t None) added ∙ ap (λ n. get_or (set state.replies ticket (Some reply)) n None) same ∙ get_or-set_same state.replies ticket (Some reply) None within) in
      let was : (t : ℕ) (r : Reply) → t ≢ ticket → get_or next_scene.replies t None ≡ Some r → get_or state.replies t None ≡ Some r =
      λ t r apart at. sym (get_or-set_other state.replies ticket t (Some reply) None apart) ∙ ap (λ l. get_or l t None) (sym added) ∙ at in
      let below : (t : ℕ) (r : Reply) → t ≢ ticket → get_or next_scene.replies t None ≡ Some r → position_of r ≢ position_of reply = λ t r apart at same. let before = are.within t r (was t r apart at) in let never : ⊥ = omega (arith, before, same, last) in never in
      record {
        on = on_twice first_desk state.desk next_scene.desk are.on grows.on;
        legal = grows.legal;
        stands = λ t s r is at. by_equal t ticket
            (λ same. subst (Stands next_scene.desk s) (sym (here t r same at)) (subst (λ u. Stands next_scene.desk u reply) (one_submission (sym of ∙ ap (slice_get submissions) (sym same) ∙ is)) stands))
            (λ apart. stands_on state.desk next_scene.desk grows s r (are.stands t s r is (was t r apart at)));
        within = λ t r at. by_equal t ticket
            (λ same. subst (λ it. position_of it < length next_scene.desk.docket) (sym (here t r same at)) stands.within)
            (λ apart. let before = are.within t r (was t r apart at) in let more = longer state.desk next_scene.desk grows in omega arith);
        apart = λ one other first second at also differ. by_equal one ticket
            (λ same. by_equal other ticket
            (λ too. absurd (differ (same ∙ sym too)))
            (λ apart equal. below other second apart also (sym equal ∙ ap position_of (here one first same at))))
            (λ apart. by_equal other ticket
            (λ too equal. below one first apart at (equal ∙ ap position_of (here other second too also)))
            (λ also_apart. are.apart one other first second (was one first apart at) (was other second also_apart also) differ));
      }
    where
      one_reply : {a b : Reply} → Some a ≡ Some b → a ≡ b
      one_reply e = cc

      one_submission : {a b : Submission} → Some a ≡ Some b → a ≡ b
      one_submission e = cc

-- the desk as it is
on_same : (desk new : Desk) → new ≡ desk → GoesOnFrom desk new
on_same desk new same = record {
  opening = ap (λ (d : Desk). d.opening) same;
  limit = ap (λ (d : Desk). d.limit) same;
  rows = [];
  docket = ap (λ (d : Desk). d.docket) same ∙ sym (append-nil desk.docket);
}

stays_legal : (desk new : Desk) → new ≡ desk → IsLegalDocket desk.opening desk.docket desk.state → Grows desk new
stays_legal desk new same legal = record {
  on = on_same desk new same;
  legal = subst (λ (d : Desk). IsLegalDocket d.opening d.docket d.state) (sym same) legal;
}

-- a row more, of a call that is no submission
call_grows : (old new : Desk) (call : Call) (words : ℕ → Done) (reply : ActReply) → IsLegalDocket old.opening old.docket old.state → IsActed old call words reply new → Grows old new
call_grows old new call words reply legal is =
    let leads = leads_on is.row old.opening old.state new.state old.docket legal is.step.read is.step.fits is.step.least in
    record {
      on = record { opening = is.opening; limit = is.limit; rows = is.row ∷ []; docket = is.docket };
      legal = subst (λ opening. IsLegalDocket opening new.docket new.state) (sym is.opening) (subst (λ rows. IsLegalDocket old.opening rows new.state) (sym is.docket) leads);
    }

module _ (first_desk : Desk) (submissions : List Submission) (state next_scene : ScriptState) (in_place : AreInPlace submissions state) (are : AreStanding first_desk submissions state) where
  same_state : next_scene ≡ state → AreStanding first_desk submissions next_scene
  same_state is = subst (AreStanding first_desk submissions) (sym is) are

  -- the replies and the desk are the same
  same_desk : next_scene.replies ≡ state.replies → next_scene.desk ≡ state.desk → AreStanding first_desk submissions next_scene
  same_desk replies desk = replies_stay first_desk submissions state next_scene are replies (stays_legal state.desk next_scene.desk desk are.legal)

  looks : (worker ticket : ℕ) (hand : Option (Option Holding)) (waits : Option Submission) → DoesLook state worker ticket hand waits next_scene → AreStanding first_desk submissions next_scene
  looks worker ticket None waits is = same_state is
  looks worker ticket (Some (Some held)) waits is = same_state is
  looks worker ticket (Some None) None is = same_state is
  looks worker ticket (Some None) (Some submission) (inr is) = same_state is
  looks worker ticket (Some None) (Some submission) (inl is) = same_desk (ap (λ (s : ScriptState). s.replies) is) (ap (λ (s : ScriptState). s.desk) is)

  judges : (worker : ℕ) (hand : Option Holding) → DoesJudge state worker hand next_scene → AreStanding first_desk submissions next_scene
  judges worker None is = same_state is
  judges worker (Some (Decided ticket verdict)) is = same_state is
  judges worker (Some (Taken ticket submission seen)) (inl (verdict, on, is)) = same_desk (ap (λ (s : ScriptState). s.replies) is) (ap (λ (s : ScriptState). s.desk) is)
  judges worker (Some (Taken ticket submission seen)) (inr is) = same_desk (ap (λ (s : ScriptState). s.replies) is) (ap (λ (s : ScriptState). s.desk) is)

  lands : (worker : ℕ) (hand : Option Holding) → get_or state.hands worker None ≡ hand → DoesLand state worker hand next_scene → AreStanding first_desk submissions next_scene
  lands worker None at is = same_state is
  lands worker (Some (Taken ticket submission seen)) at is = same_state is
  lands worker (Some (Decided ticket verdict)) at (inr is) = same_desk (ap (λ (s : ScriptState). s.replies) is) (ap (λ (s : ScriptState). s.desk) is)
  lands worker (Some (Decided ticket verdict)) at (inl landed) =
      let (there, of) = in_place.holds worker (Decided ticket verdict) at in
      let within : ticket < length state.replies = subst (λ n. ticket < n) (sym in_place.replies_length) (slice_get_within submissions ticket verdict.submission of) in
      let (grows, stands) = answer_stands state.desk next_scene.desk are.legal verdict.submission (is_rejudged landed.answer) landed.answer landed.landed.answered in
      reply_added first_desk submissions state next_scene are ticket verdict.submission landed.answer of within (ap (λ (s : ScriptState). s.replies) landed.is) landed.landed.answered.position grows stands

  asks : (call : Call) (words : ℕ → Done) → DoesCall state call words next_scene → AreStanding first_desk submissions next_scene
  asks call words (inr is) = same_state is
  asks call words (inl asked) =
      replies_stay first_desk submissions state next_scene are (ap (λ (s : ScriptState). s.replies) asked.is) (call_grows state.desk next_scene.desk call words asked.reply are.legal asked.acted)

  pub step_stands : (step : Step) → DoesStep state step next_scene → AreStanding first_desk submissions next_scene
  step_stands (steps.Look worker ticket) is = looks worker ticket (slice_get state.hands worker) (get_or state.waiting ticket None) is
  step_stands (steps.Judge worker) is = judges worker (get_or state.hands worker None) is
  step_stands (steps.Land worker) is = lands worker (get_or state.hands worker None) refl is
  step_stands (steps.Act act) is = asks (call_of act) (done_by act) is
  step_stands (steps.Migrate moves) is = asks (Migrate moves.now) Moved is

pub run_stands : (first_desk : Desk) (submissions : List Submission) (state last : ScriptState) (script : List Step) → AreInPlace submissions state → AreStanding first_desk submissions state → DoesSteps state script last
    → AreInPlace submissions last × AreStanding first_desk submissions last
run_stands first_desk submissions state last [] in_place are is = (subst (AreInPlace submissions) (sym is) in_place, subst (AreStanding first_desk submissions) (sym is) are)
run_stands first_desk submissions state last (step ∷ script) in_place are (next_scene, does, runs) =
    run_stands first_desk submissions next_scene last script (step_in_place submissions state next_scene in_place step does) (step_stands first_desk submissions state next_scene in_place are step does) runs

pub stands_at_first : (desk : Desk) (submissions : List Submission) → IsLegalDocket desk.opening desk.docket desk.state → AreStanding desk submissions (begun desk submissions)
stands_at_first desk submissions legal = record {
  on = on_same desk desk refl;
  legal = legal;
  stands = λ ticket submission reply of at. absurd (no_reply ticket reply at);
  within = λ ticket reply at. absurd (no_reply ticket reply at);
  apart = λ one other first second at also differ. absurd (no_reply one first at);
}
  where
    no_reply : (ticket : ℕ) (reply : Reply) → get_or (begun desk submissions).replies ticket None ≡ Some reply → ⊥
    no_reply ticket reply at = apart (sym (none_each {Y = Reply} submissions ticket) ∙ at)
      where
        apart : {x : Reply} → None ≡ Some x → ⊥
        apart e = cc
