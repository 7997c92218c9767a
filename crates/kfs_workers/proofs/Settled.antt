-- Each step of a script moves one ticket at the most, so at the end each has a reply or is left.
use Rattle.std.proofs.Common.{◌≡◌, ◌≢◌, ℕ, zero, suc, ◌<◌, List, [], ◌∷◌, length, get_or, set, ◌⊎◌, inl, inr, Option, Some, None, is_some, false, refl, sym, ap, subst, ◌∙◌}
use Rattle.std.specs.List.{slice_get}
use Rattle.std.proofs.lemmas.List.{get_or-set_same, get_or-set_other, length-set}
use Rattle.std.proofs.lemmas.Option.{get_or_from_slice_get, slice_get_within}
use Rattle.kfs_model.specs.Judgement.{Submission}
use Rattle.kfs_desk.specs.declared.history.answers.Reply.{Reply}
use Rattle.kfs_desk.specs.Machine.{Desk}
use Rattle.kfs_workers.specs.Script.{Holding, Taken, Decided, ScriptState, DoesStep, DoesLook, DoesJudge, DoesLand, DoesSteps, all_returned, given_back, returned, taken, with_hand}
use Rattle.kfs_desk.specs.Verdict.Verdict.{HeldVerdict}
use Rattle.kfs_workers.specs.declared.script.Step.{Step}
use Rattle.kfs_workers.specs.declared.script.Step.TheVariants as steps
use Rattle.kfs_workers.proofs.Places.{AreInPlace, Place, Waits, With, Answered, by_equal, found_within, gone_on, is_answered, submission_in, ticket_of, waiting_at}

-- an empty hand is one of the workers'
hand_within : (hands : List (Option Holding)) (worker : ℕ) → slice_get hands worker ≡ Some None → (worker < length hands) × (get_or hands worker None ≡ None)
hand_within hands worker is = (slice_get_within hands worker None is, get_or_from_slice_get hands worker None None is)

-- what is found in the hand is what is held
same_held : {one other : Holding} → Some one ≡ Some other → one ≡ other
same_held e = cc

module _ (submissions : List Submission) (state : ScriptState) (are : AreInPlace submissions state) (worker : ℕ) where
  -- ---- an empty hand

  module _ (ticket : ℕ) where
    pub look_in_place : (submission : Submission) → slice_get state.hands worker ≡ Some None → get_or state.waiting ticket None ≡ Some submission → AreInPlace submissions (taken state worker ticket submission)
    look_in_place submission hand waits =
        let (is_worker, empty) = hand_within state.hands worker hand in
        let within = found_within state.waiting ticket submission waits in
        let held : Holding = Taken ticket submission state.desk.state in
        let waited = waiting_there (are.place ticket) refl in
        let of : slice_get submissions ticket ≡ Some submission = sym (are.waits ticket ∙ ap (λ p. waiting_at p (slice_get submissions ticket)) waited) ∙ waits in
        gone_on submissions state (taken state worker ticket submission) are ticket worker (With worker) (record {
          from = inl waited;
          waiting_length = length-set state.waiting ticket None;
          replies_length = refl;
          other_waiting = λ other apart. get_or-set_other state.waiting ticket other None None apart;
          other_replies = λ other apart. refl;
          other_hands = λ other apart. get_or-set_other state.hands worker other (Some held) None apart;
          own = λ h at. cc;
          waiting = get_or-set_same state.waiting ticket None None within;
          replied = are.replied ticket ∙ ap is_answered waited;
          holds = λ h at.
              let same = same_held (sym (get_or-set_same state.hands worker (Some held) None is_worker) ∙ at) in
              (refl, ap ticket_of (sym same), of ∙ ap (λ h. Some (submission_in h)) same);
          with = λ other is. (worker_of is, held, get_or-set_same state.hands worker (Some held) None is_worker, refl);
        })
      where
        waiting_there : (place : Place) → are.place ticket ≡ place → are.place ticket ≡ Waits
        waiting_there Waits is = is
        waiting_there (With w) is = let none : get_or state.waiting ticket None ≡ None = are.waits ticket ∙ ap (λ p. waiting_at p (slice_get submissions ticket)) is in cc
        waiting_there Answered is = let none : get_or state.waiting ticket None ≡ None = are.waits ticket ∙ ap (λ p. waiting_at p (slice_get submissions ticket)) is in cc

        worker_of : {one other : ℕ} → With one ≡ With other → other ≡ one
        worker_of e = cc

  -- ---- a hand that holds something

  module _ (held : Holding) (at : get_or state.hands worker None ≡ Some held) where
    abbrev its_ticket : ℕ
    its_ticket = ticket_of held

    abbrev its_submission : Submission
    its_submission = submission_in held

    is_worker : worker < length state.hands
    is_worker = found_within state.hands worker held at

    there : are.place its_ticket ≡ With worker
    there = (are.holds worker held at).0

    its : slice_get submissions its_ticket ≡ Some its_submission
    its = (are.holds worker held at).1

    own : (other : Holding) → get_or state.hands worker None ≡ Some other → ticket_of other ≡ its_ticket
    own other found = ap ticket_of (same_held (sym found ∙ at))

    nothing_waits : get_or state.waiting its_ticket None ≡ None
    nothing_waits = are.waits its_ticket ∙ ap (λ p. waiting_at p (slice_get submissions its_ticket)) there

    unanswered : is_some (get_or state.replies its_ticket None) ≡ false
    unanswered = are.replied its_ticket ∙ ap is_answered there

    -- the hand is empty then
    emptied : (other : Holding) → get_or (set state.hands worker None) worker None ≡ Some other → ⊥
    emptied other found = let none = get_or-set_same state.hands worker None None is_worker in cc

    pub judge_in_place : (verdict : HeldVerdict) → verdict.submission ≡ its_submission → AreInPlace submissions (with_hand state worker (Some (Decided its_ticket verdict)))
    judge_in_place verdict same =
        let decided : Holding = Decided its_ticket verdict in
        gone_on submissions state (with_hand state worker (Some decided)) are its_ticket worker (With worker) (record {
          from = inr there;
          waiting_length = refl;
          replies_length = refl;
          other_waiting = λ other apart. refl;
          other_replies = λ other apart. refl;
          other_hands = λ other apart. get_or-set_other state.hands worker other (Some decided) None apart;
          own = own;
          waiting = nothing_waits;
          replied = unanswered;
          holds = λ h found.
              let is = same_held (sym (get_or-set_same state.hands worker (Some decided) None is_worker) ∙ found) in
              (refl, ap ticket_of (sym is), its ∙ ap Some (sym same) ∙ ap (λ h. Some (submission_in h)) is);
          with = λ other is. (worker_of is, decided, get_or-set_same state.hands worker (Some decided) None is_worker, refl);
        })
      where
        worker_of : {one other : ℕ} → With one ≡ With other → other ≡ one
        worker_of e = cc

    pub back_in_place : (returned : Submission) → returned ≡ its_submission → AreInPlace submissions (given_back state worker its_ticket returned)
    back_in_place returned same =
        let within : its_ticket < length state.waiting = subst (λ n. its_ticket < n) (sym are.waiting_length) (slice_get_within submissions its_ticket its_submission its) in
        gone_on submissions state (given_back state worker its_ticket returned) are its_ticket worker Waits (record {
          from = inr there;
          waiting_length = length-set state.waiting its_ticket (Some returned);
          replies_length = refl;
          other_waiting = λ other apart. get_or-set_other state.waiting its_ticket other (Some returned) None apart;
          other_replies = λ other apart. refl;
          other_hands = λ other apart. get_or-set_other state.hands worker other None None apart;
          own = own;
          waiting = get_or-set_same state.waiting its_ticket (Some returned) None within ∙ ap Some same ∙ sym its;
          replied = unanswered;
          holds = λ h found. absurd (emptied h found);
          with = λ other is. cc;
        })

    pub land_in_place : (desk : Desk) (reply : Reply) → AreInPlace submissions (record { desk = desk; waiting = state.waiting; hands = set state.hands worker None; replies = set state.replies its_ticket (Some reply) })
    land_in_place desk reply =
        let within : its_ticket < length state.replies = subst (λ n. its_ticket < n) (sym are.replies_length) (slice_get_within submissions its_ticket its_submission its) in
        gone_on submissions state (record { desk = desk; waiting = state.waiting; hands = set state.hands worker None; replies = set state.replies its_ticket (Some reply) }) are its_ticket worker Answered (record {
          from = inr there;
          waiting_length = refl;
          replies_length = length-set state.replies its_ticket (Some reply);
          other_waiting = λ other apart. refl;
          other_replies = λ other apart. get_or-set_other state.replies its_ticket other (Some reply) None apart;
          other_hands = λ other apart. get_or-set_other state.hands worker other None None apart;
          own = own;
          waiting = nothing_waits;
          replied = ap is_some (get_or-set_same state.replies its_ticket (Some reply) None within);
          holds = λ h found. absurd (emptied h found);
          with = λ other is. cc;
        })

-- ---- steps

module _ (submissions : List Submission) (state next : ScriptState) (are : AreInPlace submissions state) where
  same_state : next ≡ state → AreInPlace submissions next
  same_state is = subst (AreInPlace submissions) (sym is) are

  looks : (worker ticket : ℕ) (hand : Option (Option Holding)) (waits : Option Submission) → slice_get state.hands worker ≡ hand → get_or state.waiting ticket None ≡ waits → DoesLook state worker ticket hand waits next → AreInPlace submissions next
  looks worker ticket None waits at of is = same_state is
  looks worker ticket (Some (Some held)) waits at of is = same_state is
  looks worker ticket (Some None) None at of is = same_state is
  looks worker ticket (Some None) (Some submission) at of (inr is) = same_state is
  looks worker ticket (Some None) (Some submission) at of (inl is) = subst (AreInPlace submissions) (sym is) (look_in_place submissions state are worker ticket submission at of)

  judges : (worker : ℕ) (hand : Option Holding) → get_or state.hands worker None ≡ hand → DoesJudge state worker hand next → AreInPlace submissions next
  judges worker None at is = same_state is
  judges worker (Some (Decided ticket verdict)) at is = same_state is
  judges worker (Some (Taken ticket submission seen)) at (inl (verdict, on, is)) = subst (AreInPlace submissions) (sym is) (judge_in_place submissions state are worker (Taken ticket submission seen) at verdict on.submitted)
  judges worker (Some (Taken ticket submission seen)) at (inr is) = subst (AreInPlace submissions) (sym is) (back_in_place submissions state are worker (Taken ticket submission seen) at submission refl)

  lands : (worker : ℕ) (hand : Option Holding) → get_or state.hands worker None ≡ hand → DoesLand state worker hand next → AreInPlace submissions next
  lands worker None at is = same_state is
  lands worker (Some (Taken ticket submission seen)) at is = same_state is
  lands worker (Some (Decided ticket verdict)) at (inl landed) = subst (AreInPlace submissions) (sym landed.is) (land_in_place submissions state are worker (Decided ticket verdict) at next.desk landed.answer)
  lands worker (Some (Decided ticket verdict)) at (inr is) = subst (AreInPlace submissions) (sym is) (back_in_place submissions state are worker (Decided ticket verdict) at verdict.submission refl)

  asks : (desk : Desk) → next ≡ record state { desk = desk } → AreInPlace submissions next
  asks desk is = subst (AreInPlace submissions) (sym is) (record { place = are.place; waiting_length = are.waiting_length; replies_length = are.replies_length; waits = are.waits; replied = are.replied; holds = are.holds; with = are.with })

  pub step_in_place : (step : Step) → DoesStep state step next → AreInPlace submissions next
  step_in_place (steps.Look worker ticket) is = looks worker ticket (slice_get state.hands worker) (get_or state.waiting ticket None) refl refl is
  step_in_place (steps.Judge worker) is = judges worker (get_or state.hands worker None) refl is
  step_in_place (steps.Land worker) is = lands worker (get_or state.hands worker None) refl is
  step_in_place (steps.Act act) (inl asked) = asks next.desk asked.is
  step_in_place (steps.Act act) (inr is) = same_state is
  step_in_place (steps.Migrate moves) (inl asked) = asks next.desk asked.is
  step_in_place (steps.Migrate moves) (inr is) = same_state is

pub run_in_place : (submissions : List Submission) (state last : ScriptState) (script : List Step) → AreInPlace submissions state → DoesSteps state script last → AreInPlace submissions last
run_in_place submissions state last [] are is = subst (AreInPlace submissions) (sym is) are
run_in_place submissions state last (step ∷ script) are (next, does, runs) = run_in_place submissions next last script (step_in_place submissions state next are step does) runs

-- ---- at the end

-- a hand of another ticket gives nothing back under this one
pub kept_back : (hands : List (Option Holding)) (waiting : List (Option Submission)) (ticket : ℕ) → ((worker : ℕ) (held : Holding) → get_or hands worker None ≡ Some held → ticket_of held ≢ ticket)
    → get_or (all_returned hands waiting) ticket None ≡ get_or waiting ticket None
kept_back [] waiting ticket apart = refl
kept_back (hand ∷ hands) waiting ticket apart = kept_back hands (returned hand waiting) ticket (λ worker. apart (suc worker)) ∙ by hand (apart 0)
  where
    by : (hand : Option Holding) → ((held : Holding) → hand ≡ Some held → ticket_of held ≢ ticket) → get_or (returned hand waiting) ticket None ≡ get_or waiting ticket None
    by None other = refl
    by (Some (Taken t submission seen)) other = get_or-set_other waiting t ticket (Some submission) None (λ same. other (Taken t submission seen) refl (sym same))
    by (Some (Decided t verdict)) other = get_or-set_other waiting t ticket (Some verdict.submission) None (λ same. other (Decided t verdict) refl (sym same))

-- where each hand of the ticket holds this submission, it is left if it waits or a hand holds it
pub given_at_end : (hands : List (Option Holding)) (waiting : List (Option Submission)) (ticket : ℕ) (submission : Submission) → ticket < length waiting
    → ((worker : ℕ) (held : Holding) → get_or hands worker None ≡ Some held → ticket_of held ≡ ticket → submission_in held ≡ submission)
    → (get_or waiting ticket None ≡ Some submission) ⊎ ((worker : ℕ) × (held : Holding) × (get_or hands worker None ≡ Some held) × (ticket_of held ≡ ticket))
    → get_or (all_returned hands waiting) ticket None ≡ Some submission
given_at_end [] waiting ticket submission within own (inl waits) = waits
given_at_end [] waiting ticket submission within own (inr (worker, held, at, of)) = cc
given_at_end (hand ∷ hands) waiting ticket submission within own found = given_at_end hands (returned hand waiting) ticket submission (still hand) (λ worker. own (suc worker)) (on found)
  where
    still : (hand : Option Holding) → ticket < length (returned hand waiting)
    still None = within
    still (Some (Taken t other seen)) = subst (λ n. ticket < n) (sym (length-set waiting t (Some other))) within
    still (Some (Decided t verdict)) = subst (λ n. ticket < n) (sym (length-set waiting t (Some verdict.submission))) within

    -- the hand's submission waits under the hand's ticket
    put : (h : Option Holding) (held : Holding) → h ≡ Some held → ticket_of held ≡ ticket → get_or (returned h waiting) ticket None ≡ Some (submission_in held)
    put None held is of = cc
    put (Some (Taken t other seen)) held is of =
        let same = same_held is in
        let here : t ≡ ticket = ap ticket_of same ∙ of in
        subst (λ n. get_or (set waiting n (Some other)) ticket None ≡ Some (submission_in held)) (sym here) (get_or-set_same waiting ticket (Some other) None within ∙ ap (λ h. Some (submission_in h)) same)
    put (Some (Decided t verdict)) held is of =
        let same = same_held is in
        let here : t ≡ ticket = ap ticket_of same ∙ of in
        subst (λ n. get_or (set waiting n (Some verdict.submission)) ticket None ≡ Some (submission_in held)) (sym here) (get_or-set_same waiting ticket (Some verdict.submission) None within ∙ ap (λ h. Some (submission_in h)) same)

    waiting_on : (h : Option Holding) → hand ≡ h → get_or waiting ticket None ≡ Some submission → get_or (returned h waiting) ticket None ≡ Some submission
    waiting_on None is waits = waits
    waiting_on (Some held) is waits = by_equal (ticket_of held) ticket
        (λ of. put (Some held) held refl of ∙ ap Some (own 0 held is of))
        (λ apart. other held apart ∙ waits)
      where
        other : (h : Holding) → ticket_of h ≢ ticket → get_or (returned (Some h) waiting) ticket None ≡ get_or waiting ticket None
        other (Taken t s seen) apart = get_or-set_other waiting t ticket (Some s) None (λ same. apart (sym same))
        other (Decided t verdict) apart = get_or-set_other waiting t ticket (Some verdict.submission) None (λ same. apart (sym same))

    on : (get_or waiting ticket None ≡ Some submission) ⊎ ((worker : ℕ) × (held : Holding) × (get_or (hand ∷ hands) worker None ≡ Some held) × (ticket_of held ≡ ticket))
        → (get_or (returned hand waiting) ticket None ≡ Some submission) ⊎ ((worker : ℕ) × (held : Holding) × (get_or hands worker None ≡ Some held) × (ticket_of held ≡ ticket))
    on (inl waits) = inl (waiting_on hand refl waits)
    on (inr (zero, held, at, of)) = inl (put hand held at of ∙ ap Some (own 0 held at of))
    on (inr (suc worker, held, at, of)) = inr (worker, held, at, of)
