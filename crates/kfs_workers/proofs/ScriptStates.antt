-- The code's lists of a script as the definitions have them, after each step.
use Rattle.std.proofs.Common.{◌≡◌, ◌≢◌, ℕ, zero, suc, ◌<◌, List, [], ◌∷◌, length, map, get_or, set, inl, inr, Option, Some, None, option_map, IsFalse, ◌↔◌, refl, sym, ap, subst, ◌∙◌}
use Rattle.std.specs.Prelude.{replicate}
use Rattle.std.specs.List.{slice_get}
use Rattle.std.proofs.Math.ListN.{get_or-map}
use Rattle.std.proofs.lemmas.List.{map-set, set-get_or}
use Rattle.std.proofs.lemmas.Option.{slice_get-get_or}
use Rattle.kfs_model.specs.Judgement.{State}
use Rattle.kfs_plan.specs.Judged.{Judged}
use Rattle.kfs_plan.specs.Judging.{submission_of}
use Rattle.kfs_desk.specs.declared.history.answers.Reply.{Reply}
use Rattle.kfs_plan.specs.declared.submission.Submission.{Submission as CodeSubmission}
use Rattle.kfs_desk.specs.Docket.{is_rejudged}
use Rattle.kfs_desk.specs.Machine.{Desk, IsAnswered, IsCurrent}
use Rattle.kfs_workers.specs.Holding.{held_of}
use Rattle.kfs_desk.specs.Verdict.Verdict.{IsVerdictOn, verdict_of}
use Rattle.kfs_workers.specs.Script.{DoesJudge, DoesLand, DoesLook, ScriptState, Taken, Decided, begun, returned}
use Rattle.kfs_workers.specs.declared.script_state.Holding.{Holding as CodeHeld}
use Rattle.kfs_workers.specs.declared.script_state.Holding.TheVariants as holdings
use Rattle.kfs_desk.proofs.VerdictLemmas.Verdicts.{lands_verdict}

-- a second store at one place is the only one
set-twice : {X : Type 0} (xs : List X) (i : ℕ) (x y : X) → set (set xs i x) i y ≡ set xs i y
set-twice [] i x y = refl
set-twice (z ∷ xs) zero x y = refl
set-twice (z ∷ xs) (suc i) x y = ap (λ l. z ∷ l) (set-twice xs i x y)

module _ {A : Type 0} (desk : Desk) (waiting : List (Option (CodeSubmission A))) (hands : List (Option (CodeHeld A))) (replies : List (Option Reply)) where
  -- these lists in the definitions
  abbrev pub script_state_of : ScriptState
  script_state_of = record { desk = desk; waiting = map (option_map submission_of) waiting; hands = map (option_map held_of) hands; replies = replies }

  module _ (worker : ℕ) (hand : Option (CodeHeld A)) (at : hand ≡ get_or hands worker None) where
    -- what the worker holds
    shown_hand : option_map held_of hand ≡ get_or script_state_of.hands worker None
    shown_hand = ap (option_map held_of) at ∙ sym (get_or-map (option_map held_of) hands worker None)

    module _ (new_hands : List (Option (CodeHeld A))) where
      -- what was taken out and put in again, or another thing for it
      shown_put : (left_hands : List (Option (CodeHeld A))) (other : Option (CodeHeld A)) → left_hands ≡ set hands worker None → new_hands ≡ set left_hands worker other → map (option_map held_of) new_hands ≡ set script_state_of.hands worker (option_map held_of other)
      shown_put left_hands other left put = ap (map (option_map held_of)) (put ∙ ap (λ l. set l worker other) left ∙ set-twice hands worker None other) ∙ map-set (option_map held_of) hands worker other

      shown_taken : new_hands ≡ set hands worker None → map (option_map held_of) new_hands ≡ set script_state_of.hands worker None
      shown_taken is = ap (map (option_map held_of)) is ∙ map-set (option_map held_of) hands worker None

      same_state : (left_hands : List (Option (CodeHeld A))) (other : Option (CodeHeld A)) → hand ≡ other → left_hands ≡ set hands worker None → new_hands ≡ set left_hands worker other → record script_state_of { hands = map (option_map held_of) new_hands } ≡ script_state_of
      same_state left_hands other is left put =
          ap (λ h. record script_state_of { hands = map (option_map held_of) h }) (put ∙ ap (λ l. set l worker other) left ∙ set-twice hands worker None other ∙ ap (set hands worker) (sym is ∙ at) ∙ set-get_or hands worker None)

      none_taken : hand ≡ None → new_hands ≡ set hands worker None → record script_state_of { hands = map (option_map held_of) new_hands } ≡ script_state_of
      none_taken none is = ap (λ h. record script_state_of { hands = map (option_map held_of) h }) (is ∙ ap (set hands worker) (sym none ∙ at) ∙ set-get_or hands worker None)

    module _ (ticket : ℕ) where
      shown_back : (new_waiting : List (Option (CodeSubmission A))) (submission : CodeSubmission A) → new_waiting ≡ set waiting ticket (Some submission) → map (option_map submission_of) new_waiting ≡ set script_state_of.waiting ticket (Some (submission_of submission))
      shown_back new_waiting submission is = ap (map (option_map submission_of)) is ∙ map-set (option_map submission_of) waiting ticket (Some submission)

      -- ---- a judgement

      module _ (submission : CodeSubmission A) (seen : State) (taken_is : hand ≡ Some (holdings.Taken ticket submission seen)) where
        in_hand : Some (Taken ticket (submission_of submission) seen) ≡ get_or script_state_of.hands worker None
        in_hand = ap (option_map held_of) (sym taken_is) ∙ shown_hand

        pub judged_so : (judged : Judged A) (left_hands new_hands : List (Option (CodeHeld A))) → IsVerdictOn seen (submission_of submission) (verdict_of judged) → left_hands ≡ set hands worker None → new_hands ≡ set left_hands worker (Some (holdings.Decided ticket judged))
            → DoesJudge script_state_of worker (get_or script_state_of.hands worker None) (record script_state_of { hands = map (option_map held_of) new_hands })
        judged_so judged left_hands new_hands on left put =
            subst (λ h. DoesJudge script_state_of worker h (record script_state_of { hands = map (option_map held_of) new_hands })) in_hand
            (inl (verdict_of judged, on, ap (λ h. record script_state_of { hands = h }) (shown_put new_hands left_hands (Some (holdings.Decided ticket judged)) left put)))

        pub not_judged : (back : CodeSubmission A) (new_hands : List (Option (CodeHeld A))) (new_waiting : List (Option (CodeSubmission A))) → back ≡ submission → new_hands ≡ set hands worker None → new_waiting ≡ set waiting ticket (Some back)
            → DoesJudge script_state_of worker (get_or script_state_of.hands worker None) (record script_state_of { waiting = map (option_map submission_of) new_waiting; hands = map (option_map held_of) new_hands })
        not_judged back new_hands new_waiting same left put =
            subst (λ h. DoesJudge script_state_of worker h (record script_state_of { waiting = map (option_map submission_of) new_waiting; hands = map (option_map held_of) new_hands })) in_hand
            (inr (ap (λ w. record script_state_of { waiting = w; hands = map (option_map held_of) new_hands }) (shown_back new_waiting submission (put ∙ ap (λ b. set waiting ticket (Some b)) same))
            ∙ ap (λ h. record script_state_of { waiting = set script_state_of.waiting ticket (Some (submission_of submission)); hands = h }) (shown_taken new_hands left)))

        pub not_landed_yet : (left_hands new_hands : List (Option (CodeHeld A))) → left_hands ≡ set hands worker None → new_hands ≡ set left_hands worker (Some (holdings.Taken ticket submission seen)) → DoesLand script_state_of worker (get_or script_state_of.hands worker None) (record script_state_of { hands = map (option_map held_of) new_hands })
        not_landed_yet left_hands new_hands left put =
            subst (λ h. DoesLand script_state_of worker h (record script_state_of { hands = map (option_map held_of) new_hands })) in_hand (same_state new_hands left_hands (Some (holdings.Taken ticket submission seen)) taken_is left put)

      -- ---- a landing

      module _ (judged : Judged A) (decided_is : hand ≡ Some (holdings.Decided ticket judged)) where
        decided_in_hand : Some (Decided ticket (verdict_of judged)) ≡ get_or script_state_of.hands worker None
        decided_in_hand = ap (option_map held_of) (sym decided_is) ∙ shown_hand

        pub judged_already : (left_hands new_hands : List (Option (CodeHeld A))) → left_hands ≡ set hands worker None → new_hands ≡ set left_hands worker (Some (holdings.Decided ticket judged)) → DoesJudge script_state_of worker (get_or script_state_of.hands worker None) (record script_state_of { hands = map (option_map held_of) new_hands })
        judged_already left_hands new_hands left put =
            subst (λ h. DoesJudge script_state_of worker h (record script_state_of { hands = map (option_map held_of) new_hands })) decided_in_hand (same_state new_hands left_hands (Some (holdings.Decided ticket judged)) decided_is left put)

        pub landed_so : (new_desk : Desk) (reply : Reply) (new_hands : List (Option (CodeHeld A))) (new_replies : List (Option Reply)) → length desk.docket ≢ desk.limit
            → ◌↔◌ (IsFalse (is_rejudged reply)) (IsCurrent desk.state judged) → IsAnswered desk (submission_of judged.submission) (is_rejudged reply) reply new_desk
            → new_hands ≡ set hands worker None → new_replies ≡ set replies ticket (Some reply)
            → DoesLand script_state_of worker (get_or script_state_of.hands worker None) (record { desk = new_desk; waiting = script_state_of.waiting; hands = map (option_map held_of) new_hands; replies = new_replies })
        landed_so new_desk reply new_hands new_replies room again answered left put =
            subst (λ h. DoesLand script_state_of worker h (record { desk = new_desk; waiting = script_state_of.waiting; hands = map (option_map held_of) new_hands; replies = new_replies })) decided_in_hand
            (inl (record {
              answer = reply;
              landed = lands_verdict desk new_desk judged reply room again answered;
              is = ap (λ h. record { desk = new_desk; waiting = script_state_of.waiting; hands = h; replies = new_replies }) (shown_taken new_hands left) ∙ ap (λ r. record { desk = new_desk; waiting = script_state_of.waiting; hands = set script_state_of.hands worker None; replies = r }) put;
            }))

        pub not_landed : (new_desk : Desk) (back : CodeSubmission A) (new_hands : List (Option (CodeHeld A))) (new_waiting : List (Option (CodeSubmission A))) → new_desk ≡ desk → back ≡ judged.submission
            → new_hands ≡ set hands worker None → new_waiting ≡ set waiting ticket (Some back)
            → DoesLand script_state_of worker (get_or script_state_of.hands worker None) (record { desk = new_desk; waiting = map (option_map submission_of) new_waiting; hands = map (option_map held_of) new_hands; replies = replies })
        not_landed new_desk back new_hands new_waiting stays same left put =
            subst (λ h. DoesLand script_state_of worker h (record { desk = new_desk; waiting = map (option_map submission_of) new_waiting; hands = map (option_map held_of) new_hands; replies = replies })) decided_in_hand
            (inr (ap (λ d. record { desk = d; waiting = map (option_map submission_of) new_waiting; hands = map (option_map held_of) new_hands; replies = replies }) stays
            ∙ ap (λ w. record script_state_of { waiting = w; hands = map (option_map held_of) new_hands }) (shown_back new_waiting judged.submission (put ∙ ap (λ b. set waiting ticket (Some b)) same))
            ∙ ap (λ h. record script_state_of { waiting = set script_state_of.waiting ticket (Some (submission_of judged.submission)); hands = h }) (shown_taken new_hands left)))

    -- ---- an empty hand

    empty_in_hand : hand ≡ None → None ≡ get_or script_state_of.hands worker None
    empty_in_hand none = ap (option_map held_of) (sym none) ∙ shown_hand

    pub nothing_judged : (new_hands : List (Option (CodeHeld A))) → hand ≡ None → new_hands ≡ set hands worker None → DoesJudge script_state_of worker (get_or script_state_of.hands worker None) (record script_state_of { hands = map (option_map held_of) new_hands })
    nothing_judged new_hands none is = subst (λ h. DoesJudge script_state_of worker h (record script_state_of { hands = map (option_map held_of) new_hands })) (empty_in_hand none) (none_taken new_hands none is)

    pub nothing_landed : (new_hands : List (Option (CodeHeld A))) → hand ≡ None → new_hands ≡ set hands worker None → DoesLand script_state_of worker (get_or script_state_of.hands worker None) (record script_state_of { hands = map (option_map held_of) new_hands })
    nothing_landed new_hands none is = subst (λ h. DoesLand script_state_of worker h (record script_state_of { hands = map (option_map held_of) new_hands })) (empty_in_hand none) (none_taken new_hands none is)

  -- ---- a look

  pub looked_so : (worker ticket : ℕ) (seen : State) (submission : CodeSubmission A) (result : Option (CodeSubmission A)) (new_waiting : List (Option (CodeSubmission A))) (new_hands : List (Option (CodeHeld A))) → seen ≡ desk.state
      → (worker < length script_state_of.hands) × (get_or script_state_of.hands worker None ≡ None) → result ≡ get_or waiting ticket None → result ≡ Some submission
      → new_waiting ≡ set waiting ticket None → new_hands ≡ set hands worker (Some (holdings.Taken ticket submission seen))
      → DoesLook script_state_of worker ticket (slice_get script_state_of.hands worker) (get_or script_state_of.waiting ticket None) (record script_state_of { waiting = map (option_map submission_of) new_waiting; hands = map (option_map held_of) new_hands })
  looked_so worker ticket seen submission result new_waiting new_hands now free at is left put =
      let next = record script_state_of { waiting = map (option_map submission_of) new_waiting; hands = map (option_map held_of) new_hands } in
      let empty : slice_get script_state_of.hands worker ≡ Some None = slice_get-get_or script_state_of.hands worker None free.0 ∙ ap Some free.1 in
      let waits : get_or script_state_of.waiting ticket None ≡ Some (submission_of submission) = get_or-map (option_map submission_of) waiting ticket None ∙ ap (option_map submission_of) (sym at ∙ is) in
      subst (λ hand. DoesLook script_state_of worker ticket hand (get_or script_state_of.waiting ticket None) next) (sym empty)
      (subst (λ waiting. DoesLook script_state_of worker ticket (Some None) waiting next) (sym waits)
      (inl (ap (λ w. record script_state_of { waiting = w; hands = map (option_map held_of) new_hands }) (ap (map (option_map submission_of)) left ∙ map-set (option_map submission_of) waiting ticket None)
      ∙ ap (λ h. record script_state_of { waiting = set script_state_of.waiting ticket None; hands = h }) (ap (map (option_map held_of)) put ∙ map-set (option_map held_of) hands worker (Some (holdings.Taken ticket submission seen))
      ∙ ap (λ state. set script_state_of.hands worker (Some (Taken ticket (submission_of submission) state))) now))))

-- ---- at first and at the end

-- what the definitions begin with, over the code's lists
pub begun_so : {A : Type 0} (desk : Desk) (submissions : List (CodeSubmission A)) → script_state_of desk (map Some submissions) (replicate 8 None) (replicate (length submissions) None) ≡ begun desk (map submission_of submissions)
begun_so {A} desk submissions =
    ap (λ waiting. record { desk = desk; waiting = waiting; hands = replicate 8 None; replies = replicate (length submissions) None }) (all_wait submissions)
    ∙ ap (λ replies. record { desk = desk; waiting = map Some (map submission_of submissions); hands = replicate 8 None; replies = replies }) (none_replied submissions)
  where
    all_wait : (xs : List (CodeSubmission A)) → map (option_map submission_of) (map Some xs) ≡ map Some (map submission_of xs)
    all_wait [] = refl
    all_wait (x ∷ xs) = ap (λ l. Some (submission_of x) ∷ l) (all_wait xs)

    none_replied : (xs : List (CodeSubmission A)) → replicate {A = Option Reply} (length xs) None ≡ map (λ submission. None) (map submission_of xs)
    none_replied [] = refl
    none_replied (x ∷ xs) = ap (λ l. None ∷ l) (none_replied xs)

-- what a hand gives back, in the definitions
pub returned_taken : {A : Type 0} (waiting new_waiting : List (Option (CodeSubmission A))) (hand : Option (CodeHeld A)) (held : CodeHeld A) (ticket : ℕ) (submission : CodeSubmission A) (seen : State) → hand ≡ Some held → held ≡ holdings.Taken ticket submission seen
    → new_waiting ≡ set waiting ticket (Some submission) → map (option_map submission_of) new_waiting ≡ returned (option_map held_of hand) (map (option_map submission_of) waiting)
returned_taken waiting new_waiting hand held ticket submission seen is of put =
    ap (map (option_map submission_of)) put ∙ map-set (option_map submission_of) waiting ticket (Some submission) ∙ ap (λ h. returned (option_map held_of h) (map (option_map submission_of) waiting)) (sym (is ∙ ap Some of))

pub returned_decided : {A : Type 0} (waiting new_waiting : List (Option (CodeSubmission A))) (hand : Option (CodeHeld A)) (held : CodeHeld A) (ticket : ℕ) (judged : Judged A) (submission : CodeSubmission A) → hand ≡ Some held → held ≡ holdings.Decided ticket judged → submission ≡ judged.submission
    → new_waiting ≡ set waiting ticket (Some submission) → map (option_map submission_of) new_waiting ≡ returned (option_map held_of hand) (map (option_map submission_of) waiting)
returned_decided waiting new_waiting hand held ticket judged submission is of same put =
    ap (map (option_map submission_of)) (put ∙ ap (λ s. set waiting ticket (Some s)) same) ∙ map-set (option_map submission_of) waiting ticket (Some judged.submission) ∙ ap (λ h. returned (option_map held_of h) (map (option_map submission_of) waiting)) (sym (is ∙ ap Some of))
