-- What the replies of a script's run say.
use Rattle.std.proofs.Common.{◌≡◌, ℕ, ◌+◌, ◌<◌, List, [], ◌∷◌, length, take, get_or, ◌⊎◌, inl, inr, Option, Some, None, is_some, true, false, refl, sym, ap, subst, ◌∙◌}
use Rattle.std.specs.List.{slice_get}
use Rattle.std.proofs.lemmas.Option.{slice_get_within}
use Rattle.kfs_model.specs.Judgement.{State, Submission}
use Rattle.kfs_model.specs.Machine.{after}
use Rattle.kfs_desk.specs.History.Legal.{IsLegalDocket}
use Rattle.kfs_desk.specs.declared.history.answers.Reply.{Reply}
use Rattle.kfs_desk.specs.declared.history.answers.Reply.TheVariants as answers
use Rattle.kfs_desk.specs.Docket.{position_of}
use Rattle.kfs_desk.specs.Machine.{AreShown, Desk, AnswerMeans}
use Rattle.kfs_workers.specs.Claims.{AreSettled, AtReply, EachReply, ElseChangesNothing, GoesOnFrom, HasAllowedEntries, IsSettled, ShowsItsEntries, StandsAt}
use Rattle.kfs_workers.specs.Script.{Holding, IsRun, all_returned, begun}
use Rattle.kfs_workers.specs.declared.script.Step.{Step}
use Rattle.kfs_workers.proofs.Places.{AreInPlace, Place, Waits, With, Answered, in_place_at_first, is_answered, submission_in, ticket_of, waiting_at}
use Rattle.kfs_workers.proofs.Replies.{AreStanding, run_stands, stands_at_first}
use Rattle.kfs_workers.proofs.Settled.{given_at_end, kept_back}

module _ (desk last : Desk) (submissions : List Submission) (script : List Step) (replies : List (Option Reply)) (left : List (Option Submission)) (run : IsRun desk submissions script replies left last)
    (legal : IsLegalDocket desk.opening desk.docket desk.state) where
  both : AreInPlace submissions run.state × AreStanding desk submissions run.state
  both = run_stands desk submissions (begun desk submissions) run.state script (in_place_at_first desk submissions) (stands_at_first desk submissions legal) run.runs

  -- ---- the desk at the end

  pub goes_on : GoesOnFrom desk last
  goes_on = subst (GoesOnFrom desk) (sym run.ends) both.1.on

  -- ---- each ticket is answered once or left

  -- what holds of the state's lists holds of what came out
  replies_are : (ticket : ℕ) → get_or replies ticket None ≡ get_or run.state.replies ticket None
  replies_are ticket = ap (λ l. get_or l ticket None) run.replied

  left_is : (ticket : ℕ) → get_or left ticket None ≡ get_or (all_returned run.state.hands run.state.waiting) ticket None
  left_is ticket = ap (λ l. get_or l ticket None) run.remains

  settled_at : (ticket : ℕ) (submission : Submission) → slice_get submissions ticket ≡ Some submission → IsSettled last submission (get_or run.state.replies ticket None) (get_or (all_returned run.state.hands run.state.waiting) ticket None)
  settled_at ticket submission of = by (both.0.place ticket) refl (get_or run.state.replies ticket None) refl
    where
      own : (worker : ℕ) (held : Holding) → get_or run.state.hands worker None ≡ Some held → ticket_of held ≡ ticket → submission_in held ≡ submission
      own worker held at its = one (sym (both.0.holds worker held at).1 ∙ ap (slice_get submissions) its ∙ of)
        where
          one : {a b : Submission} → Some a ≡ Some b → a ≡ b
          one e = cc

      within : ticket < length run.state.waiting
      within = subst (λ n. ticket < n) (sym both.0.waiting_length) (slice_get_within submissions ticket submission of)

      left_there : (get_or run.state.waiting ticket None ≡ Some submission) ⊎ ((worker : ℕ) × (held : Holding) × (get_or run.state.hands worker None ≡ Some held) × (ticket_of held ≡ ticket))
          → get_or (all_returned run.state.hands run.state.waiting) ticket None ≡ Some submission
      left_there = given_at_end run.state.hands run.state.waiting ticket submission within own

      by : (at : Place) → both.0.place ticket ≡ at → (reply : Option Reply) → get_or run.state.replies ticket None ≡ reply → IsSettled last submission reply (get_or (all_returned run.state.hands run.state.waiting) ticket None)
      by Waits at None none = left_there (inl (both.0.waits ticket ∙ ap (λ p. waiting_at p (slice_get submissions ticket)) at ∙ of))
      by (With worker) at None none = let (held, at_hand, its) = both.0.with ticket worker at in left_there (inr (worker, held, at_hand, its))
      by Answered at None none = let yes : is_some (get_or run.state.replies ticket None) ≡ true = both.0.replied ticket ∙ ap is_answered at in cc
      by Waits at (Some reply) is = let no : is_some (get_or run.state.replies ticket None) ≡ false = both.0.replied ticket ∙ ap is_answered at in cc
      by (With worker) at (Some reply) is = let no : is_some (get_or run.state.replies ticket None) ≡ false = both.0.replied ticket ∙ ap is_answered at in cc
      by Answered at (Some reply) is =
          let stands = both.1.stands ticket submission reply of is in (
            kept_back run.state.hands run.state.waiting ticket (λ worker held found its. not_with (sym at ∙ ap both.0.place (sym its) ∙ (both.0.holds worker held found).0)) ∙ both.0.waits ticket ∙ ap (λ p. waiting_at p (slice_get submissions ticket)) at,
            subst (λ (d : Desk). AtReply d submission reply (λ before after_it. Unit {0})) (sym run.ends) (stands.before, stands.after_it, stands.at, tt),
          )
        where
          not_with : {worker : ℕ} → Answered ≡ With worker → ⊥
          not_with e = cc

  pub settled : AreSettled last submissions replies left
  settled = record {
    each = λ ticket submission of. subst (λ reply. IsSettled last submission reply (get_or left ticket None)) (sym (replies_are ticket)) (subst (λ s. IsSettled last submission (get_or run.state.replies ticket None) s) (sym (left_is ticket)) (settled_at ticket submission of));
    apart = λ one other first second at also. both.1.apart one other first second (sym (replies_are one) ∙ at) (sym (replies_are other) ∙ also);
  }

  -- ---- what the replies did

  -- what follows from a reply's meaning, and from where the docket leads with its row
  each_by : (P : Submission → Reply → (before after_it : State) → Type 0)
      → ((submission : Submission) (reply : Reply) (before after_it : State) → after last.opening (take (position_of reply + 1) last.docket) ≡ Some after_it → AnswerMeans before submission reply after_it → P submission reply before after_it)
      → EachReply last submissions replies P
  each_by P follows ticket submission reply of at =
      let stands = both.1.stands ticket submission reply of (sym (replies_are ticket) ∙ at) in
      let there = subst (λ (d : Desk). StandsAt d submission reply stands.before stands.after_it) (sym run.ends) stands.at in
      (stands.before, stands.after_it, there, follows submission reply stands.before stands.after_it there.leads stands.means)

  pub shows : AreShown last.opening last.docket → EachReply last submissions replies ShowsItsEntries
  shows shown = each_by ShowsItsEntries by
    where
      by : (submission : Submission) (reply : Reply) (before after_it : State) → after last.opening (take (position_of reply + 1) last.docket) ≡ Some after_it → AnswerMeans before submission reply after_it → ShowsItsEntries submission reply before after_it
      by submission (answers.Yes position rejudged need) before after_it leads is =
          (shown (position + 1) after_it leads, record { client = is.done.client; row = is.done.row; log = is.done.log; spelled = is.done.spelled; holds = is.done.holds.1 })
      by submission (answers.No position rejudged fault) before after_it leads is = tt
      by submission (answers.NoRoom position rejudged need free) before after_it leads is = tt

  pub all_allowed : EachReply last submissions replies HasAllowedEntries
  all_allowed = each_by HasAllowedEntries by
    where
      by : (submission : Submission) (reply : Reply) (before after_it : State) → after last.opening (take (position_of reply + 1) last.docket) ≡ Some after_it → AnswerMeans before submission reply after_it → HasAllowedEntries submission reply before after_it
      by submission (answers.Yes position rejudged need) before after_it leads is =
          record { client = is.done.client; row = is.done.row; log = is.done.log; spelled = is.done.spelled; holds = is.done.holds.0 }
      by submission (answers.No position rejudged fault) before after_it leads is = tt
      by submission (answers.NoRoom position rejudged need free) before after_it leads is = tt

  pub else_nothing : EachReply last submissions replies ElseChangesNothing
  else_nothing = each_by ElseChangesNothing by
    where
      by : (submission : Submission) (reply : Reply) (before after_it : State) → after last.opening (take (position_of reply + 1) last.docket) ≡ Some after_it → AnswerMeans before submission reply after_it → ElseChangesNothing submission reply before after_it
      by submission (answers.Yes position rejudged need) before after_it leads is = tt
      by submission (answers.No position rejudged fault) before after_it leads is = is
      by submission (answers.NoRoom position rejudged need free) before after_it leads is = is
