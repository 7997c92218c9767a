-- Where each submission of a script is: it waits, a worker has it, or it is answered.
use Rattle.std.proofs.Common.{◌≡◌, ◌≢◌, ℕ, zero, suc, ◌<◌, ◌==◌, Bool, true, false, cond, List, [], ◌∷◌, length, map, get_or, ◌⊎◌, inl, inr, Option, Some, None, is_some, refl, sym, ap, subst, ◌∙◌, arith}
use Rattle.std.specs.Prelude.{replicate}
use native.Mathlib.Decide.{ℕ_discrete}
use Rattle.std.specs.List.{slice_get}
use Rattle.std.proofs.lemmas.Bool.{eqb-true, eq-eqb}
use Rattle.std.proofs.lemmas.List.{length-map}
use Rattle.kfs_model.specs.Judgement.{Submission}
use Rattle.kfs_desk.specs.Machine.{Desk}
use Rattle.kfs_workers.specs.Script.{Holding, Taken, Decided, ScriptState, begun}

-- ---- lists of what there may be

-- what is found isn't behind the end
pub found_within : {X : Type 0} (xs : List (Option X)) (i : ℕ) (x : X) → get_or xs i None ≡ Some x → i < length xs
found_within [] i x is = cc
found_within (y ∷ ys) zero x is = omega arith
found_within (y ∷ ys) (suc i) x is = let before = found_within ys i x is in omega arith

-- numbers are equal or not
pub by_equal : {P : Type 0} (one other : ℕ) → (one ≡ other → P) → (one ≢ other → P) → P
by_equal {P} one other same apart = by (ℕ_discrete one other)
  where
    by : Dec (one ≡ other) → P
    by (yes is) = same is
    by (no is) = apart is

-- ---- places

pub data Place : Type 0 where
  Waits : Place
  With : (worker : ℕ) → Place
  Answered : Place

-- the ticket is at this place, and the others are where they were
pub moved : (ℕ → Place) → (ticket : ℕ) → Place → ℕ → Place
moved place ticket new other = cond (other == ticket) new (place other)

pub moved-same : (place : ℕ → Place) (ticket : ℕ) (new : Place) → moved place ticket new ticket ≡ new
unfolding moved
moved-same place ticket new = by (ticket == ticket) refl
  where
    by : (same : Bool) → (ticket == ticket) ≡ same → cond same new (place ticket) ≡ new
    by true is = refl
    by false is = cc (eq-eqb ticket ticket refl)

pub moved-other : (place : ℕ → Place) (ticket other : ℕ) (new : Place) → other ≢ ticket → moved place ticket new other ≡ place other
unfolding moved
moved-other place ticket other new apart = by (other == ticket) refl
  where
    by : (same : Bool) → (other == ticket) ≡ same → cond same new (place other) ≡ place other
    by true is = absurd (apart (eqb-true other ticket is))
    by false is = refl

abbrev pub ticket_of : Holding → ℕ
ticket_of (Taken ticket submission seen) = ticket
ticket_of (Decided ticket verdict) = ticket

abbrev pub submission_in : Holding → Submission
submission_in (Taken ticket submission seen) = submission
submission_in (Decided ticket verdict) = verdict.submission

-- what waits under a ticket at this place
abbrev pub waiting_at : Place → Option Submission → Option Submission
waiting_at Waits submission = submission
waiting_at (With worker) submission = None
waiting_at Answered submission = None

abbrev pub is_answered : Place → Bool
is_answered Waits = false
is_answered (With worker) = false
is_answered Answered = true

-- each submission has one place, and stands just there
pub record AreInPlace (submissions : List Submission) (state : ScriptState) : Type 0 where
  pub place : ℕ → Place
  pub waiting_length : length state.waiting ≡ length submissions
  pub replies_length : length state.replies ≡ length submissions
  pub waits : (ticket : ℕ) → get_or state.waiting ticket None ≡ waiting_at (place ticket) (slice_get submissions ticket)
  pub replied : (ticket : ℕ) → is_some (get_or state.replies ticket None) ≡ is_answered (place ticket)
  pub holds : (worker : ℕ) (held : Holding) → get_or state.hands worker None ≡ Some held → (place (ticket_of held) ≡ With worker) × (slice_get submissions (ticket_of held) ≡ Some (submission_in held))
  pub with : (ticket worker : ℕ) → place ticket ≡ With worker → (held : Holding) × (get_or state.hands worker None ≡ Some held) × (ticket_of held ≡ ticket)

-- ---- at first

none_of : {X : Type 0} (count i : ℕ) → get_or (replicate {A = Option X} count None) i None ≡ None
none_of zero i = refl
none_of (suc count) zero = refl
none_of (suc count) (suc i) = none_of count i

pub none_each : {X Y : Type 0} (xs : List X) (i : ℕ) → get_or (map {B = Option Y} (λ x. None) xs) i None ≡ None
none_each [] i = refl
none_each (x ∷ xs) zero = refl
none_each (x ∷ xs) (suc i) = none_each xs i

some_each : {X : Type 0} (xs : List X) (i : ℕ) → get_or (map Some xs) i None ≡ slice_get xs i
some_each [] i = refl
some_each (x ∷ xs) zero = refl
some_each (x ∷ xs) (suc i) = some_each xs i

pub in_place_at_first : (desk : Desk) (submissions : List Submission) → AreInPlace submissions (begun desk submissions)
in_place_at_first desk submissions = record {
  place = λ ticket. Waits;
  waiting_length = length-map submissions Some;
  replies_length = length-map submissions (λ submission. None);
  waits = λ ticket. some_each submissions ticket;
  replied = λ ticket. ap is_some (none_each submissions ticket);
  holds = λ worker held at. let none = none_of {X = Holding} 8 worker in cc;
  with = λ ticket worker at. cc;
}

-- ---- a ticket goes on to another place

-- the ticket of a worker's hand goes to this place, and all else stands where it stood
pub record Goes (submissions : List Submission) (state next : ScriptState) (place : ℕ → Place) (ticket worker : ℕ) (new : Place) : Type 0 where
  pub from : (place ticket ≡ Waits) ⊎ (place ticket ≡ With worker)
  pub waiting_length : length next.waiting ≡ length state.waiting
  pub replies_length : length next.replies ≡ length state.replies
  pub other_waiting : (other : ℕ) → other ≢ ticket → get_or next.waiting other None ≡ get_or state.waiting other None
  pub other_replies : (other : ℕ) → other ≢ ticket → get_or next.replies other None ≡ get_or state.replies other None
  pub other_hands : (other : ℕ) → other ≢ worker → get_or next.hands other None ≡ get_or state.hands other None
  pub own : (held : Holding) → get_or state.hands worker None ≡ Some held → ticket_of held ≡ ticket
  pub waiting : get_or next.waiting ticket None ≡ waiting_at new (slice_get submissions ticket)
  pub replied : is_some (get_or next.replies ticket None) ≡ is_answered new
  pub holds : (held : Holding) → get_or next.hands worker None ≡ Some held → (new ≡ With worker) × (ticket_of held ≡ ticket) × (slice_get submissions ticket ≡ Some (submission_in held))
  pub with : (other : ℕ) → new ≡ With other → (other ≡ worker) × (held : Holding) × (get_or next.hands worker None ≡ Some held) × (ticket_of held ≡ ticket)

module _ (submissions : List Submission) (state next : ScriptState) (are : AreInPlace submissions state) (ticket worker : ℕ) (new : Place) (goes : Goes submissions state next are.place ticket worker new) where
  -- another worker doesn't hold it
  not_held : (other : ℕ) → other ≢ worker → are.place ticket ≢ With other
  not_held other apart there = by goes.from
    where
      by : (are.place ticket ≡ Waits) ⊎ (are.place ticket ≡ With worker) → ⊥
      by (inl waits) = cc
      by (inr with) = apart (worker_of (sym there ∙ with))
        where
          worker_of : {one other : ℕ} → With one ≡ With other → one ≡ other
          worker_of e = cc

  now : ℕ → Place
  now = moved are.place ticket new

  pub gone_on : AreInPlace submissions next
  unfolding now
  gone_on = record {
    place = now;
    waiting_length = goes.waiting_length ∙ are.waiting_length;
    replies_length = goes.replies_length ∙ are.replies_length;
    waits = λ other. by_equal other ticket
        (λ same. subst (λ t. get_or next.waiting t None ≡ waiting_at (now t) (slice_get submissions t)) (sym same) (subst (λ at. get_or next.waiting ticket None ≡ waiting_at at (slice_get submissions ticket)) (sym (moved-same are.place ticket new)) goes.waiting))
        (λ apart. subst (λ at. get_or next.waiting other None ≡ waiting_at at (slice_get submissions other)) (sym (moved-other are.place ticket other new apart)) (goes.other_waiting other apart ∙ are.waits other));
    replied = λ other. by_equal other ticket
        (λ same. subst (λ t. is_some (get_or next.replies t None) ≡ is_answered (now t)) (sym same) (goes.replied ∙ ap is_answered (sym (moved-same are.place ticket new))))
        (λ apart. ap is_some (goes.other_replies other apart) ∙ are.replied other ∙ ap is_answered (sym (moved-other are.place ticket other new apart)));
    holds = λ other held at. by_equal other worker
        (λ same.
        let (is, of, submission) = goes.holds held (subst (λ w. get_or next.hands w None ≡ Some held) same at) in (
          ap now of ∙ moved-same are.place ticket new ∙ is ∙ ap With (sym same),
          ap (slice_get submissions) of ∙ submission,
        ))
        (λ apart.
        let (there, submission) = are.holds other held (sym (goes.other_hands other apart) ∙ at) in
        let not_this : ticket_of held ≢ ticket = λ same. not_held other apart (ap are.place (sym same) ∙ there) in
        (moved-other are.place ticket (ticket_of held) new not_this ∙ there, submission));
    with = λ of other at. by_equal of ticket
        (λ same.
        let (is, held, at_hand, its) = goes.with other (sym (moved-same are.place ticket new) ∙ ap now (sym same) ∙ at) in
        (held, subst (λ w. get_or next.hands w None ≡ Some held) (sym is) at_hand, its ∙ sym same))
        (λ apart.
        let (held, at_hand, its) = are.with of other (sym (moved-other are.place ticket of new apart) ∙ at) in
        let not_worker : other ≢ worker = λ same. apart (sym its ∙ goes.own held (subst (λ w. get_or state.hands w None ≡ Some held) same at_hand)) in
        (held, goes.other_hands other not_worker ∙ at_hand, its));
  }
