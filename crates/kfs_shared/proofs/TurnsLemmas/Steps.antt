-- Each kind of step keeps the rule of the turns, and tells what it says; so does the table when it is made. What is known of
-- its last state follows.
use Rattle.std.proofs.Common.{◌≡◌, ℕ, zero, suc, ◌+◌, ◌%◌, ◌<◌, ◌≤◌, eqb, ◌≢◌, ◌⊎◌, inl, inr, List, [], ◌∷◌, ◌++◌, length, get_or, set, sym, refl, ap, ◌∙◌, subst, ⊎_elim, arith, length-append, append_assoc, append-nil, Bool, true, false, mod-eq_of_lt}
use mathlib.Core.Logic.{dite}
use mathlib.Core.Option.{none, some, some-injective, some-ne-none}
use mathlib.Core.Option as maybe
use native.Mathlib.Decide.{ℕ_discrete}
use lib.ListN.{get_elem?}
use lib.Seq.{set-get_or}
use prog.Atomic.{either}
use Rattle.std.specs.Prelude.{Option, Some, None}
use Rattle.atomic_table.specs.Table.{State, Me, Act, Valid, step, keeps, takes, gives, stepped, Allows, Splits, Joins, opening as the_opening, carried_after, put_back, rest, Final, Seen}
use Rattle.atomic_table.proofs.Lists.{at_set, set_again, set_else, at_snoc, at_longer, exchanged}
use Rattle.kfs_shared.specs.Turns.Lists.{StartsWith, Has, AreDistinct}
use Rattle.kfs_shared.specs.Turns.Stages.{ticket, rows_out, HasTicket, HasCounted, IsServed, AreApart, after_count, at_stage, at_end, having_seen, having_counted, having_added, informed, having_met, used_up}
use Rattle.kfs_shared.specs.Turns.Told.{TellsTurn, TellsCount, TellsRow, TellsDocket, TellsTicket, TellsPassing}
use Rattle.kfs_shared.specs.Turns.Turns.{IsWith, IsAtStage, Fits, Lies, KeepsTurns, newcomer, HasEnded, IsUnreturned}
use Rattle.kfs_shared.proofs.TurnsLemmas.Lists.{starts_same, starts_trans}
use Rattle.kfs_shared.specs.declared.turns.known.Known.{Known}
use Rattle.kfs_shared.specs.declared.turns.known.Stage.{Stage}
use Rattle.kfs_shared.specs.declared.turns.known.Stage.TheVariants.{Idle, Waiting, Served}

module _ {D O W : Type 0} (opening : D → O) (rows : D → List W) (stands : D → Type 0) (start : O) (docket : List W) (next turn : ℕ) (homes : List (maybe.Option (Option D))) (seen : List W) where
  abbrev At : Stage D → Type 0
  At = IsAtStage opening rows stands start docket next turn homes seen

  -- a pass that is served has the turn as its ticket
  served_ticket : (st : Stage D) → IsServed st → At st → HasTicket st turn
  served_ticket Idle h k = absurd h
  served_ticket (Waiting t) h k = absurd h
  served_ticket (Served t d c) h k = k.0

  -- the object that is out has the docket
  out_is : (st : Stage D) → IsServed st → At st → rows_out rows st ≡ docket
  out_is Idle h k = absurd h
  out_is (Waiting t) h k = absurd h
  out_is (Served t d c) h k = k.2.kept

  -- once it has counted the rows, a pass has seen them all
  all_seen : (st : Stage D) → HasCounted st → At st → seen ≡ docket
  all_seen Idle h k = absurd h
  all_seen (Waiting t) h k = absurd h
  all_seen (Served t d c) h k = k.4 h

  -- while a pass is served, its ticket is the turn, which is below the next ticket, and the slot is empty
  is_served : (st : Stage D) → IsServed st → At st → (ticket st ≡ turn) × (turn < next) × (homes ≡ none ∷ [])
  is_served Idle h k = absurd h
  is_served (Waiting t) h k = absurd h
  is_served (Served t d c) h k = (k.0, k.1, k.3)

  -- a ticket is drawn and not passed
  below_next : (st : Stage D) (t : ℕ) → At st → HasTicket st t → (turn ≤ t) × (t < next)
  below_next Idle t k h = absurd h
  below_next (Waiting s) t k h = let a = k.0 in let b = k.1 in (omega arith, omega arith)
  below_next (Served s d c) t k h = let a = k.0 in let b = k.1 in (omega arith, omega arith)

  -- what another pass knows stays so, where it isn't served, and its ticket is not below the turn after
  stage_on : (docket' : List W) (next' turn' : ℕ) (homes' : List (maybe.Option (Option D))) (st : Stage D) → (IsServed st → ⊥) → next ≤ next' → ((t : ℕ) → HasTicket st t → turn' ≤ t)
      → At st → IsAtStage opening rows stands start docket' next' turn' homes' seen st
  stage_on docket' next' turn' homes' Idle not_out more late k = tt
  stage_on docket' next' turn' homes' (Waiting t) not_out more late k = let a = k.1 in (late t refl, omega arith)
  stage_on docket' next' turn' homes' (Served t d c) not_out more late k = absurd (not_out tt)

  -- what a pass knows stays so, where more tickets are drawn
  stage_more : (next' : ℕ) (st : Stage D) → next ≤ next' → At st → IsAtStage opening rows stands start docket next' turn homes seen st
  stage_more next' Idle more k = tt
  stage_more next' (Waiting t) more k = let a = k.1 in (k.0, omega arith)
  stage_more next' (Served t d c) more k = let a = k.1 in (k.0, omega arith, k.2, k.3, k.4)

  -- once it has counted them, a pass has seen the rows of the object that is out
  stage_counted : (st : Stage D) → IsServed st → At st → IsAtStage opening rows stands start docket next turn homes (rows_out rows st) (after_count st)
  stage_counted Idle h k = absurd h
  stage_counted (Waiting t) h k = absurd h
  stage_counted (Served t d c) h k = (k.0, k.1, k.2, k.3, λ _. k.2.kept)

  -- a pass that has seen all rows may have counted them
  stage_all : (st : Stage D) → At st → IsAtStage opening rows stands start docket next turn homes docket st
  stage_all Idle k = tt
  stage_all (Waiting t) k = k
  stage_all (Served t d c) k = (k.0, k.1, k.2, k.3, λ _. refl)

module _ {D : Type 0} where
  -- a pass that has counted the rows is served
  counted_served : (st : Stage D) → HasCounted st → IsServed st
  counted_served Idle h = absurd h
  counted_served (Waiting t) h = absurd h
  counted_served (Served t d c) h = tt

  -- counting changes no ticket
  same_tickets : (st : Stage D) (t : ℕ) → HasTicket (after_count st) t → HasTicket st t
  same_tickets Idle t h = h
  same_tickets (Waiting s) t h = h
  same_tickets (Served s d c) t h = h

  -- counting leaves a pass served
  still_served : (st : Stage D) → IsServed st → IsServed (after_count st)
  still_served Idle h = h
  still_served (Waiting s) h = h
  still_served (Served s d c) h = h

-- false is not true
OnFalse : Bool → Type 0
OnFalse false = Unit {0}
OnFalse true = ⊥

not_true : false ≡ true → ⊥
unfolding OnFalse
not_true e = subst OnFalse e tt

said_or : {A : Type 0} → A → Option A → A
said_or a None = a
said_or a (Some x) = x

-- two options that are the same hold the same
pub one_said : {A : Type 0} (a b : A) → Some a ≡ Some b → a ≡ b
unfolding said_or
one_said a b e = ap (said_or a) e

OnNone : {A : Type 0} → Option A → Type 0
OnNone None = Unit {0}
OnNone (Some x) = ⊥

-- None is no Some
pub none_said : {A : Type 0} (x : A) → None ≡ Some x → ⊥
unfolding OnNone
none_said x e = subst OnNone e tt

-- a list of one has one place
only_one : {A : Type 0} (a b : A) (i : ℕ) → get_elem? (a ∷ []) i ≡ some b → i ≡ 0
only_one a b zero e = refl
only_one a b (suc i) e = absurd (some-ne-none b (sym e))

-- what is found at a place of numbers is the number there
at_or : (l : List ℕ) (i a : ℕ) → get_elem? l i ≡ some a → a ≡ get_or l i 0
at_or [] i a e = absurd (some-ne-none a (sym e))
at_or (x ∷ xs) zero a e = sym (some-injective x a e)
at_or (x ∷ xs) (suc i) a e = at_or xs i a e

-- where a word behind the first three is set, these stay
set_behind : (a b c : ℕ) (others : List ℕ) (i n : ℕ) → 3 ≤ i → (others' : List ℕ) × (set (a ∷ b ∷ c ∷ others) i n ≡ a ∷ b ∷ c ∷ others')
set_behind a b c others zero n behind = absurd (omega arith)
set_behind a b c others (suc zero) n behind = absurd (omega arith)
set_behind a b c others (suc (suc zero)) n behind = absurd (omega arith)
set_behind a b c others (suc (suc (suc i))) n behind = (set others i n, refl)

-- a number that joins a list
has_snoc : (xs : List ℕ) (x k : ℕ) → Has (xs ++ x ∷ []) k → Has xs k ⊎ (x ≡ k)
has_snoc [] x k (inl e) = inr e
has_snoc [] x k (inr e) = absurd e
has_snoc (y ∷ ys) x k (inl e) = inl (inl e)
has_snoc (y ∷ ys) x k (inr h) = ⊎_elim (λ (t : Has ys k). inl (inr t)) (λ (t : x ≡ k). inr t) (has_snoc ys x k h)

-- a number of two lists is one of the first or of the second
has_append : (xs ys : List ℕ) (k : ℕ) → Has (xs ++ ys) k → Has xs k ⊎ Has ys k
has_append [] ys k h = inr h
has_append (x ∷ xs) ys k (inl e) = inl (inl e)
has_append (x ∷ xs) ys k (inr h) = ⊎_elim (λ (t : Has xs k). inl (inr t)) (λ (t : Has ys k). inr t) (has_append xs ys k h)

-- two lists of distinct numbers with no number in common are distinct together
distinct_append : (xs ys : List ℕ) → AreDistinct xs → AreDistinct ys → ((k : ℕ) → Has xs k → Has ys k → ⊥) → AreDistinct (xs ++ ys)
distinct_append [] ys a b n = b
distinct_append (x ∷ xs) ys a b n =
    (λ h. ⊎_elim (λ (t : Has xs x). a.0 t) (λ (t : Has ys x). n x (inl refl) t) (has_append xs ys x h), distinct_append xs ys a.1 b (λ k t u. n k (inr t) u))

-- a number that isn't there joins distinct ones
distinct_snoc : (xs : List ℕ) (y : ℕ) → AreDistinct xs → (Has xs y → ⊥) → AreDistinct (xs ++ y ∷ [])
distinct_snoc xs y a n = distinct_append xs (y ∷ []) a (λ h. absurd h, tt) (λ k t u. ⊎_elim (λ (e : y ≡ k). n (subst (Has xs) (sym e) t)) (λ (e : ⊥). absurd e) u)

module _ {O D W : Type 0} (opening : D → O) (rows : D → List W) (legal : O → List W → Type 0) (stands : D → Type 0) (key : D) where
  abbrev V : Type 0
  V = Known D O W

  abbrev St : Type 0
  St = State (Option D) V

  abbrev M : Type 0
  M = Me (Option D) V

  abbrev Rule : St → Type 0
  Rule = KeepsTurns opening rows legal stands key

  abbrev Homes : Type 0
  Homes = List (maybe.Option (Option D))

  abbrev F : List W → (next turn : ℕ) → Homes → V → Type 0
  F docket next turn homes v = Fits opening rows stands (opening key) docket next turn homes v

  abbrev S : List W → (next turn : ℕ) → Homes → (seen : List W) → Stage D → Type 0
  S docket next turn homes seen st = IsAtStage opening rows stands (opening key) docket next turn homes seen st

  abbrev L : List W → St → Type 0
  L docket s = Lies opening rows stands (opening key) docket s

  abbrev Goes : St → ℕ → ℕ → M → (ℕ → M → Type 0) → ℕ → Type 0
  Goes s i id me told n = (w : V) × (a : Act (Option D)) × Valid s.homes me.1 a × Rule (stepped s i n id me.1 w a) × told (get_or s.words i 0) (w, carried_after me.1 a)

  abbrev AllApart : List V → Type 0
  AllApart vs = (i j : ℕ) (u v : V) → i ≢ j → get_elem? vs i ≡ some u → get_elem? vs j ≡ some v → AreApart u v

  -- two passes are apart, from either side
  flip : (u v : V) → AreApart u v → AreApart v u
  flip u v a = (λ t x y. a.0 t y x, λ k x y. a.1 k y x)

  -- all passes stay apart where one of them changes and is apart from each other one
  apart_after : (vs : List V) (id : ℕ) (w : V) → AllApart vs → ((j : ℕ) (u : V) → j ≢ id → get_elem? vs j ≡ some u → AreApart w u) → AllApart (set vs id w)
  apart_after vs id w old mine i j u v ne a b =
      ⊎_elim
      (λ (p : (i ≡ id) × (w ≡ u)). ⊎_elim (λ (q : (j ≡ id) × (w ≡ v)). absurd (ne (p.0 ∙ sym q.0)))
      (λ (q : (j ≢ id) × (get_elem? vs j ≡ some v)). subst (λ (z : V). AreApart z v) p.1 (mine j v q.0 q.1)) (at_set vs id j w v b))
      (λ (p : (i ≢ id) × (get_elem? vs i ≡ some u)). ⊎_elim (λ (q : (j ≡ id) × (w ≡ v)). flip v u (subst (λ (z : V). AreApart z u) q.1 (mine i u p.0 p.1)))
      (λ (q : (j ≢ id) × (get_elem? vs j ≡ some v)). old i j u v ne p.1 q.1) (at_set vs id j w v b))
      (at_set vs id i w u a)

  -- a step of one seat
  moved : (s : St) (r : Rule s) (id : ℕ) (v w : V) (ws others' : List ℕ) (homes' : Homes) (docket' : List W) (next' turn' : ℕ) → get_elem? s.views id ≡ some v
      → ws ≡ length docket' ∷ next' ∷ turn' ∷ others' → turn' ≤ next' → next' < 18446744073709551616 → legal (opening key) docket'
      → L docket' record { words = ws; homes = homes'; views = set s.views id w }
      → F docket' next' turn' homes' w
      → ((j : ℕ) (u : V) → AreApart v u → F r.docket r.next r.turn s.homes u → F docket' next' turn' homes' u)
      → ((u : V) → AreApart v u → F r.docket r.next r.turn s.homes u → AreApart w u)
      → Rule record { words = ws; homes = homes'; views = set s.views id w }
  moved s r id v w ws others' homes' docket' next' turn' at words order short lawful lies mine stay apart = record {
    docket = docket';
    next = next';
    turn = turn';
    others = others';
    words = words;
    order = order;
    short = short;
    lawful = lawful;
    lies = lies;
    each = λ j u e. ⊎_elim (λ (t : (j ≡ id) × (w ≡ u)). subst (F docket' next' turn' homes') t.1 mine)
        (λ (t : (j ≢ id) × (get_elem? s.views j ≡ some u)). stay j u (r.apart id j v u (λ e. t.0 (sym e)) at t.1) (r.each j u t.1)) (at_set s.views id j w u e);
    apart = apart_after s.views id w r.apart (λ j u ne e. apart u (r.apart id j v u (λ e. ne (sym e)) at e) (r.each j u e));
  }

  -- what was set at a place is found there
  at_here : (vs : List V) (id : ℕ) (v w : V) → get_elem? vs id ≡ some v → get_elem? (set vs id w) id ≡ some w
  at_here [] zero v w at = absurd (some-ne-none v (sym at))
  at_here [] (suc id) v w at = absurd (some-ne-none v (sym at))
  at_here (x ∷ xs) zero v w at = refl
  at_here (x ∷ xs) (suc id) v w at = at_here xs id v w at

  -- where a seat that isn't out steps, the object lies where it did
  lies_on : (s : St) (docket : List W) (id : ℕ) (v w : V) (ws : List ℕ) → get_elem? s.views id ≡ some v → (IsServed v.stage → IsServed w.stage) → L docket s
      → L docket record { words = ws; homes = s.homes; views = set s.views id w }
  lies_on s docket id v w ws at on (inl h) = inl h
  lies_on s docket id v w ws at on (inr h) = dite (ℕ_discrete h.0 id)
      (λ same. let e : v ≡ h.1 = some-injective v h.1 (sym at ∙ (ap (get_elem? s.views) (sym same) ∙ h.2)) in
      inr (id, w, at_here s.views id v w at, on (subst (λ (z : V). IsServed z.stage) (sym e) h.3)))
      (λ other. inr (h.0, h.1, set_else s.views id h.0 w other ∙ h.2, h.3))

  -- what another pass knows stays so, where the docket goes on and its stage stays so
  fits_on : (docket : List W) (next turn : ℕ) (homes : Homes) (docket' : List W) (next' turn' : ℕ) (homes' : Homes) (u : V) → StartsWith docket' docket
      → length docket ≤ length docket' → (next ≡ 18446744073709551615 → next' ≡ 18446744073709551615) → (S docket next turn homes u.seen u.stage → S docket' next' turn' homes' u.seen u.stage)
      → F docket next turn homes u → F docket' next' turn' homes' u
  fits_on docket next turn homes docket' next' turn' homes' u begins long full on f = record {
    opened = f.opened;
    begins = starts_trans docket' docket u.seen begins f.begins;
    tells = starts_trans docket' docket u.told begins f.tells;
    own_rows = λ k h. let a = f.own_rows k h in omega arith;
    once = f.once;
    spent = λ e. full (f.spent e);
    is_at = on f.is_at;
  }

  -- beside a pass whose ticket is served, no other one is
  none_else : (s : St) (r : Rule s) (v u : V) → HasTicket v.stage r.turn → AreApart v u → F r.docket r.next r.turn s.homes u → IsServed u.stage → ⊥
  none_else s r v u mine apart f h = apart.0 r.turn mine (served_ticket opening rows stands (opening key) r.docket r.next r.turn s.homes u.seen u.stage h f.is_at)

  -- a seat's step that changes no word and no row, and by which the object goes nowhere
  looked : (s : St) (r : Rule s) (i id : ℕ) (v w : V) (cs : List (ℕ × Option D)) → get_elem? s.views id ≡ some v → (IsServed v.stage → IsServed w.stage) → ((t : ℕ) → HasTicket w.stage t → HasTicket v.stage t)
      → w.opening ≡ v.opening → w.own ≡ v.own → w.told ≡ v.told → StartsWith r.docket w.seen → (w.ended ≡ true → r.next ≡ 18446744073709551615) → S r.docket r.next r.turn s.homes w.seen w.stage
      → Rule (stepped s i (get_or s.words i 0) id cs w keeps)
  looked s r i id v w cs at served same opened own told begins spent now = let mine = r.each id v at in subst (λ (ws : List ℕ). Rule record { words = ws; homes = s.homes; views = set s.views id w }) (sym (set-get_or s.words i 0))
      (moved s r id v w s.words r.others s.homes r.docket r.next r.turn at r.words r.order r.short r.lawful (lies_on s r.docket id v w s.words at served r.lies)
      record {
        opened = λ o e. mine.opened o (sym opened ∙ e);
        begins = begins;
        tells = subst (StartsWith r.docket) (sym told) mine.tells;
        own_rows = λ k h. mine.own_rows k (subst (λ (z : List ℕ). Has z k) own h);
        once = subst AreDistinct (sym own) mine.once;
        spent = spent;
        is_at = now;
      }
      (λ j u apart f. f)
      (λ u apart f. (λ t h. apart.0 t (same t h), λ k h. apart.1 k (subst (λ (z : List ℕ). Has z k) own h))))

  -- Marking a word on which calls sleep, or taking the mark away: word 3 or a later one becomes whatever it does.
  pub marks : (slots id : ℕ) (me : M) (i : ℕ) (f : ℕ → ℕ) → 3 ≤ i → Allows Rule slots id me i f (λ r m'. m' ≡ me)
  marks slots id me i f behind s r _ at _ =
      let v : V = me.0 in
      let n : ℕ = f (get_or s.words i 0) in
      let words' = set_behind (length r.docket) r.next r.turn r.others i n behind in (
        v,
        keeps,
        tt,
        moved s r id v v (set s.words i n) words'.0 s.homes r.docket r.next r.turn at (ap (λ (ws : List ℕ). set ws i n) r.words ∙ words'.1) r.order r.short r.lawful
            (lies_on s r.docket id v v (set s.words i n) at (λ h. h) r.lies) (r.each id v at) (λ j u apart f. f) (λ u apart f. apart),
        refl,
      )

  -- Taking a ticket: a compare-exchange of word 1, from a ticket to the next one.
  pub draws : (slots id : ℕ) (me : M) (t : ℕ) → me.0.stage ≡ Idle → t < 18446744073709551615 → Allows Rule slots id me 1 (λ y. either (eqb y t) (t + 1) y) (TellsTicket (step slots 1 t (t + 1) none) me)
  draws slots id me t idle room s r _ at _ =
      let y : ℕ = get_or s.words 1 0 in
      let v : V = me.0 in
      let mine = r.each id v at in
      let is : y ≡ r.next = ap (λ (ws : List ℕ). get_or ws 1 0) r.words in
      let order = r.order in
      let told = TellsTicket (step slots 1 t (t + 1) none) me in
      exchanged y t (t + 1) (Goes s 1 id me told)
      (λ hit. let w : V = at_stage v (Waiting y) in (
        w,
        keeps,
        tt,
        moved s r id v w (set s.words 1 (t + 1)) r.others s.homes r.docket (t + 1) r.turn at (ap (λ (ws : List ℕ). set ws 1 (t + 1)) r.words) (omega arith) (omega arith) r.lawful
            (lies_on s r.docket id v w (set s.words 1 (t + 1)) at (λ h. absurd (subst IsServed idle h)) r.lies)
            record { opened = mine.opened; begins = mine.begins; tells = mine.tells; own_rows = mine.own_rows; once = mine.once; spent = λ e. let m = mine.spent e in absurd (omega arith); is_at = (omega arith, omega arith) }
            (λ j u apart f. fits_on r.docket r.next r.turn s.homes r.docket (t + 1) r.turn s.homes u (starts_same r.docket r.docket refl) (omega arith) (λ e. absurd (omega arith))
            (stage_more opening rows stands (opening key) r.docket r.next r.turn s.homes u.seen (t + 1) u.stage (omega arith)) f)
            (λ u apart f. (λ k e h. let b = below_next opening rows stands (opening key) r.docket r.next r.turn s.homes u.seen u.stage k f.is_at h in let c = b.1 in omega arith, apart.1)),
        (refl, λ e. refl, λ miss. absurd (miss hit), λ miss. absurd (miss hit)),
      ))
      (λ miss. dite (ℕ_discrete y 18446744073709551615)
      (λ full. (at_end v, keeps, tt, looked s r 1 id v (at_end v) me.1 at (λ h. h) (λ t h. h) refl refl refl mine.begins (λ _. sym is ∙ full) mine.is_at, (refl, λ hit. absurd (miss hit), λ _ _. refl, λ _ other. absurd (other full))))
      (λ other. (v, keeps, tt, looked s r 1 id v v me.1 at (λ h. h) (λ t h. h) refl refl refl mine.begins mine.spent mine.is_at, (refl, λ hit. absurd (miss hit), λ _ full. absurd (other full), λ _ _. refl))))

  -- Seeing the count: a load of word 0 by the pass that is served.
  pub counts : (slots id : ℕ) (me : M) → IsServed me.0.stage → Allows Rule slots id me 0 (λ y. y) (TellsCount opening rows legal stands (step slots 0 0 0 none) me)
  counts slots id me served s r _ at _ =
      let v : V = me.0 in
      let mine = r.each id v at in
      let out : rows_out rows v.stage ≡ r.docket = out_is opening rows stands (opening key) r.docket r.next r.turn s.homes v.seen v.stage served mine.is_at in
      let w : V = having_counted v (rows_out rows v.stage) in (
        w,
        keeps,
        tt,
        looked s r 0 id v w me.1 at (still_served v.stage) (same_tickets v.stage) refl refl refl (starts_same r.docket (rows_out rows v.stage) (sym out)) mine.spent
            (stage_counted opening rows stands (opening key) r.docket r.next r.turn s.homes v.seen v.stage served mine.is_at),
        (ap (λ (ws : List ℕ). get_or ws 0 0) r.words ∙ ap length (sym out), refl, refl, λ o e. subst (λ (z : O × List W). legal z.0 z.1) (λ k. (sym (mine.opened o e) k, sym out k)) r.lawful),
      )

  -- Reading the turn: a load of word 2 by a pass that waits, which takes the slot where its turn has come.
  pub watches : (slots id : ℕ) (me : M) (t : ℕ) → me.0.stage ≡ Waiting t → Allows Rule slots id me 2 (λ y. y) (TellsTurn opening rows legal stands (step slots 2 0 0 none) me)
  watches slots id me t waits s r _ at _ =
      let y : ℕ = get_or s.words 2 0 in
      let v : V = me.0 in
      let mine = r.each id v at in
      let is : y ≡ r.turn = ap (λ (ws : List ℕ). get_or ws 2 0) r.words in
      let stand : (r.turn ≤ t) × (t < r.next) = subst (S r.docket r.next r.turn s.homes v.seen) waits mine.is_at in
      let mine_is : ticket v.stage ≡ t = ap ticket waits in
      let told = TellsTurn opening rows legal stands (step slots 2 0 0 none) me in
      dite (ℕ_discrete y (ticket v.stage))
      (λ hit. let now : r.turn ≡ t = sym is ∙ (hit ∙ mine_is) in
      let holds : HasTicket v.stage r.turn = subst (λ (z : Stage D). HasTicket z r.turn) (sym waits) (sym now) in
      ⊎_elim
      (λ (h : (d : D) × (s.homes ≡ some (Some d) ∷ []) × IsWith opening rows stands (opening key) r.docket d).
      let d : D = h.0 in
      let w : V = at_stage v (Served y d false) in
      let homes' : Homes = set s.homes 0 none in
      let out : homes' ≡ none ∷ [] = ap (λ (z : Homes). set z 0 none) h.1 in
      let below = stand.1 in (
        w,
        takes 0 (Some d),
        ap (λ (z : Homes). get_elem? z 0) h.1,
        subst (λ (ws : List ℕ). Rule record { words = ws; homes = homes'; views = set s.views id w }) (sym (set-get_or s.words 2 0))
            (moved s r id v w s.words r.others homes' r.docket r.next r.turn at r.words r.order r.short r.lawful (inr (id, w, at_here s.views id v w at, tt))
            record { opened = mine.opened; begins = mine.begins; tells = mine.tells; own_rows = mine.own_rows; once = mine.once; spent = mine.spent; is_at = (is, omega arith, h.2, out, λ e. absurd (not_true e)) }
            (λ j u apart f. fits_on r.docket r.next r.turn s.homes r.docket r.next r.turn homes' u (starts_same r.docket r.docket refl) (omega arith) (λ e. e)
            (stage_on opening rows stands (opening key) r.docket r.next r.turn s.homes u.seen r.docket r.next r.turn homes' u.stage (none_else s r v u holds apart f) (omega arith)
            (λ k e. (below_next opening rows stands (opening key) r.docket r.next r.turn s.homes u.seen u.stage k f.is_at e).0)) f)
            (λ u apart f. (λ k e c. apart.0 k (subst (λ (z : ℕ). HasTicket v.stage z) (sym is ∙ e) holds) c, apart.1))),
        (λ _. (d, refl, refl, starts_trans (rows d) r.docket v.seen (starts_same (rows d) r.docket h.2.kept) mine.begins, h.2.led, λ o e. h.2.begun ∙ sym (mine.opened o e)), λ miss. absurd (miss hit)),
      ))
      (λ (h : (j : ℕ) × (u : V) × (get_elem? s.views j ≡ some u) × IsServed u.stage). absurd (dite (ℕ_discrete id h.0)
      (λ same. let e : v ≡ h.1 = some-injective v h.1 (sym at ∙ (ap (get_elem? s.views) same ∙ h.2)) in subst IsServed (ap (λ (z : V). z.stage) (sym e) ∙ waits) h.3)
      (λ other. none_else s r v h.1 holds (r.apart id h.0 v h.1 other at h.2) (r.each h.0 h.1 h.2) h.3)))
      r.lies)
      (λ miss. (v, keeps, tt, looked s r 2 id v v me.1 at (λ h. h) (λ t h. h) refl refl refl mine.begins mine.spent mine.is_at, ((λ hit. absurd (miss hit)), λ _. refl)))

  -- Adding a row: word 0 plus 1, by the pass that is served and has counted the rows, with an object that has one row more.
  pub adds : (slots id n : ℕ) (me : M) (d : D) (row : W) → HasCounted me.0.stage → n ≡ length me.0.seen → rows d ≡ me.0.seen ++ row ∷ []
      → ((o : O) × (me.0.opening ≡ Some o) × (opening d ≡ o) × legal o (rows d)) → stands d → Allows Rule slots id me 0 (λ y. either (eqb y n) (n + 1) y) (TellsRow opening rows legal stands (step slots 0 n (n + 1) (some (Some d))) me)
  adds slots id n me d row counts count more lawful led s r _ at _ =
      let y : ℕ = get_or s.words 0 0 in
      let v : V = me.0 in
      let mine = r.each id v at in
      let served : IsServed v.stage = counted_served v.stage counts in
      let all : v.seen ≡ r.docket = all_seen opening rows stands (opening key) r.docket r.next r.turn s.homes v.seen v.stage counts mine.is_at in
      let holds : HasTicket v.stage r.turn = served_ticket opening rows stands (opening key) r.docket r.next r.turn s.homes v.seen v.stage served mine.is_at in
      let at_turn = is_served opening rows stands (opening key) r.docket r.next r.turn s.homes v.seen v.stage served mine.is_at in
      let below = at_turn.1 in
      let is : y ≡ n = ap (λ (ws : List ℕ). get_or ws 0 0) r.words ∙ (ap length (sym all) ∙ sym count) in
      let docket' : List W = rows d in
      let more' : docket' ≡ r.docket ++ row ∷ [] = more ∙ ap (λ (z : List W). z ++ row ∷ []) all in
      let long : length docket' ≡ length r.docket + 1 = ap length more' ∙ length-append r.docket (row ∷ []) in
      let w : V = having_added v docket' d in
      let told = TellsRow opening rows legal stands (step slots 0 n (n + 1) (some (Some d))) me in
      let own_row : length v.seen ≡ length r.docket = ap length all in
      exchanged y n (n + 1) (Goes s 0 id me told)
      (λ hit. (
        w,
        keeps,
        tt,
        moved s r id v w (set s.words 0 (n + 1)) r.others s.homes docket' r.next r.turn at
            (ap (λ (ws : List ℕ). set ws 0 (n + 1)) r.words ∙ (let e : n + 1 ≡ length docket' = omega arith in ap (λ (z : ℕ). z ∷ r.next ∷ r.turn ∷ r.others) e)) r.order r.short
            (subst (λ (z : O). legal z docket') (mine.opened lawful.0 lawful.1) lawful.3) (inr (id, w, at_here s.views id v w at, tt))
            record {
              opened = mine.opened;
              begins = starts_same docket' docket' refl;
              tells = starts_trans docket' r.docket v.told (row ∷ [], more') mine.tells;
              own_rows = λ k h. ⊎_elim (λ (a : Has v.own k). let b = mine.own_rows k a in omega arith) (λ (e : length v.seen ≡ k). omega arith) (has_snoc v.own (length v.seen) k h);
              once = distinct_snoc v.own (length v.seen) mine.once (λ h. let b = mine.own_rows (length v.seen) h in omega arith);
              spent = mine.spent;
              is_at = (at_turn.0, below, record { kept = refl; begun = lawful.2 ∙ mine.opened lawful.0 lawful.1; led = led }, at_turn.2, λ _. refl);
            }
            (λ j u apart f. fits_on r.docket r.next r.turn s.homes docket' r.next r.turn s.homes u (row ∷ [], more') (omega arith) (λ e. e)
            (stage_on opening rows stands (opening key) r.docket r.next r.turn s.homes u.seen docket' r.next r.turn s.homes u.stage (none_else s r v u holds apart f) (omega arith)
            (λ k e. (below_next opening rows stands (opening key) r.docket r.next r.turn s.homes u.seen u.stage k f.is_at e).0)) f)
            (λ u apart f. (
              (λ k e c. apart.0 k (subst (λ (z : ℕ). HasTicket v.stage z) (sym at_turn.0 ∙ e) holds) c),
              (λ k h c. ⊎_elim (λ (a : Has v.own k). apart.1 k a c) (λ (e : length v.seen ≡ k). let b = f.own_rows k c in absurd (omega arith)) (has_snoc v.own (length v.seen) k h)),
            )),
        (hit, refl, refl),
      ))
      (λ miss. absurd (miss is))

  -- Passing the turn on: word 2 plus 1, with the slot given back, in which the object lies as it was seen.
  pub passes : (slots id : ℕ) (me : M) (d : D) → HasCounted me.0.stage → me.1 ≡ (0, Some d) ∷ [] → rows d ≡ me.0.seen → ((o : O) × (me.0.opening ≡ Some o) × (opening d ≡ o)) → stands d
      → Allows Rule slots id me 2 (λ y. (y + 1) % 18446744073709551616) (TellsPassing (step slots 2 1 0 none) me)
  passes slots id me d counts holds_d kept opened led s r _ at _ =
      let y : ℕ = get_or s.words 2 0 in
      let v : V = me.0 in
      let mine = r.each id v at in
      let served : IsServed v.stage = counted_served v.stage counts in
      let all : v.seen ≡ r.docket = all_seen opening rows stands (opening key) r.docket r.next r.turn s.homes v.seen v.stage counts mine.is_at in
      let holds : HasTicket v.stage r.turn = served_ticket opening rows stands (opening key) r.docket r.next r.turn s.homes v.seen v.stage served mine.is_at in
      let at_turn = is_served opening rows stands (opening key) r.docket r.next r.turn s.homes v.seen v.stage served mine.is_at in
      let below = at_turn.1 in
      let short = r.short in
      let is : y ≡ r.turn = ap (λ (ws : List ℕ). get_or ws 2 0) r.words in
      let n : ℕ = (y + 1) % 18446744073709551616 in
      let up : n ≡ r.turn + 1 = ap (λ (z : ℕ). (z + 1) % 18446744073709551616) is ∙ mod-eq_of_lt (omega arith) in
      let w : V = at_stage v Idle in
      let homes' : Homes = put_back s.homes me.1 in
      let home : homes' ≡ some (Some d) ∷ [] = λ k. put_back (at_turn.2 k) (holds_d k) in (
        w,
        gives,
        tt,
        moved s r id v w (set s.words 2 n) r.others homes' r.docket r.next (r.turn + 1) at (ap (λ (ws : List ℕ). set ws 2 n) r.words ∙ ap (λ (z : ℕ). length r.docket ∷ r.next ∷ z ∷ r.others) up) (omega arith) r.short r.lawful
            (inl (d, home, record { kept = kept ∙ all; begun = opened.2 ∙ mine.opened opened.0 opened.1; led = led }))
            record { opened = mine.opened; begins = mine.begins; tells = mine.tells; own_rows = mine.own_rows; once = mine.once; spent = mine.spent; is_at = tt }
            (λ j u apart f. fits_on r.docket r.next r.turn s.homes r.docket r.next (r.turn + 1) homes' u (starts_same r.docket r.docket refl) (omega arith) (λ e. e)
            (stage_on opening rows stands (opening key) r.docket r.next r.turn s.homes u.seen r.docket r.next (r.turn + 1) homes' u.stage (none_else s r v u holds apart f) (omega arith)
            (λ k e. let b = (below_next opening rows stands (opening key) r.docket r.next r.turn s.homes u.seen u.stage k f.is_at e).0 in
            let other : r.turn ≢ k = λ same. apart.0 k (subst (λ (z : ℕ). HasTicket v.stage z) same holds) e in omega arith)) f)
            (λ u apart f. (λ k e c. absurd e, apart.1)),
        (refl, refl),
      )

  -- Splitting a seat: the new pass has seen as much as the old one.
  pub splits : (id : ℕ) (v : V) → Splits Rule id v v (informed v)
  splits id v s r at =
      let mine = r.each id v at in
      let w : V = informed v in
      subst (λ (vs : List V). Rule record { words = s.words; homes = s.homes; views = vs ++ w ∷ [] }) (sym (set_again s.views id v at))
      record {
        docket = r.docket;
        next = r.next;
        turn = r.turn;
        others = r.others;
        words = r.words;
        order = r.order;
        short = r.short;
        lawful = r.lawful;
        lies = ⊎_elim (λ (h : (d : D) × (s.homes ≡ some (Some d) ∷ []) × IsWith opening rows stands (opening key) r.docket d). inl h)
            (λ (h : (j : ℕ) × (u : V) × (get_elem? s.views j ≡ some u) × IsServed u.stage). inr (h.0, h.1, at_longer s.views (w ∷ []) h.0 h.1 h.2, h.3)) r.lies;
        each = λ j u e. ⊎_elim (λ (t : get_elem? s.views j ≡ some u). r.each j u t)
            (λ (t : w ≡ u). subst (F r.docket r.next r.turn s.homes) t
            record { opened = mine.opened; begins = mine.begins; tells = (r.docket, refl); own_rows = λ k h. absurd h; once = tt; spent = λ e. absurd (not_true e); is_at = tt }) (at_snoc s.views w u j e);
        apart = λ i j a b ne x z. ⊎_elim
            (λ (p : get_elem? s.views i ≡ some a). ⊎_elim (λ (q : get_elem? s.views j ≡ some b). r.apart i j a b ne p q)
            (λ (q : w ≡ b). subst (λ (u : V). AreApart a u) q (λ t c h. absurd h, λ k c h. absurd h)) (at_snoc s.views w b j z))
            (λ (p : w ≡ a). subst (λ (u : V). AreApart u b) p (λ t h c. absurd h, λ k h c. absurd h)) (at_snoc s.views w a i x);
      }

  -- The table as it is made keeps the rule.
  pub opens : (first : ℕ) (others : List ℕ) → first < 18446744073709551616 → legal (opening key) (rows key) → stands key
      → Rule (the_opening (length (rows key) ∷ first ∷ first ∷ others) (Some key ∷ []) (newcomer opening rows legal stands key))
  opens first others small lawful led = record {
    docket = rows key;
    next = first;
    turn = first;
    others = others;
    words = refl;
    order = omega arith;
    short = small;
    lawful = lawful;
    lies = inl (key, refl, record { kept = refl; begun = refl; led = led });
    each = elim [
      | zero ↦ λ u e. subst (F (rows key) first first (some (Some key) ∷ [])) (some-injective (newcomer opening rows legal stands key) u e)
          record { opened = λ o e. sym (one_said (opening key) o e); begins = starts_same (rows key) (rows key) refl; tells = (rows key, refl); own_rows = λ k h. absurd h; once = tt; spent = λ e. absurd (not_true e); is_at = tt }
      | suc j ↦ λ u e. absurd (some-ne-none u (sym e))
    ];
    apart = λ i j a b ne x z. absurd (ne (only_one (newcomer opening rows legal stands key) a i x ∙ sym (only_one (newcomer opening rows legal stands key) b j z)));
  }

  -- Seeing the docket with no turn: a load of word 0 by any pass.
  pub glances : (slots id : ℕ) (me : M) → Allows Rule slots id me 0 (λ y. y) (TellsDocket opening rows legal stands (step slots 0 0 0 none) me)
  glances slots id me s r _ at _ =
      let v : V = me.0 in
      let mine = r.each id v at in
      let w : V = having_seen v r.docket in (
        w,
        keeps,
        tt,
        looked s r 0 id v w me.1 at (λ h. h) (λ t h. h) refl refl refl (starts_same r.docket r.docket refl) mine.spent
            (stage_all opening rows stands (opening key) r.docket r.next r.turn s.homes v.seen v.stage mine.is_at),
        (r.docket, ap (λ (ws : List ℕ). get_or ws 0 0) r.words, refl, refl, mine.begins, mine.tells, mine.once, λ o e. subst (λ (z : O). legal z r.docket) (sym (mine.opened o e)) r.lawful),
      )

  -- two places are set in either order
  swapped : (vs : List V) (i j : ℕ) (a b : V) → i ≢ j → set (set vs i a) j b ≡ set (set vs j b) i a
  swapped [] i j a b ne = refl
  swapped (x ∷ xs) zero zero a b ne = absurd (ne refl)
  swapped (x ∷ xs) zero (suc j) a b ne = refl
  swapped (x ∷ xs) (suc i) zero a b ne = refl
  swapped (x ∷ xs) (suc i) (suc j) a b ne = ap (λ (z : List V). x ∷ z) (swapped xs i j a b (λ e. ne (ap suc e)))

  -- Joining two seats: the first has the rows of both, and is told what the second had seen.
  pub joins : (id : ℕ) (v : V) (other : ℕ) (w : V) → w.stage ≡ Idle → Joins Rule id v other w (having_met v w) used_up
  joins id v other w idle s r at apart at_both =
      let both : V = having_met v w in
      let vs : List V = s.views in
      let at_other : get_elem? vs other ≡ some w = sym (set_else vs id other both apart) ∙ at_both in
      let mine = r.each id v at in
      let theirs = r.each other w at_other in
      let vs1 : List V = set vs other used_up in
      let away : AllApart vs1 = apart_after vs other used_up r.apart (λ j u _ _. (λ t h. absurd h, λ k h. absurd h)) in
      subst (λ (l : List V). Rule record { words = s.words; homes = s.homes; views = l }) (swapped vs other id used_up both apart)
      record {
        docket = r.docket;
        next = r.next;
        turn = r.turn;
        others = r.others;
        words = r.words;
        order = r.order;
        short = r.short;
        lawful = r.lawful;
        lies = ⊎_elim (λ (h : (d : D) × (s.homes ≡ some (Some d) ∷ []) × IsWith opening rows stands (opening key) r.docket d). inl h)
            (λ (h : (j : ℕ) × (u : V) × (get_elem? s.views j ≡ some u) × IsServed u.stage). dite (ℕ_discrete h.0 other)
            (λ same. let e : w ≡ h.1 = some-injective w h.1 (sym at_other ∙ (ap (get_elem? vs) (sym same) ∙ h.2)) in absurd (subst IsServed (ap (λ (z : V). z.stage) (sym e) ∙ idle) h.3))
            (λ ne. dite (ℕ_discrete h.0 id)
            (λ same. let e : v ≡ h.1 = some-injective v h.1 (sym at ∙ (ap (get_elem? vs) (sym same) ∙ h.2)) in
            inr (id, both, at_here vs1 id v both (set_else vs other id used_up (λ e. apart (sym e)) ∙ at), subst (λ (z : V). IsServed z.stage) (sym e) h.3))
            (λ further. inr (h.0, h.1, set_else vs1 id h.0 both further ∙ (set_else vs other h.0 used_up ne ∙ h.2), h.3)))) r.lies;
        each = λ j u e. ⊎_elim
            (λ (t : (j ≡ id) × (both ≡ u)). subst (F r.docket r.next r.turn s.homes) t.1
            record {
              opened = mine.opened;
              begins = mine.begins;
              tells = theirs.begins;
              own_rows = λ k h. ⊎_elim (mine.own_rows k) (theirs.own_rows k) (has_append v.own w.own k h);
              once = distinct_append v.own w.own mine.once theirs.once (r.apart id other v w (λ e. apart (sym e)) at at_other).1;
              spent = mine.spent;
              is_at = mine.is_at;
            })
            (λ (t : (j ≢ id) × (get_elem? vs1 j ≡ some u)). ⊎_elim
            (λ (p : (j ≡ other) × (used_up ≡ u)). subst (F r.docket r.next r.turn s.homes) p.1
            record {
              opened = λ o e. absurd (none_said o e);
              begins = (r.docket, refl);
              tells = (r.docket, refl);
              own_rows = λ k h. absurd h;
              once = tt;
              spent = λ e. absurd (not_true e);
              is_at = tt;
            })
            (λ (p : (j ≢ other) × (get_elem? vs j ≡ some u)). r.each j u p.1) (at_set vs other j used_up u t.1)) (at_set vs1 id j both u e);
        apart = apart_after vs1 id both away (λ j u ne e. ⊎_elim
            (λ (p : (j ≡ other) × (used_up ≡ u)). subst (λ (z : V). AreApart both z) p.1 (λ t h c. absurd c, λ k h c. absurd c))
            (λ (p : (j ≢ other) × (get_elem? vs j ≡ some u)).
            let a = r.apart id j v u (λ e. ne (sym e)) at p.1 in
            let b = r.apart other j w u (λ e. p.0 (sym e)) at_other p.1 in
            (a.0, λ k h c. ⊎_elim (λ (x : Has v.own k). a.1 k x c) (λ (x : Has w.own k). b.1 k x c) (has_append v.own w.own k h))) (at_set vs other j used_up u e));
      }

  -- what lies in the slot at the end, where each ticket was served
  pub closes : (id : ℕ) (v : V) (ws : List ℕ) (xs : List (Option D)) → Final (Seen Rule id v) ws xs → (a b : ℕ) → get_elem? ws 1 ≡ some a → get_elem? ws 2 ≡ some b → a ≡ b
      → (d : D) × (get_elem? xs 0 ≡ some (Some d)) × HasEnded opening rows legal stands key id v d
  closes id v ws xs f a b at1 at2 same =
      let s = f.0 in
      let r = f.1.0 in
      let is : ws ≡ length r.docket ∷ r.next ∷ r.turn ∷ r.others = sym f.2 ∙ r.words in
      let e1 : a ≡ r.next = some-injective a r.next (sym at1 ∙ ap (λ (l : List ℕ). get_elem? l 1) is) in
      let e2 : b ≡ r.turn = some-injective b r.turn (sym at2 ∙ ap (λ (l : List ℕ). get_elem? l 2) is) in
      ⊎_elim
      (λ (h : (d : D) × (s.homes ≡ some (Some d) ∷ []) × IsWith opening rows stands (opening key) r.docket d). (
        h.0,
        f.4 0 (Some h.0) (ap (λ (l : Homes). get_elem? l 0) h.1),
        record {
          begun = h.2.begun;
          begins = starts_trans (rows h.0) r.docket v.seen (starts_same (rows h.0) r.docket h.2.kept) (r.each id v f.1.1).begins;
          lawful = subst (legal (opening key)) (sym h.2.kept) r.lawful;
          led = h.2.led;
          counted = (s, f.1, ap (λ (l : List ℕ). get_or l 0 0) r.words ∙ ap length (sym h.2.kept));
        },
      ))
      (λ (h : (j : ℕ) × (u : V) × (get_elem? s.views j ≡ some u) × IsServed u.stage).
      let below = (is_served opening rows stands (opening key) r.docket r.next r.turn s.homes h.1.seen h.1.stage h.3 (r.each h.0 h.1 h.2).is_at).1 in absurd (omega arith))
      r.lies

  -- The same of what the call that makes the table has at hand.
  pub opens_at : (d : D) (count first : ℕ) (others : List ℕ) (items : List (Option D)) → key ≡ d → count ≡ length (rows d) → items ≡ Some d ∷ [] → first < 18446744073709551616 → legal (opening d) (rows d) → stands d
      → Rule (the_opening (count ∷ first ∷ first ∷ others) items (newcomer opening rows legal stands key))
  opens_at d count first others items k c e small lawful led = let P : D → Type 0 = λ z. legal (opening z) (rows z) in
      subst (λ (z : ℕ × List (Option D)). Rule (the_opening (z.0 ∷ first ∷ first ∷ others) z.1 (newcomer opening rows legal stands key)))
      (λ i. (sym (c ∙ ap (λ (z : D). length (rows z)) (sym k)) i, sym (e ∙ ap (λ (z : D). Some z ∷ []) (sym k)) i)) (opens first others small (subst P (sym k) lawful) (subst stands (sym k) led))

  -- The same of what the call that closes the table has at hand.
  pub closed_with : (id : ℕ) (v : V) (ws : List ℕ) (xs : List (Option D)) → Final (Seen Rule id v) ws xs → (a b : ℕ) → get_elem? ws 1 ≡ some a → get_elem? ws 2 ≡ some b → a ≡ b → (o : Option D)
      → get_elem? xs 0 ≡ some o → (d : D) → o ≡ Some d → HasEnded opening rows legal stands key id v d
  closed_with id v ws xs f a b at1 at2 same o at d is =
      let h = closes id v ws xs f a b at1 at2 same in
      let e : h.0 ≡ d = one_said h.0 d (some-injective (Some h.0) (Some d) (sym h.1 ∙ (at ∙ ap some is))) in
      subst (HasEnded opening rows legal stands key id v) e h.2

  -- Words that differ at the end differ in a last state.
  pub unreturned : (id : ℕ) (v : V) (ws : List ℕ) (xs : List (Option D)) → Final (Seen Rule id v) ws xs → (a b : ℕ) → get_elem? ws 1 ≡ some a → get_elem? ws 2 ≡ some b → a ≢ b
      → IsUnreturned opening rows legal stands key id v
  unreturned id v ws xs f a b at1 at2 ne = (f.0, f.1, λ e. ne (at_or ws 1 a at1 ∙ (ap (λ (l : List ℕ). get_or l 1 0) (sym f.2) ∙ (e ∙ (ap (λ (l : List ℕ). get_or l 2 0) f.2 ∙ sym (at_or ws 2 b at2))))))

-- a list of one is its first and the rest
pub alone : {A : Type 0} (l : List (ℕ × A)) (x : ℕ × A) → l ≡ x ∷ [] → l ≡ x ∷ rest l
alone {A} l x e = e ∙ ap (λ (z : List (ℕ × A)). x ∷ z) (sym (ap rest e))

-- one place has one value
pub in_slot : {A : Type 0} (xs : List A) (a b : A) → get_elem? xs 0 ≡ some a → get_elem? xs 0 ≡ some b → a ≡ b
in_slot xs a b p q = some-injective a b (sym p ∙ q)
