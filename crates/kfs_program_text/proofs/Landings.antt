-- A line lands a verdict only where its first word says so.
use Rattle.std.proofs.Common.{◌≡◌, ℕ, Bool, true, false, List, [], ◌∷◌, Option, Some, None, option_map, refl, sym, ap, ◌∙◌, if◌then◌else◌}
use Rattle.kfs_model.specs.Steps.{◌>>=◌}
use Rattle.kfs_program_text.specs.Command.{Command, Setup, New, Begin, Request, Tick, Submit, Node, Listing, Judge, Land, Move, asked_by, client_of, drop_of, judge_of, landing_worker, lease_of, load_of, move_of, moves_in, new_of, plan_of, read_of, submission_in, submit_of, with_number}
use Rattle.kfs_program_text.specs.CommandReading.{begin_of, command_named, docket_of, land_of, listing_of, named_by, node_of, save_of, tick_of}
use Rattle.kfs_program_text.specs.declared.command.Keyword.{Keyword}
use Rattle.kfs_program_text.specs.declared.command.Keyword.TheVariants as names
use Rattle.kfs_program_text.specs.declared.worker.Worker.{Worker}
use Rattle.kfs_program_text.specs.Cut.{cut, space}
use Rattle.kfs_program_text.specs.Decimals.{decimal32, decimal64, decimals32}
use Rattle.kfs_program_text.specs.Reading.{are_words, checked, ended, first_by}
use Rattle.kfs_program_text.proofs.WordByWord.{decimals_then, nothing_then, word_then}
use Rattle.kfs_program_text.proofs.Readings.{asked_named, client_then, command_by_name, docket_then, drop_then, judge_then, lease_then, load_then, nameless, new_then, nothing_asked, number_then, plan_then, read_then, save_then}

-- ---- what is read word by word, and never asks for a landing

bind_other : {X : Type 0} (o : Option X) (next : X → Option Command) → ((x : X) → landing_worker (next x) ≡ None) → landing_worker (o >>= next) ≡ None
bind_other None next other = refl
bind_other (Some x) next other = other x

word_other : {X : Type 0} (read : List ℕ → Option X) (next : X → List (List ℕ) → Option Command) (words : List (List ℕ)) → ((x : X) (left : List (List ℕ)) → landing_worker (next x left) ≡ None) → landing_worker (word_then read next words) ≡ None
unfolding word_then
word_other read next [] other = refl
word_other read next (word ∷ words) other = bind_other (read word) (λ x. next x words) (λ x. other x words)

nothing_other : (o : Option Command) (words : List (List ℕ)) → landing_worker o ≡ None → landing_worker (nothing_then o words) ≡ None
unfolding nothing_then
nothing_other o words other = bind_other (ended words) (λ done. o) (λ done. other)

decimals_other : (made : List ℕ → Command) (words : List (List ℕ)) → ((ns : List ℕ) → landing_worker (Some (made ns)) ≡ None) → landing_worker (decimals_then made words) ≡ None
unfolding decimals_then
decimals_other made words other = bind_other (decimals32 words) (λ ns. Some (made ns)) other

mapped_other : {X : Type 0} (o : Option X) (made : X → Command) → ((x : X) → landing_worker (Some (made x)) ≡ None) → landing_worker (option_map made o) ≡ None
mapped_other None made other = refl
mapped_other (Some x) made other = other x

if_other : (is : Bool) (command : Command) → landing_worker (Some command) ≡ None → landing_worker (if is then Some command else None) ≡ None
if_other true command other = other
if_other false command other = refl

number_other : (number : List ℕ → Option ℕ) (command : ℕ → Command) (words : List (List ℕ)) → ((n : ℕ) → landing_worker (Some (command n)) ≡ None) → landing_worker (with_number number command words) ≡ None
number_other number command words other = ap landing_worker (number_then number command words) ∙ word_other number _ words (λ n left. nothing_other _ left (other n))

checked_other : (read : List (List ℕ) → Option Command) (words : List (List ℕ)) → landing_worker (read words) ≡ None → landing_worker (checked read words) ≡ None
unfolding checked
checked_other read words other = by (are_words words)
  where
    by : (are : Bool) → landing_worker (if are then read words else None) ≡ None
    by true = other
    by false = refl

-- ---- each command but that one

new_other : (words : List (List ℕ)) → landing_worker (new_of words) ≡ None
new_other words =
    ap landing_worker (new_then words)
    ∙ word_other _ _ words (λ a two. word_other _ _ two (λ b one. word_other _ _ one (λ c left. nothing_other _ left (if_other _ (Setup (New (record { first = a; second = b; third = c }))) refl))))

client_other : (words : List (List ℕ)) → landing_worker (client_of words) ≡ None
client_other words =
    ap landing_worker (client_then words)
    ∙ word_other _ _ words (λ a five. word_other _ _ five (λ b four. word_other _ _ four (λ c three. word_other _ _ three (λ d two. word_other _ _ two (λ e one. word_other _ _ one (λ f left. decimals_other _ left (λ ns. refl)))))))

lease_other : (words : List (List ℕ)) → landing_worker (lease_of words) ≡ None
lease_other words =
    ap landing_worker (lease_then words)
    ∙ word_other _ _ words (λ a three. word_other _ _ three (λ path two. word_other _ _ two (λ kind one. word_other _ _ one (λ end left. nothing_other _ left refl))))

drop_other : (words : List (List ℕ)) → landing_worker (drop_of words) ≡ None
drop_other words = ap landing_worker (drop_then words) ∙ word_other _ _ words (λ a one. word_other _ _ one (λ b left. nothing_other _ left refl))

read_other : (words : List (List ℕ)) → landing_worker (read_of words) ≡ None
read_other words = ap landing_worker (read_then words) ∙ word_other _ _ words (λ a two. word_other _ _ two (λ b one. word_other _ _ one (λ c left. nothing_other _ left refl)))

docket_other : (words : List (List ℕ)) → landing_worker (docket_of words) ≡ None
docket_other words = ap landing_worker (docket_then words) ∙ nothing_other _ words refl

submit_other : (words : List (List ℕ)) → landing_worker (submit_of words) ≡ None
submit_other words = bind_other (submission_in words) (λ submission. Some (Request (Submit submission))) (λ submission. refl)

judge_other : (words : List (List ℕ)) → landing_worker (judge_of words) ≡ None
judge_other words = ap landing_worker (judge_then words) ∙ word_other _ _ words (λ worker left. bind_other (submission_in left) (λ submission. Some (Request (Judge worker submission))) (λ submission. refl))

load_other : (words : List (List ℕ)) → landing_worker (load_of words) ≡ None
load_other words = ap landing_worker (load_then words) ∙ word_other _ _ words (λ bytes left. nothing_other _ left refl)

save_other : (words : List (List ℕ)) → landing_worker (save_of words) ≡ None
save_other words = ap landing_worker (save_then words) ∙ nothing_other _ words refl

move_other : (words : List (List ℕ)) → landing_worker (move_of words) ≡ None
move_other [] = refl
move_other (word ∷ words) = mapped_other (moves_in (word ∷ words)) (λ moves. Request (Move moves)) (λ moves. refl)

plan_other : (words : List (List ℕ)) → landing_worker (plan_of words) ≡ None
plan_other words = ap landing_worker (plan_then words) ∙ word_other _ _ words (λ a one. word_other _ _ one (λ b left. nothing_other _ left refl))

other_named : (name : Keyword) (words : List (List ℕ)) → (name ≡ names.Land → ⊥) → landing_worker (checked (command_named (Some name)) words) ≡ None
unfolding begin_of tick_of node_of listing_of
other_named names.New words other = checked_other new_of words (new_other words)
other_named names.Client words other = checked_other client_of words (client_other words)
other_named names.Begin words other = checked_other begin_of words (number_other decimal32 (λ limit. Setup (Begin limit)) words (λ n. refl))
other_named names.Lease words other = checked_other lease_of words (lease_other words)
other_named names.Drop words other = checked_other drop_of words (drop_other words)
other_named names.Tick words other = checked_other tick_of words (number_other decimal64 (λ moment. Request (Tick moment)) words (λ n. refl))
other_named names.Submit words other = checked_other submit_of words (submit_other words)
other_named names.Node words other = checked_other node_of words (number_other decimal32 (λ number. Request (Node number)) words (λ n. refl))
other_named names.List words other = checked_other listing_of words (number_other decimal32 (λ directory. Request (Listing directory)) words (λ n. refl))
other_named names.Read words other = checked_other read_of words (read_other words)
other_named names.Docket words other = checked_other docket_of words (docket_other words)
other_named names.Judge words other = checked_other judge_of words (judge_other words)
other_named names.Land words other = absurd (other refl)
other_named names.Image words other = checked_other load_of words (load_other words)
other_named names.Save words other = checked_other save_of words (save_other words)
other_named names.Move words other = checked_other move_of words (move_other words)
other_named names.Plan words other = checked_other plan_of words (plan_other words)

-- ---- lines

-- a line without a first word lands nothing
pub no_word : (line : List ℕ) → first_by (λ w. Some w) (cut space line) ≡ None → None ≡ landing_worker (asked_by line)
no_word line is = sym (ap landing_worker (nothing_asked line is))

module _ (line word : List ℕ) (left : List (List ℕ)) (first : first_by (λ w. Some w) (cut space line) ≡ Some (word, left)) where
  -- nor does one whose first word names no command
  pub no_name : None ≡ named_by word → None ≡ landing_worker (asked_by line)
  no_name is = sym (ap landing_worker (asked_named line word left None first (command_by_name word None is) ∙ nameless left))

  -- or another one
  pub another_name : (name : Keyword) → Some name ≡ named_by word → (name ≡ names.Land → ⊥) → None ≡ landing_worker (asked_by line)
  another_name name is other = sym (ap landing_worker (asked_named line word left (Some name) first (command_by_name word (Some name) is)) ∙ other_named name left other)

  -- what is behind the name says whose verdict it is
  pub land_named : Some names.Land ≡ named_by word → (worker : Option Worker) → checked land_of left ≡ option_map (λ (w : Worker). Request (Land w.number)) worker → option_map (λ (w : Worker). w.number) worker ≡ landing_worker (asked_by line)
  land_named is worker read =
      landed worker
      ∙ sym (ap landing_worker (asked_named line word left (Some names.Land) first (command_by_name word (Some names.Land) is) ∙ read))
    where
      landed : (w : Option Worker) → option_map (λ (w : Worker). w.number) w ≡ landing_worker (option_map (λ (w : Worker). Request (Land w.number)) w)
      landed None = refl
      landed (Some w) = refl
