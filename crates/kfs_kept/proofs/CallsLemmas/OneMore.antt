-- One call more.
use Rattle.std.proofs.Common.{◌≡◌, ℕ, ◌+◌, ◌<◌, length, take, get_or, List, [], ◌∷◌, ◌++◌, map, Result, Ok, Err, refl, sym, ap, subst, ◌∙◌, append_assoc, append-nil}
use Rattle.std.proofs.lemmas.List.{map_push, take_more}
use Rattle.kfs_model.specs.Judgement.{State}
use Rattle.kfs_desk.specs.Machine.{Desk}
use Rattle.kfs_call_desk.specs.declared.made.Called.{Called}
use Rattle.kfs_call_desk.specs.declared.made.CallFault.{CallFault}
use Rattle.kfs_kept.specs.Calls.Group.{CallAndAnswer, IsGroup, IsKept, group_bytes, kept_bytes}
use Rattle.kfs_kept.specs.Calls.Leads.{GroupOf, LeadOn, Leads}
use Rattle.kfs_kept.specs.Calls.Making.{AreMade, IsAppended, IsNext, Runs, answered, answered_one}

-- ---- a group

pub lead_more : (s u t : State) (calls : List CallAndAnswer) (kept : CallAndAnswer) → LeadOn s calls u → Leads u kept t → LeadOn s (calls ++ kept ∷ []) t
lead_more s u t [] kept so_far leads = (t, subst (λ (v : State). Leads v kept t) so_far leads, refl)
lead_more s u t (first ∷ calls) kept so_far leads = (so_far.0, so_far.1, lead_more so_far.0 u t calls kept so_far.2 leads)

pub all_more : (calls : List CallAndAnswer) (kept : CallAndAnswer) → IsGroup calls → IsKept kept → IsGroup (calls ++ kept ∷ [])
all_more [] kept fit fits = (fits, tt)
all_more (first ∷ calls) kept fit fits = (fit.0, all_more calls kept fit.1 fits)

pub bytes_more : (calls : List CallAndAnswer) (kept : CallAndAnswer) → group_bytes (calls ++ kept ∷ []) ≡ group_bytes calls ++ kept_bytes kept
bytes_more [] kept = append-nil (kept_bytes kept)
bytes_more (first ∷ calls) kept = ap (λ (l : List ℕ). kept_bytes first ++ l) (bytes_more calls kept) ∙ sym (append_assoc (kept_bytes first) (group_bytes calls) (kept_bytes kept))

calls_more : (calls : List CallAndAnswer) (kept : CallAndAnswer) → map (λ (k : CallAndAnswer). k.call) (calls ++ kept ∷ []) ≡ map (λ (k : CallAndAnswer). k.call) calls ++ kept.call ∷ []
calls_more [] kept = refl
calls_more (first ∷ calls) kept = ap (λ (l : List (List ℕ)). first.call ∷ l) (calls_more calls kept)

-- no call, and the group of one call more
pub no_call : (s : State) → GroupOf s [] [] s
no_call s = record { calls = []; are = refl; fit = tt; spelled = refl; lead = refl }

group_more : (s u t : State) (asked : List (List ℕ)) (bytes before after : List ℕ) → GroupOf s asked before u → IsAppended u bytes before after t → GroupOf s (asked ++ bytes ∷ []) after t
group_more s u t asked bytes before after group appended = record {
  calls = group.calls ++ appended.kept ∷ [];
  are = calls_more group.calls appended.kept ∙ ap (λ (l : List (List ℕ)). l ++ appended.kept.call ∷ []) group.are ∙ ap (λ (b : List ℕ). asked ++ b ∷ []) appended.is;
  fit = all_more group.calls appended.kept group.fit appended.fits;
  spelled = appended.parts ∙ ap (λ (l : List ℕ). l ++ kept_bytes appended.kept) group.spelled ∙ sym (bytes_more group.calls appended.kept);
  lead = lead_more s u t group.calls appended.kept group.lead appended.leads;
}

-- ---- a run

answered_more : (calls : List (List ℕ)) (answers : List (Result Called CallFault)) (old new : Desk) (bytes : List ℕ) (answer : Result Called CallFault) → Runs old calls answers new
    → answered (calls ++ bytes ∷ []) (answers ++ answer ∷ []) ≡ answered calls answers ++ answered_one bytes answer
answered_more [] [] old new bytes answer runs = append-nil (answered_one bytes answer)
answered_more [] (other ∷ answers) old new bytes answer runs = absurd runs
answered_more (first ∷ calls) [] old new bytes answer runs = absurd runs
answered_more (first ∷ calls) (Ok called ∷ answers) old new bytes answer runs = ap (λ (l : List (List ℕ)). first ∷ l) (answered_more calls answers runs.0 new bytes answer runs.2)
answered_more (first ∷ calls) (Err fault ∷ answers) old new bytes answer runs = answered_more calls answers old new bytes answer runs.1

-- one answer
abbrev RunsOne : Desk → List ℕ → Result Called CallFault → Desk → Type 0
RunsOne old bytes answer new = Runs old (bytes ∷ []) (answer ∷ []) new

runs_more : (calls : List (List ℕ)) (answers : List (Result Called CallFault)) (old mid new : Desk) (bytes : List ℕ) (answer : Result Called CallFault) → Runs old calls answers mid → RunsOne mid bytes answer new
    → Runs old (calls ++ bytes ∷ []) (answers ++ answer ∷ []) new
runs_more [] [] old mid new bytes answer runs one = subst (λ (d : Desk). RunsOne d bytes answer new) runs one
runs_more [] (other ∷ answers) old mid new bytes answer runs one = absurd runs
runs_more (first ∷ calls) [] old mid new bytes answer runs one = absurd runs
runs_more (first ∷ calls) (Ok called ∷ answers) old mid new bytes answer runs one = (runs.0, runs.1, runs_more calls answers runs.0 mid new bytes answer runs.2 one)
runs_more (first ∷ calls) (Err fault ∷ answers) old mid new bytes answer runs one = (runs.0, runs_more calls answers old mid new bytes answer runs.1 one)

pub none_made : (old : Desk) → AreMade old [] [] [] old
none_made old = record { runs = refl; kept = no_call old.state }

pub one_more : (old mid new : Desk) (calls : List (List ℕ)) (answers : List (Result Called CallFault)) (before after bytes : List ℕ) (answer : Result Called CallFault)
    → AreMade old calls answers before mid → IsNext mid bytes answer before after new → AreMade old (calls ++ bytes ∷ []) (answers ++ answer ∷ []) after new
one_more old mid new calls answers before after bytes (Ok called) made next =
    let step : RunsOne mid bytes (Ok called) new = (new, next.0, refl) in
    record {
      runs = runs_more calls answers old mid new bytes (Ok called) made.runs step;
      kept = subst (λ (asked : List (List ℕ)). GroupOf old.state asked after new.state) (sym (answered_more calls answers old mid bytes (Ok called) made.runs))
          (group_more old.state mid.state new.state (answered calls answers) bytes before after made.kept next.1);
    }
one_more old mid new calls answers before after bytes (Err fault) made (refusal, stays, same) =
    let step : RunsOne mid bytes (Err fault) new = (refusal, stays) in
    record {
      runs = runs_more calls answers old mid new bytes (Err fault) made.runs step;
      kept = subst (λ (asked : List (List ℕ)). GroupOf old.state asked after new.state) (sym (answered_more calls answers old mid bytes (Err fault) made.runs ∙ append-nil (answered calls answers)))
          (subst (λ (d : Desk). GroupOf old.state (answered calls answers) after d.state) (sym stays) (subst (λ (g : List ℕ). GroupOf old.state (answered calls answers) g mid.state) (sym same) made.kept));
    }

-- the first so many calls, and the next
pub calls_so_far : {X : Type 0} (f : X → List ℕ) (xs : List X) (i : ℕ) (d : X) → i < length xs → map f (take (i + 1) xs) ≡ map f (take i xs) ++ f (get_or xs i d) ∷ []
calls_so_far f xs i d lt = ap (λ l. map f l) (take_more xs i d lt) ∙ map_push f (take i xs) (get_or xs i d)
