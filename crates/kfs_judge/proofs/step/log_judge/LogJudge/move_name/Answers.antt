-- What the second name led to loses it first, and then the node moved has it.
use Rattle.std.specs.Prelude.{◌≡◌, ℕ, List, [], ◌∷◌, Option, Some, None, option_and_then, if◌then◌else◌, refl}
use Rattle.std.proofs.Common.{ap, sym, subst, ◌∙◌, arith}
use Rattle.std.proofs.lemmas.Bool.{ne_eqb}
use Rattle.kfs_model.specs.Sight.{Sight, Cell, HeaderOf, kind_shown}
use Rattle.kfs_model.specs.SeenAfter.{seen_moved, seen_renamed, seen_unlinked, unlinked}
use Rattle.kfs_judge.specs.Step.Entered.{headers_renamed, headers_unlinked}
use Rattle.kfs_judge_reads.specs.Draft.Overlay.{over, with_name_moved}
use Rattle.kfs_judge_reads.specs.Reads.{IsPart, Within}
use Rattle.kfs_judge_reads.proofs.DraftLemmas.Overlays.{shifts_wider}
use Rattle.kfs_judge_reads.proofs.Recording.{goes_then, within_then, within_wider, left_is_part, right_is_part}
use Rattle.kfs_judge.proofs.step.log_judge.LogJudge.move_name.Goals as goal

-- ---- where the second name leads to another node, or to none

abbrev both_headers : ℕ → Option ℕ → List Cell
both_headers s to = HeaderOf s ∷ headers_unlinked to

headers_are : (s : ℕ) (to : Option ℕ) → (to ≡ Some s → ⊥) → both_headers s to ≡ headers_renamed (Some s) to
headers_are s None other = refl
headers_are s (Some t) other = ap (λ same. if same then [] else HeaderOf s ∷ HeaderOf t ∷ []) (sym (ne_eqb t s (λ is. other (ap Some is))))

moved_is : (d : ℕ) (m : List ℕ) (e : ℕ) (k : List ℕ) (n : ℕ) (to : Option ℕ) (s : Sight) → (to ≡ Some n → ⊥) → seen_moved d m e k n (seen_unlinked e k to s) ≡ seen_renamed d m e k (Some n) to s
moved_is d m e k n None s other = refl
moved_is d m e k n (Some t) s other = ap (λ same. if same then s else seen_moved d m e k n (seen_unlinked e k (Some t) s)) (sym (ne_eqb t n (λ is. other (ap Some is))))

kind_stays : (e : ℕ) (k : List ℕ) (n : ℕ) (to : Option ℕ) (s : Sight) → (to ≡ Some n → ⊥) → kind_shown ((seen_unlinked e k to s).head n) ≡ kind_shown (s.head n)
kind_stays e k n None s other = refl
kind_stays e k n (Some t) s other = ap (λ same. kind_shown (if same then option_and_then unlinked (s.head t) else s.head n)) (ne_eqb n t (λ is. other (ap Some (sym is))))

pub remove_name-requires : goal.remove_name-requires
remove_name-requires g c = shifts_wider c.args.self.now.draft 2147483644 2147483646 (omega arith) c.requires

pub move_name-requires : goal.move_name-requires
move_name-requires g c = c.in_ok-remove_name.ensures.shifts 2147483644 c.requires

pub returns-in_err-remove_name-clause-goes : goal.returns-in_err-remove_name-clause-goes
returns-in_err-remove_name-clause-goes g c = goes_then c.in_ok-kind.ensures.goes c.in_err-remove_name.ensures.goes

pub returns-in_err-move_name-clause-goes : goal.returns-in_err-move_name-clause-goes
returns-in_err-move_name-clause-goes g c = goes_then c.in_ok-kind.ensures.goes c.in_ok-remove_name.ensures.goes

pub returns-clause-goes : goal.returns-clause-goes
returns-clause-goes g c = goes_then c.in_ok-kind.ensures.goes c.in_ok-remove_name.ensures.goes

pub returns-clause-among : goal.returns-clause-among
returns-clause-among g c =
    let s = c.in-Some.moved in
    let to = c.args.to in
    let first = within_wider (left_is_part (HeaderOf s ∷ []) (headers_unlinked to)) c.in_ok-kind.ensures.among in
    let second = within_wider (right_is_part (HeaderOf s ∷ []) (headers_unlinked to)) c.in_ok-remove_name.ensures.among in
    let same = headers_are s to (c.leads_to.ensures.no c.if-leads_to.false) ∙ ap (λ from. headers_renamed from to) (sym c.in-Some.is) in
    subst (Within c.args.self.now.recorder.reads.entries c.remove_name.new.self.recorder.reads.entries) same (within_then first second)

pub returns-clause-shown : goal.returns-clause-shown
returns-clause-shown g c state agrees =
    let d = c.args.key.now.0 in
    let m = c.args.key.now.1 in
    let e = c.args.new_key.now.0 in
    let k = c.args.new_key.now.1 in
    let s = c.in-Some.moved in
    let to = c.args.to in
    let old = over c.args.self.now.draft state.sight in
    let other = c.leads_to.ensures.no c.if-leads_to.false in
    let kind_is = sym (kind_stays e k s to old other ∙ c.in_ok-kind.ensures.known state (c.in_ok-remove_name.ensures.goes.grows state agrees)) in
    let unlinked_is : over c.remove_name.new.self.draft state.sight ≡ seen_unlinked e k to old = c.in_ok-remove_name.ensures.shown state agrees in
    c.in_ok-move_name.ensures.shown state.sight
    ∙ (λ i. with_name_moved d m e k s (kind_is i) (unlinked_is i))
    ∙ moved_is d m e k s to old other
    ∙ ap (λ from. seen_renamed d m e k from to old) (sym c.in-Some.is)

pub returns-clause-written : goal.returns-clause-written
returns-clause-written g c among written name new_name headers =
    let s = c.in-Some.moved in
    let to = c.args.to in
    let same = ap (λ from. headers_renamed from to) c.in-Some.is ∙ sym (headers_are s to (c.leads_to.ensures.no c.if-leads_to.false)) in
    let both = subst (λ cells. IsPart cells among) same headers in
    let removed = c.in_ok-remove_name.ensures.written among written new_name (λ cell there. both cell (right_is_part (HeaderOf s ∷ []) (headers_unlinked to) cell there)) in
    c.in_ok-move_name.ensures.written among removed name new_name

pub returns-clause-kept : goal.returns-clause-kept
returns-clause-kept g c n is = c.in_ok-move_name.ensures.kept n (c.in_ok-remove_name.ensures.kept n is)
