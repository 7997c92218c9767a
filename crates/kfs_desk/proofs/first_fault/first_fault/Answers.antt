-- One client more, without a fault behind the earlier ones.
use Rattle.std.proofs.Common.{◌≡◌, ℕ, ◌+◌, ◌<◌, ◌++◌, ◌∷◌, [], true, List, Some, None, length, get_or, take, drop, nat_cmp, is_some, refl, sym, ap, subst, ◌∙◌, add-one, take_all, take-append-drop, arith}
use Rattle.std.proofs.Math.Seq.{take-suc}
use Rattle.std.proofs.lemmas.Bool.{not-true, not-false}
use Rattle.std.proofs.lemmas.List.{drop_more, length-take-le}
use Rattle.std.specs.List.{AllByRecursion, list_any}
use Rattle.std.specs.Prelude.{◌↔◌, IsTrue}
use Rattle.std.specs.Ordering.{is_eq}
use Rattle.std.specs.BTreeSet.{Updates}
use Rattle.kfs_model.specs.Access.{Client}
use Rattle.kfs_model.specs.CleanStep.{IsClient}
use Rattle.kfs_model.proofs.FirstAnswer.{first_is, none_more}
use Rattle.kfs_mode.specs.Clients.{ClientsAreDistinct}
use Rattle.kfs_desk.specs.declared.history.answers.BeginFault.{BeginFault}
use Rattle.kfs_desk.specs.declared.history.answers.BeginFault.TheVariants.{ClientTwice, GrantOverlap}
use Rattle.kfs_image.specs.Tier.Places.{is_free_in}
use Rattle.kfs_desk.specs.Grants.{AreUngranted, MarksGranted}
use Rattle.kfs_desk.specs.Opening.{begin_fault, fault_behind}
use Rattle.kfs_desk.proofs.ClientRows.{distinct_more, in_range_more}
use Rattle.kfs_desk.proofs.GrantedNumbers.{AreGrantsOf, none_granted, granted_more, overlap_from_granted, none_from_ungranted}
use Rattle.kfs_desk.proofs.NumberSet.{AreNumbersOf, added_if_new, number_more}
use Rattle.kfs_desk.proofs.Openings.{number_taken, grant_taken, no_fault}
use Rattle.kfs_desk.proofs.first_fault.first_fault.Goals as goal

module _ (clients : List Client) (i : ℕ) (client : Client) (below : i < length clients) (is : client ≡ get_or clients i client) where
  -- a fault behind those before it is the first
  fault_here : (fault : BeginFault) → begin_fault (take i clients) ≡ None → fault_behind (take i clients) client ≡ Some fault → Some fault ≡ begin_fault clients
  fault_here fault none found =
      let ahead : drop i clients ≡ client ∷ drop (i + 1) clients = drop_more clients i client below ∙ ap (λ row. row ∷ drop (i + 1) clients) (sym is) in
      let cut : take i clients ++ client ∷ drop (i + 1) clients ≡ clients = ap (λ rest. take i clients ++ rest) (sym ahead) ∙ take-append-drop i clients in
      sym found ∙ sym (first_is fault_behind (take i clients) client (drop (i + 1) clients) none (ap is_some found)) ∙ ap begin_fault cut

  grown : take (i + 1) clients ≡ take i clients ++ client ∷ []
  grown = ap (λ n. take n clients) (add-one i) ∙ take-suc clients i client below ∙ ap (λ row. take i clients ++ row ∷ []) (sym is)

pub loop-index-init : goal.loop-index-init
loop-index-init g c = record {
  first = refl;
  distinct = refl;
  in_range = tt;
  numbers = λ n. ap (λ keys. list_any (λ key. is_eq (nat_cmp n key)) keys) c.new-numbers.ensures.empty;
  grants = λ n within. ap (λ free. is_free_in free n) c.in_ok-ungranted.ensures ∙ none_granted n within;
}

pub returns-then-not-branch-clause-first : goal.returns-then-not-branch-clause-first
returns-then-not-branch-clause-first g c =
    let i = c.loop-index.index in
    let clients = c.args.clients.now in
    let client = c.index-clients-index.result in
    let added = added_if_new (take i clients) client c.loop-index.numbers c.loop-index.invariant.numbers c.number.ensures.number c.in_ok-insert.ensures.added in
    let twice = not-false _ (sym added ∙ c.if-not-branch.true) in
    fault_here clients i client c.loop-index-test.true c.index-clients-index.is (ClientTwice i) c.loop-index.invariant.first
    (number_taken (take i clients) client twice ∙ ap (λ n. Some (ClientTwice n)) (length-take-le i clients (omega arith)))

pub returns-then-not-are_ungranted-clause-first : goal.returns-then-not-are_ungranted-clause-first
returns-then-not-are_ungranted-clause-first g c =
    let i = c.loop-index.index in
    let clients = c.args.clients.now in
    let client = c.index-clients-index.result in
    let added = added_if_new (take i clients) client c.loop-index.numbers c.loop-index.invariant.numbers c.number.ensures.number c.in_ok-insert.ensures.added in
    let new = not-true _ (sym added ∙ c.if-not-branch.false) in
    let tells = subst (λ (p : ℕ × ℕ). IsTrue c.are_ungranted.result ↔ AreUngranted c.loop-index.ungranted p.0 p.1) c.grant-first.ensures c.are_ungranted.ensures in
    let overlap = overlap_from_granted (take i clients) c.loop-index.ungranted client c.loop-index.invariant.grants c.number.ensures.in_range c.are_ungranted.result tells c.if-not-are_ungranted.true in
    fault_here clients i client c.loop-index-test.true c.index-clients-index.is (GrantOverlap i) c.loop-index.invariant.first
    (grant_taken (take i clients) client new overlap ∙ ap (λ n. Some (GrantOverlap n)) (length-take-le i clients (omega arith)))

pub loop-index-preserved : goal.loop-index-preserved
loop-index-preserved g c =
    let i = c.loop-index.index in
    let clients = c.args.clients.now in
    let client = c.index-clients-index.result in
    let earlier = take i clients in
    let held = c.loop-index.invariant in
    let more = sym (grown clients i client c.loop-index-test.true c.index-clients-index.is) in
    let added = added_if_new earlier client c.loop-index.numbers held.numbers c.number.ensures.number c.in_ok-insert.ensures.added in
    let new = not-true _ (sym added ∙ c.if-not-branch.false) in
    let updates = subst (λ n. Updates nat_cmp c.loop-index.numbers c.insert.new.self n true) c.number.ensures.number c.in_ok-insert.ensures.updates in
    let tells = subst (λ (p : ℕ × ℕ). IsTrue c.are_ungranted.result ↔ AreUngranted c.loop-index.ungranted p.0 p.1) c.grant-first.ensures c.are_ungranted.ensures in
    let marked = subst (λ (p : ℕ × ℕ). MarksGranted c.loop-index.ungranted p.0 p.1 c.mark_granted.new.ungranted) c.grant-first.ensures c.mark_granted.ensures in
    let alone = none_from_ungranted earlier c.loop-index.ungranted client held.grants c.number.ensures.in_range (tells.0 c.if-not-are_ungranted.false) in
    record {
      first = ap begin_fault (sym more) ∙ none_more fault_behind earlier client held.first (no_fault earlier client new alone);
      distinct = subst ClientsAreDistinct more (distinct_more earlier client held.distinct new);
      in_range = subst (λ (rows : List Client). AllByRecursion IsClient rows) more (in_range_more earlier client held.in_range c.number.ensures.in_range);
      numbers = subst (λ (rows : List Client). AreNumbersOf rows c.insert.new.self) more (number_more earlier client c.loop-index.numbers c.insert.new.self held.numbers updates);
      grants = subst (λ (rows : List Client). AreGrantsOf rows c.mark_granted.new.ungranted) more (granted_more earlier client c.loop-index.ungranted c.mark_granted.new.ungranted held.grants marked);
    }

pub returns-clause-first : goal.returns-clause-first
returns-clause-first g c =
    let i = c.loop-index.index in
    let clients = c.args.clients.now in
    sym c.loop-index.invariant.first ∙ ap begin_fault (take_all i clients (omega arith))

pub returns-clause-distinct : goal.returns-clause-distinct
returns-clause-distinct g c none = subst ClientsAreDistinct (take_all c.loop-index.index c.args.clients.now (omega arith)) c.loop-index.invariant.distinct

pub returns-clause-in_range : goal.returns-clause-in_range
returns-clause-in_range g c none = subst (λ (rows : List Client). AllByRecursion IsClient rows) (take_all c.loop-index.index c.args.clients.now (omega arith)) c.loop-index.invariant.in_range
