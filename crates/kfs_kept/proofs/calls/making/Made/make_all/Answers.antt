use Rattle.std.proofs.Common.{ℕ, ◌≤◌, ◌+◌, List, [], ◌∷◌, ◌++◌, length, map, take, get_or, Bor, ap, refl, subst, sym, arith, rules}
use Rattle.std.specs.Prelude.{Result}
use Rattle.std.specs.List.{sum_by}
use Rattle.std.proofs.lemmas.List.{take_all}
use Rattle.std.proofs.lemmas.List.Sums.{sum_by_more, sum_by_more_le}
use Rattle.kfs_call_desk.specs.declared.made.Called.{Called}
use Rattle.kfs_call_desk.specs.declared.made.CallFault.{CallFault}
use Rattle.kfs_kept.specs.Calls.Making.{AreMade}
use Rattle.kfs_kept.proofs.CallsLemmas.OneMore.{calls_so_far, none_made, one_more}
use Rattle.kfs_kept.proofs.calls.making.Made.make_all.Goals as goal

pub loop-bytes-preserved : goal.loop-bytes-preserved
loop-bytes-preserved g c =
    let at = c.loop-bytes in
    let none : Bor (List ℕ) = record { ref_ptr = (0, 0); now = [] } in
    let item : List ℕ = (get_or c.args.calls.now at.bytes-index none).now in
    let so_far : List (List ℕ) = map (λ (x : Bor (List ℕ)). x.now) (take at.bytes-index c.args.calls.now) in
    let after = c.make_call-answer.new in
    let answer = c.make_call-answer.result in
    let made = one_more c.args.desk.now at.desk after.desk so_far at.self.answers.items at.self.group.items after.group.items item answer at.invariant.made c.make_call-answer.ensures.next in
    let counted = subst (λ (calls : List (List ℕ)). AreMade c.args.desk.now calls (at.self.answers.items ++ answer ∷ []) after.group.items after.desk)
    (sym (calls_so_far (λ (x : Bor (List ℕ)). x.now) c.args.calls.now at.bytes-index none c.loop-bytes-test.true)) made in
    let told = subst (λ (answers : List (Result Called CallFault)). AreMade c.args.desk.now (map (λ (x : Bor (List ℕ)). x.now) (take (at.bytes-index + 1) c.args.calls.now)) answers after.group.items after.desk)
    (sym c.push_reserved.ensures.items) counted in
    let more = sum_by_more (λ (x : Bor (List ℕ)). length x.now + 24) c.args.calls.now at.bytes-index none c.loop-bytes-test.true in
    let len : length after.group.items ≤ length at.self.group.items + (length item + 24) = search rules in
    record {
      made = told;
      short = omega (arith, more, len, at.invariant.short);
      answers = search rules;
      answers_room = search rules;
      room = search rules;
    }

pub make_call-answer-requires-clause-room : goal.make_call-answer-requires-clause-room
make_call-answer-requires-clause-room g c =
    let at = c.loop-bytes in
    let none : Bor (List ℕ) = record { ref_ptr = (0, 0); now = [] } in
    let within = sum_by_more_le (λ (x : Bor (List ℕ)). length x.now + 24) c.args.calls.now at.bytes-index none c.loop-bytes-test.true in
    omega (arith, within, at.invariant.short, at.invariant.room, c.requires.room)

pub loop-bytes-init : goal.loop-bytes-init
loop-bytes-init g c =
    let none = c.requires.none in
    let desk = c.args.desk.now in
    let made = subst (λ (answers : List (Result Called CallFault)). AreMade desk [] answers c.args.self.now.group.items desk) (sym none.0)
    (subst (λ (group : List ℕ). AreMade desk [] [] group desk) (sym none.1) (none_made desk)) in
    let zero = ap length none.1 in
    record {
      made = made;
      short = omega (arith, zero);
      answers = ap length none.0;
      answers_room = refl;
      room = omega arith;
    }

pub returns-clause-made : goal.returns-clause-made
returns-clause-made g c =
    let at = c.loop-bytes in
    subst (λ (xs : List (Bor (List ℕ))). AreMade c.args.desk.now (map (λ (x : Bor (List ℕ)). x.now) xs) at.self.answers.items at.self.group.items at.desk)
    (take_all at.bytes-index c.args.calls.now c.loop-bytes-test.false) at.invariant.made

pub returns-clause-short : goal.returns-clause-short
returns-clause-short g c =
    let at = c.loop-bytes in
    subst (λ (xs : List (Bor (List ℕ))). length at.self.group.items ≤ sum_by (λ (x : Bor (List ℕ)). length x.now + 24) xs)
    (take_all at.bytes-index c.args.calls.now c.loop-bytes-test.false) at.invariant.short
